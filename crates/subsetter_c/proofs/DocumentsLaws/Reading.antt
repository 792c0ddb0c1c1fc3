-- A text that is read without shaping, in other words.
use Rattle.std.proofs.Common.{◌≡◌, ℕ, List, refl, ap, subst, ◌∙◌, inl, inr, Option, Some, None, Result, Ok, Err}
use Rattle.std.specs.Prelude.{IfOk, IfErr, IfSome}
use Rattle.std.specs.Option.{option_map}
use Rattle.subsetter_base.specs.declared.error.Error.{Error}
use Rattle.subsetter_base.specs.declared.error.Error.TheVariants.{OutOfMemory}
use Rattle.subsetter_sfnt.specs.Read.{Font}
use Rattle.text_glyphs.specs.Faces.{face_source}
use Rattle.text_glyphs.specs.Reading.{Source, entries_of, missing_in}
use Rattle.text_glyphs.specs.View.{source_view}
use Rattle.text_glyphs.specs.declared.reading.Entry.{Entry}
use Rattle.text_glyphs.specs.declared.reading.ReadText.{ReadText}
use Rattle.text_glyphs.specs.declared.source.TextSource.{TextSource}
use Rattle.subsetter_c.specs.Answers.Handed.{begun_with}
use Rattle.subsetter_c.specs.Answers.Status.{no_cmap}
use Rattle.subsetter_c.specs.Documents.PdfGlyphs.{IsGlyphRefusal, IsUnread}
use Rattle.subsetter_c.specs.Documents.Reading.{IsNothingRead, IsReadBy, IsReadHanded, IsReadMade, IsReadOf, ReadBuffers, read_begun, refused, short, whole}
use Rattle.subsetter_c.specs.declared.documents.reading.ReadSizes.{ReadSizes}

abbrev read_buffers : List Entry → List ℕ → ReadBuffers
read_buffers e m = record { entries = e; missing = m }

-- both lists are at the front of their buffers
pub both_placed : (entries : List Entry) (missing : List ℕ) (r : ReadText) (e : List Entry) (m : List ℕ) (entries_after : List Entry) (missing_after : List ℕ) → e ≡ r.entries.items → m ≡ r.missing.items → entries_after ≡ begun_with e entries → missing_after ≡ begun_with m missing → read_buffers entries_after missing_after ≡ read_begun r (read_buffers entries missing)
both_placed entries missing r e m entries_after missing_after pe pm be bm =
    let entries_are : entries_after ≡ begun_with r.entries.items entries = be ∙ ap (λ l. begun_with l entries) pe in
    let missing_are : missing_after ≡ begun_with r.missing.items missing = bm ∙ ap (λ l. begun_with l missing) pm in
    ap (λ x. read_buffers x missing_after) entries_are ∙ ap (read_buffers (begun_with r.entries.items entries)) missing_are

-- what holds of what is read and of the error may be weakened
pub read_as : (Is Said : ReadText → Type 0) (Why Named : Error → Type 0) (before after : ReadBuffers) (told : ReadSizes) (status : ℕ) → ((r : ReadText) → Is r → Said r) → ((e : Error) → Why e → Named e) → IsReadHanded Is Why before after told status → IsReadHanded Said Named before after told status
read_as Is Said Why Named before after told status is why (whole r i f a t s) = whole r (is r i) f a t s
read_as Is Said Why Named before after told status is why (short r i f a t s) = short r (is r i) f a t s
read_as Is Said Why Named before after told status is why (refused e w a t s) = refused e (why e w) a t s

-- both lists of what is read
pub read_both : (s : Source) (text : List ℕ) (r : Result ReadText Error) → IfOk r (λ read. read.entries.items ≡ entries_of s text) → IfOk r (λ read. read.missing.items ≡ missing_in s text) → IfOk r (IsReadBy s text)
read_both s text (Ok read) e m = record { entries_are = e; missing_are = m }
read_both s text (Err why) e m = tt

-- an answer is handed over: then what is known of it
pub read_handed : (Said : ReadText → Type 0) (Named : Error → Type 0) (answer : Result ReadText Error) (before after : ReadBuffers) (told : ReadSizes) (status : ℕ) → IfOk answer Said → IfErr answer Named → IsReadHanded (λ r. answer ≡ Ok r) (λ e. answer ≡ Err e) before after told status → IsReadHanded Said Named before after told status
read_handed Said Named answer before after told status ok err = read_as (λ r. answer ≡ Ok r) Said (λ e. answer ≡ Err e) Named before after told status
    (λ r is. subst (λ (a : Result ReadText Error). IfOk a Said) is ok)
    (λ e is. subst (λ (a : Result ReadText Error). IfErr a Named) is err)

-- a text is handed over where there is a source, and nothing where there is none
module _ (font : Font) (clean : (e : Error) → IsUnread font e → ⊥) (text : List ℕ) (before after : ReadBuffers) (told : ReadSizes) (status : ℕ) where
  pub read_made : (r : Option TextSource) → face_source font ≡ option_map source_view r → (r ≡ None → IsNothingRead no_cmap before after told status) → IfSome r (λ s. IsReadHanded (IsReadBy (source_view s) text) (λ e. e ≡ OutOfMemory) before after told status) → IsReadMade font text before after told status
  read_made None e none some = inl (record { opens = clean; none = e }, none refl)
  read_made (Some s) e none some =
      inr (read_as (IsReadBy (source_view s) text) (IsReadOf font text) (λ e. e ≡ OutOfMemory) (IsGlyphRefusal font) before after told status
      (λ r is. record { opens = clean; source = source_view s; found = e; are = is }) (λ e is. inl (record { is = is; opens = clean })) some)
