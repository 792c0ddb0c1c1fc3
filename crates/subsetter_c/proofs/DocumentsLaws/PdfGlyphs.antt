-- The glyphs of characters, in other words.
use Rattle.std.proofs.Common.{◌≡◌, ℕ, List, refl, sym, ap, ◌∙◌, inl, inr, Option, Some, None, Result, Ok, Err, map}
use Rattle.std.specs.Prelude.{IfOk, IfErr, IfSome, codes}
use Rattle.std.specs.Option.{option_and_then, option_map}
use Rattle.subsetter_base.specs.declared.error.Error.{Error}
use Rattle.subsetter_base.specs.declared.error.Error.TheVariants.{OutOfMemory}
use Rattle.subsetter_sfnt.specs.Plain.{opened}
use Rattle.subsetter_sfnt.specs.Read.{Font, table_in}
use Rattle.subsetter_sfnt.specs.declared.face.Face.{Face}
use Rattle.subsetter_variable.proofs.Stands.{find_is}
use Rattle.text_glyphs.specs.Choice.{character_glyph}
use Rattle.text_glyphs.specs.Faces.{face_source}
use Rattle.text_glyphs.specs.Reading.{source_of}
use Rattle.text_glyphs.specs.View.{source_view}
use Rattle.text_glyphs.specs.declared.source.TextSource.{TextSource}
use Rattle.subsetter_c.specs.Answers.Handed.{IsHandedOver, IsNothingHanded}
use Rattle.subsetter_c.specs.Answers.Status.{no_cmap}
use Rattle.subsetter_c.specs.Documents.PdfGlyphs.{AreGlyphsHanded, AreGlyphsOf, IsGlyphRefusal, IsUnread}
use Rattle.subsetter_c.proofs.AnswersLaws.Bytes.{said_as}

-- a face whose directory is read
abbrev IsRead : Font → Face → Type 0
IsRead font face = (face.«data».now ≡ font.bytes) × (opened font ≡ Ok face.records.now)

pub read_clean : (font : Font) (face : Face) → IsRead font face → (e : Error) → IsUnread font e → ⊥
read_clean font face read e unread = let both = sym read.1 ∙ unread in cc

-- what it finds is what its font has
pub found : (font : Font) (face : Face) → IsRead font face → (r : Option TextSource) → option_map source_view r ≡ option_and_then source_of (table_in face.«data».now face.records.now (codes "cmap")) → face_source font ≡ option_map source_view r
found font face read r h = sym (h ∙ ap (λ (find : List ℕ → Option (List ℕ)). option_and_then source_of (find (codes "cmap"))) (find_is font face.records.now face.«data».now read.1 read.0))

-- glyphs are handed over where there is a source, and nothing where there is none
module _ (font : Font) (clean : (e : Error) → IsUnread font e → ⊥) (text before after : List ℕ) (told status : ℕ) where
  pub handed : (r : Option TextSource) → face_source font ≡ option_map source_view r → (r ≡ None → IsNothingHanded no_cmap before after told status) → IfSome r (λ s. IsHandedOver (λ found. found ≡ map (character_glyph (source_view s).table) text) (λ e. e ≡ OutOfMemory) before after told status) → AreGlyphsHanded font text before after told status
  handed None e none some = inl (record { opens = clean; none = e }, none refl)
  handed (Some s) e none some =
      inr (said_as (λ found. found ≡ map (character_glyph (source_view s).table) text) (AreGlyphsOf font text) (λ e. e ≡ OutOfMemory) (IsGlyphRefusal font) before after told status
      (λ found is. record { opens = clean; source = source_view s; found = e; are = is }) (λ e is. inl (record { is = is; opens = clean })) some)
