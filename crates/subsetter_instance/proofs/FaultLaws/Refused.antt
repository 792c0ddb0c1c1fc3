-- A font of which there is no instance has a fault.
use Rattle.std.proofs.Common.{◌≡◌, ℕ, Bool, true, false, cond, List, length, Option, Some, Ok, Err, ℤ, refl, sym, ap, subst, ◌∙◌, inl, inr}
use Rattle.std.specs.Prelude.{codes}
use Rattle.subsetter_base.specs.Bytes.{◌>>=◌}
use Rattle.subsetter_base.specs.declared.tag.Tag.{Tag}
use Rattle.subsetter_base.specs.declared.error.Error.{Error}
use Rattle.subsetter_base.specs.declared.error.Error.TheVariants.{MalformedFont, Unimplemented, OverflowError}
use Rattle.subsetter_base.proofs.Options.{some_not_none}
use Rattle.subsetter_base.proofs.Results.{failed_is, bind_err, named_ok, named_err}
use Rattle.subsetter_sfnt.specs.declared.flavor.FontFlavor.{FontFlavor}
use Rattle.subsetter_sfnt.specs.declared.flavor.FontFlavor.TheVariants.{TrueType, Cff}
use Rattle.subsetter_sfnt.specs.Plain.{opened, flavored, file_of}
use Rattle.subsetter_sfnt.specs.Read.{Font, table_in, stored}
use Rattle.subsetter_sfnt.specs.Laying.Written.{Table, fits, file, start_of, kind_word}
use Rattle.subsetter_sfnt.proofs.Laws.Fault.{opened_refused}
use Rattle.subsetter_instance.specs.Source.{Source, normalized_coordinates, source_in, source_or_fault}
use Rattle.subsetter_instance.specs.Glyphs.Drawn.{Drawn}
use Rattle.subsetter_instance.specs.Tables.Lines.{Lines, lines_of}
use Rattle.subsetter_instance.specs.Plain.{drawn_all, header, laid, instance_in, by_flavor, instance_of}
use Rattle.subsetter_instance.specs.Fault.{HasInstanceFault, in_opening, no_glyf, in_place, in_versions, in_source, in_glyph, in_lines, large_file}
use Rattle.subsetter_instance.specs.Answer.{HasNoAnswer}
use Rattle.subsetter_instance.proofs.FaultLaws.Opening.{same_find, unflavored, is_cff}
use Rattle.subsetter_instance.proofs.FaultLaws.Glyph.{not_all_drawn}
use Rattle.subsetter_instance.proofs.FaultLaws.Lines.{lines_refused}
use Rattle.subsetter_instance.proofs.FaultLaws.Place.{place_refused}
use Rattle.subsetter_instance.proofs.FaultLaws.Source.{tables_refused, versions_refused}
use Rattle.subsetter_instance.proofs.FileLaws.Steps.{laid_tables, source_read, source_refused, source_steps}

-- a file that isn't laid out is too large
pub not_laid : (kind : ℕ) (ts : List Table) (e : Error) → file_of kind ts ≡ Err e → (fits (start_of ts) ts ≡ false) × (OverflowError ≡ e)
unfolding file_of
not_laid kind ts e h = by (fits (start_of ts) ts) h
  where
    by : (b : Bool) → cond b (Ok (file kind ts)) (Err OverflowError) ≡ Err e → (b ≡ false) × (OverflowError ≡ e)
    by true k = absurd cc
    by false k = (refl, failed_is {A = List ℕ} OverflowError e k)

-- a header that was read from is there
not_missing : (find : List ℕ → Option (List ℕ)) (tag bytes : List ℕ) (e : Error) → find tag ≡ Some bytes → header find tag ≡ Err e → ⊥
not_missing find tag bytes e is h = some_not_none (find tag) bytes is (named_err (find tag) MalformedFont e h).0

module _ (font : Font) (settings : List (Tag × ℤ)) (glyphs : List ℕ) (steps : ℕ) (e : Error) where
  abbrev Faulty : Type 0
  Faulty = HasInstanceFault font settings glyphs steps e

  module _ (at : List ℤ) (s : Source) (placed : normalized_coordinates (stored font) settings ≡ Ok at) (read : source_in (stored font) (length at) ≡ Some s) where
    unlaid : (ds : List Drawn) (l : Lines) → drawn_all s at steps glyphs ≡ Ok ds → lines_of (stored font) settings at ≡ Ok l → laid (stored font) l s glyphs ds ≡ Err e → Faulty
    unfolding laid
    unlaid ds l drawn varies h =
        let t = source_steps (stored font) (length at) s read in
        elim (bind_err (header (stored font) (codes "head")) (λ head. file_of (kind_word TrueType) (laid_tables (stored font) l s glyphs ds head)) e h) [
          | inl k ↦ absurd (not_missing (stored font) (codes "head") t.head e t.head_is k)
          | inr k ↦
              let n = not_laid (kind_word TrueType) (laid_tables (stored font) l s glyphs ds k.0) e k.2 in
              subst (HasInstanceFault font settings glyphs steps) n.1 (large_file at s ds l k.0 placed read drawn varies (named_ok (stored font (codes "head")) MalformedFont k.0 k.1) n.0)
        ]

    unvaried : (ds : List Drawn) → drawn_all s at steps glyphs ≡ Ok ds → (lines_of (stored font) settings at >>= λ l. laid (stored font) l s glyphs ds) ≡ Err e → Faulty
    unvaried ds drawn h =
        elim (bind_err (lines_of (stored font) settings at) (λ l. laid (stored font) l s glyphs ds) e h) [
          | inl k ↦ let t = source_steps (stored font) (length at) s read in in_lines at placed (lines_refused (stored font) at settings t.hhea e t.hhea_is k)
          | inr k ↦ unlaid ds k.0 drawn k.1 k.2
        ]

    unmade : (drawn_all s at steps glyphs >>= λ ds. lines_of (stored font) settings at >>= λ l. laid (stored font) l s glyphs ds) ≡ Err e → Faulty
    unmade h =
        elim (bind_err (drawn_all s at steps glyphs) (λ ds. lines_of (stored font) settings at >>= λ l. laid (stored font) l s glyphs ds) e h) [
          | inl k ↦ let u = not_all_drawn s at steps glyphs e k in in_glyph at s u.g placed read u.there u.fault
          | inr k ↦ unvaried k.0 k.1 k.2
        ]

  unread : (at : List ℤ) → normalized_coordinates (stored font) settings ≡ Ok at → (source_or_fault (stored font) (length at) >>= λ s. drawn_all s at steps glyphs >>= λ ds. lines_of (stored font) settings at >>= λ l. laid (stored font) l s glyphs ds) ≡ Err e → Faulty
  unread at placed h =
      elim (bind_err (source_or_fault (stored font) (length at)) (λ s. drawn_all s at steps glyphs >>= λ ds. lines_of (stored font) settings at >>= λ l. laid (stored font) l s glyphs ds) e h) [
        | inl k ↦ elim (source_refused (stored font) (length at) e k) [
          | inl n ↦ subst (HasInstanceFault font settings glyphs steps) n.1 (in_versions (versions_refused (stored font) n.0))
          | inr n ↦ subst (HasInstanceFault font settings glyphs steps) n.1 (in_source at placed (tables_refused (stored font) (length at) n.0))
        ]
        | inr k ↦ unmade at k.0 placed (source_read (stored font) (length at) k.0 k.1).1 k.2
      ]

  in_tables : instance_in (stored font) settings glyphs steps ≡ Err e → Faulty
  unfolding instance_in
  in_tables h =
      elim (bind_err (normalized_coordinates (stored font) settings) (λ at. source_or_fault (stored font) (length at) >>= λ s. drawn_all s at steps glyphs >>= λ ds. lines_of (stored font) settings at >>= λ l. laid (stored font) l s glyphs ds) e h) [
        | inl k ↦ in_place (place_refused (stored font) settings e k)
        | inr k ↦ unread k.0 k.1 k.2
      ]

  by_kind : (f : FontFlavor) → flavored (stored font) ≡ Ok f → by_flavor f (stored font) settings glyphs steps ≡ Err e → Faulty
  by_kind TrueType is h = in_tables h
  by_kind Cff is h = let c = is_cff (stored font) is in subst (HasInstanceFault font settings glyphs steps) (failed_is {A = List ℕ} Unimplemented e h) (no_glyf c.0 c.1)

  -- an error is that of a fault
  pub refused : instance_of font settings glyphs steps ≡ Err e → Faulty
  unfolding instance_of
  refused h =
      elim (bind_err (opened font) (λ d. flavored (table_in font.bytes d) >>= λ f. by_flavor f (table_in font.bytes d) settings glyphs steps) e h) [
        | inl k ↦ in_opening (opened_refused font e k)
        | inr k ↦ elim (bind_err (flavored (table_in font.bytes k.0)) (λ f. by_flavor f (table_in font.bytes k.0) settings glyphs steps) e k.2) [
          | inl l ↦ in_opening (unflavored font k.0 e k.1 l)
          | inr l ↦
              let same = sym (same_find font k.0 k.1) in
              by_kind l.0 (ap flavored (sym same) ∙ l.1) (ap (λ find. by_flavor l.0 find settings glyphs steps) (sym same) ∙ l.2)
        ]
      ]

-- where an error is given there is no answer
pub no_answer : (font : Font) (settings : List (Tag × ℤ)) (glyphs : List ℕ) (steps : ℕ) (e : Error) → instance_of font settings glyphs steps ≡ Err e → HasNoAnswer font settings glyphs steps
no_answer font settings glyphs steps e h file a = a.clean e (refused font settings glyphs steps e h)
