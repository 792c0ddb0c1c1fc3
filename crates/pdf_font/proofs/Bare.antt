-- A face without outlines can't be opened.
use Rattle.std.proofs.Common.{◌≡◌, ℕ, Bool, true, false, List, Option, Some, None, refl, sym, ap, subst, ◌∙◌}
use Rattle.std.specs.Prelude.{codes, is_some, not, ◌||◌, IsSome}
use Rattle.std.specs.Option.{option_and_then}
use Rattle.std.specs.Str.{bytes_eq}
use Rattle.subsetter_base.specs.declared.error.Error.TheVariants.{UnknownKind}
use Rattle.subsetter_base.proofs.Lists.{and_parts}
use Rattle.subsetter_base.proofs.Options.{none_of}
use Rattle.subsetter_sfnt.specs.Extras.{by_hinting, by_names, by_glyph_names, is_hinting_table}
use Rattle.subsetter_sfnt.specs.Fault.{HasOpeningFault, no_outlines}
use Rattle.subsetter_sfnt.specs.Read.{Font, header_by_kind, header_offset, kind_at, records, records_at, stored, table}
use Rattle.subsetter_sfnt.specs.declared.face.FontKind.{FontKind}
use Rattle.subsetter_sfnt.specs.declared.face.FontKind.TheVariants.{Collection, Single}
use Rattle.subsetter_variable.specs.DefaultLocation.{IsCff2Font}
use Rattle.subsetter_variable.specs.Subset.{HasOpeningFaultAt, whole}
use Rattle.subsetter_variable.proofs.Unopened.{same_stored}
use Rattle.subsetter_sfnt.specs.Alone.{has_outlines}
use Rattle.pdf_font.specs.PdfFont.{lacks_outlines}

-- ---- tables of outlines are requested always

abbrev by_choice : Bool → Bool → Bool → List ℕ → Option (List ℕ) → Option (List ℕ)
by_choice h n g tag found = by_glyph_names g tag (by_names n tag (by_hinting h tag found))

untouched : (tag : List ℕ) (found : Option (List ℕ)) → is_hinting_table tag ≡ false → bytes_eq tag (codes "maxp") ≡ false → bytes_eq tag (codes "name") ≡ false → bytes_eq tag (codes "post") ≡ false → (h n g : Bool) → by_choice h n g tag found ≡ found
untouched tag found a b c d true true true = refl
untouched tag found a b c d true true false = rw d refl
untouched tag found a b c d true false true = rw c refl
untouched tag found a b c d true false false = rw (c, d) refl
untouched tag found a b c d false true true = rw (a, b) refl
untouched tag found a b c d false true false = rw (a, b, d) refl
untouched tag found a b c d false false true = rw (a, b, c) refl
untouched tag found a b c d false false false = rw (a, b, c, d) refl

-- ---- what is there

split : (a b c : Bool) → (a || (b || c)) ≡ false → (a ≡ false) × ((b ≡ false) × (c ≡ false))
split false false c h = (refl, (refl, h))
split false true c h = absurd (let both : true ≡ false = h in cc)
split true b c h = absurd (let both : true ≡ false = h in cc)

not_true : (b : Bool) → not b ≡ true → b ≡ false
not_true false h = refl
not_true true h = absurd (let both : false ≡ true = h in cc)

there : (o : Option (List ℕ)) → is_some o ≡ true → IsSome o
there (Some d) h = refl
there None h = absurd (let both : false ≡ true = h in cc)

-- the directory doesn't depend on what is requested
same_header : (font : Font) → header_offset (whole font) ≡ header_offset font
unfolding header_offset
same_header font = by (kind_at font.bytes 0)
  where
    by : (kind : Option FontKind) → option_and_then (λ it. header_by_kind it (whole font)) kind ≡ option_and_then (λ it. header_by_kind it font) kind
    by None = refl
    by (Some Single) = refl
    by (Some Collection) = refl

same_records : (font : Font) → records (whole font) ≡ records font
same_records font = ap (option_and_then (λ at. records_at font.bytes at)) (same_header font)

module _ (font : Font) (bare : lacks_outlines font ≡ true) where
  parts : (is_some (records (whole font)) ≡ true) × (not (has_outlines (stored (whole font))) ≡ true)
  parts = and_parts (is_some (records (whole font))) (not (has_outlines (stored (whole font)))) bare

  lacks : (is_some (stored (whole font) (codes "glyf")) ≡ false) × ((is_some (stored (whole font) (codes "CFF ")) ≡ false) × (is_some (stored (whole font) (codes "CFF2")) ≡ false))
  lacks = split (is_some (stored (whole font) (codes "glyf"))) (is_some (stored (whole font) (codes "CFF "))) (is_some (stored (whole font) (codes "CFF2"))) (not_true (has_outlines (stored (whole font))) parts.1)

  absent : (tag : List ℕ) → is_some (stored (whole font) tag) ≡ false → stored font tag ≡ None
  absent tag none = sym (same_stored font tag) ∙ none_of (stored (whole font) tag) none

  unasked : (tag : List ℕ) → is_hinting_table tag ≡ false → bytes_eq tag (codes "maxp") ≡ false → bytes_eq tag (codes "name") ≡ false → bytes_eq tag (codes "post") ≡ false → is_some (stored (whole font) tag) ≡ false → table font tag ≡ None
  unasked tag a b c d none = untouched tag (stored font tag) a b c d font.extras.hinting font.extras.names font.extras.glyph_names ∙ absent tag none

  not_cff2 : IsCff2Font (whole font) → ⊥
  not_cff2 is = let there = is.cff2 in let none = none_of (stored (whole font) (codes "CFF2")) lacks.1.1 in cc

  -- it has no outlines
  pub bare_unopened : HasOpeningFaultAt font UnknownKind
  bare_unopened = record {
    fault = no_outlines (subst IsSome (same_records font) (there (records (whole font)) parts.0)) (unasked (codes "glyf") refl refl refl refl lacks.0) (unasked (codes "CFF ") refl refl refl refl lacks.1.0) (unasked (codes "CFF2") refl refl refl refl lacks.1.1);
    not_cff2 = not_cff2;
  }
