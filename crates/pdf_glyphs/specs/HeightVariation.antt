-- What advance heights and the origins of "VORG" vary by off a font's default (OpenType, "VVAR"): its items are found
-- as those of "HVAR" are.
use Rattle.std.specs.Prelude.{◌≡◌, ℕ, ◌^◌, nat_lt, if◌then◌else◌, ◌&&◌, int_le, int_lt, List, map, Option, IfSome}
use Rattle.std.specs.Prelude.{Result, Err, ℤ, pos, neg_ℤ, ◌+ℤ◌, unsigned_abs}
use Rattle.std.specs.List.{slice_get}
use Rattle.std.specs.Option.{unwrap_or}
use Rattle.std.specs.Result.{result_unwrap_or}
use Rattle.subsetter_base.specs.declared.error.Error.{Error}
use Rattle.subsetter_base.specs.declared.error.Error.TheVariants.{MalformedFont}
use Rattle.subsetter_variation.specs.Items.ItemVariations.{whole_or_fault}
use Rattle.subsetter_variation.specs.Items.Advances.{advance_delta, advance_or_fault, origin_delta, origin_or_fault}
use Rattle.pdf_glyphs.specs.declared.heights.Deltas.{Deltas}
use Rattle.pdf_glyphs.specs.declared.heights.HeightVariation.{HeightVariation}

-- the normalized coordinates, in 16384ths, and the bytes of "VVAR"
pub record Variation : Type 0 where
  pub at : List ℤ
  pub vvar : List ℕ

abbrev pub variation_view : HeightVariation → Variation
variation_view v = record { at = v.at.now; vvar = v.vvar.now }

-- what a glyph's advance height varies by, in whole units, halves up; 0 where nothing is there to be read
abbrev pub height_delta : Variation → ℕ → ℤ
height_delta v g = result_unwrap_or (whole_or_fault (advance_delta v.vvar v.at g)) (pos 0)

-- a sum as an advance: at least 0; past 16 bits the advance stays
abbrev pub if_height : ℤ → ℕ → ℕ
if_height sum a = if int_le sum (pos 0) then 0 else if nat_lt (unsigned_abs sum) (2 ^ 16) then unsigned_abs sum else a

-- an advance height with what it varies by
abbrev pub varied_height : Variation → ℕ → ℕ → ℕ
varied_height v g a = if_height (pos a +ℤ height_delta v g) a

-- what the y of a glyph's origin varies by, in whole units, halves up; 0 where nothing is there to be read
abbrev pub origin_shift : Variation → ℕ → ℤ
origin_shift v g = result_unwrap_or (whole_or_fault (origin_delta v.vvar v.at g)) (pos 0)

-- a sum as the y of an origin; past 16 bits with a sign the y stays
abbrev pub if_origin : ℤ → ℤ → ℤ
if_origin sum y = if int_le (neg_ℤ (pos (2 ^ 15))) sum && int_lt sum (pos (2 ^ 15)) then sum else y

-- the y of an origin with what it varies by
abbrev pub varied_origin : Variation → ℕ → ℤ → ℤ
varied_origin v g y = if_origin (y +ℤ origin_shift v g) y

-- ---- what is known

-- a delta is that of a glyph's advance height
abbrev pub IsHeightBy : Option Variation → ℕ → Result ℤ Error → Type 0
IsHeightBy v g delta = IfSome v (λ it. delta ≡ advance_or_fault it.vvar it.at g)

-- a delta is that of the y of a glyph's origin
abbrev pub IsOriginBy : Option Variation → ℕ → Result ℤ Error → Type 0
IsOriginBy v g delta = IfSome v (λ it. delta ≡ origin_or_fault it.vvar it.at g)

-- deltas are those of glyphs, one of both kinds for each
pub record AreDeltas (v : Variation) (glyphs : List ℕ) (deltas : Deltas) : Type 0 where
  pub heights : deltas.heights.items ≡ map (advance_or_fault v.vvar v.at) glyphs
  pub origins : deltas.origins.items ≡ map (origin_or_fault v.vvar v.at) glyphs

abbrev pub AreDeltasBy : Option Variation → List ℕ → Deltas → Type 0
AreDeltasBy v glyphs deltas = IfSome v (λ it. AreDeltas it glyphs deltas)

-- the delta at a place of a list
abbrev pub known_at : List (Result ℤ Error) → ℕ → Result ℤ Error
known_at known k = unwrap_or (slice_get known k) (Err MalformedFont)
