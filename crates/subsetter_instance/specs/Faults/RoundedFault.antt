-- The faults of an advance and of rounded points, each with its error (OpenType, "HVAR", "hmtx" and "glyf").
use Rattle.std.specs.Prelude.{◌≡◌, ◌≤◌, ℕ, ◌^◌, Bool, false, ◌&&◌, List, ◌∷◌, length, Option, Some, Ok, None, ℤ, pos}
use Rattle.std.specs.Prelude.{◌+ℤ◌, ◌-ℤ◌, int_le, nat_lt, unsigned_abs}
use Rattle.subsetter_base.specs.declared.error.Error.{Error}
use Rattle.subsetter_base.specs.declared.error.Error.TheVariants.{MalformedFont, OverflowError}
use Rattle.subsetter_points.specs.Simple.{has_16_bits}
use Rattle.subsetter_variation.specs.Items.ItemVariations.{whole_or_fault}
use Rattle.subsetter_variation.specs.Items.Advances.{advance_delta}
use Rattle.subsetter_instance.specs.Glyphs.Drawn.{whole}
use Rattle.subsetter_instance.specs.Faults.ItemFault.{HasHvarFault}

-- an advance over 65535
abbrev pub IsWide : ℤ → Type 0
IsWide v = (int_le v (pos 0) ≡ false) × (nat_lt (unsigned_abs v) (2 ^ 16) ≡ false)

-- of a glyph that hmtx gives this advance, between whose phantom points there is this width
pub data HasAdvanceFault (hvar : Option (List ℕ)) (at : List ℤ) (g before : ℕ) (width : ℤ) : Error → Type 0 where
  -- HVAR, its store, its map or its item for the glyph
  in_hvar : (bytes : List ℕ) → hvar ≡ Some bytes → HasHvarFault bytes (length at) g
      → HasAdvanceFault hvar at g before width MalformedFont
  -- HVAR varies it by 2 ^ 32 units or more
  large_item : (bytes : List ℕ) (d : ℤ) → hvar ≡ Some bytes → advance_delta bytes at g ≡ Some d
      → 2 ^ 62 ≤ unsigned_abs d
      → HasAdvanceFault hvar at g before width OverflowError
  -- it has no 16 bits: what hmtx has, as HVAR varies it
  wide_by_item : (bytes : List ℕ) (d : ℤ) → hvar ≡ Some bytes → whole_or_fault (advance_delta bytes at g) ≡ Ok d
      → IsWide (pos before +ℤ d)
      → HasAdvanceFault hvar at g before width OverflowError
  -- it has no 16 bits: without HVAR, the width between the phantom points
  wide : hvar ≡ None → IsWide (whole width) → HasAdvanceFault hvar at g before width OverflowError

-- a point of an outline, which begins at the left phantom point, has a rounded coordinate without 16 bits
pub data HasPointOutOfRange (left : ℤ) : List Bool → List ℤ → List ℤ → Type 0 where
  far_first : (on : Bool) (more : List Bool) (x y : ℤ) (xs ys : List ℤ)
      → (has_16_bits (whole (x -ℤ left)) && has_16_bits (whole y)) ≡ false
      → HasPointOutOfRange left (on ∷ more) (x ∷ xs) (y ∷ ys)
  far_later : (on : Bool) (more : List Bool) (x y : ℤ) (xs ys : List ℤ) → HasPointOutOfRange left more xs ys
      → HasPointOutOfRange left (on ∷ more) (x ∷ xs) (y ∷ ys)
