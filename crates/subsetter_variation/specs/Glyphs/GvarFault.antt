-- The faults of the variations of a glyph, each with its error (OpenType, "gvar" and "Tuple Variation Store").
use Rattle.std.specs.Prelude.{◌≡◌, ◌<◌, ℕ, suc, ℤ, pos, Bool, false, List, length, ◌==◌, Option, Some, None, Ok}
use Rattle.std.specs.Ordering.{int_eq}
use Rattle.subsetter_base.specs.declared.error.Error.{Error}
use Rattle.subsetter_base.specs.declared.error.Error.TheVariants.{MalformedFont, OverflowError}
use Rattle.subsetter_variation.specs.Region.{scalar}
use Rattle.subsetter_variation.specs.Glyphs.Tuples.{Gvar, TupleHeader, TupleHeaders, next_header, tuple_of}
use Rattle.subsetter_variation.specs.Glyphs.Tuples.{tuple_headers, shared_numbers, variations_of}
use Rattle.subsetter_variation.specs.Glyphs.Movement.{Outline, Walk, next_walk, spent, start}

-- Of the next n tuples of a glyph, the first that breaks a rule; those before it have moved the points, and left steps
pub data HasTupleFault (t : Gvar) (o : Outline) (shared : Option (List ℕ)) (at : List ℤ)
    : ℕ → Walk → Error → Type 0 where
  -- no step is left for it
  no_step : (n : ℕ) (w : Walk) → w.steps < 1 → HasTupleFault t o shared at (suc n) w OverflowError
  -- its header is cut, its data end after those of the glyph, or there is no shared tuple of its index
  no_header : (n left : ℕ) (w : Walk) → spent 1 w.steps ≡ Ok left → next_header t w.headers ≡ None
      → HasTupleFault t o shared at (suc n) w MalformedFont
  -- it counts at the location, and fewer steps are left than the glyph has points
  few_steps : (n left : ℕ) (w : Walk) (h : TupleHeader) (rest : TupleHeaders) → spent 1 w.steps ≡ Ok left
      → next_header t w.headers ≡ Some (h, rest) → int_eq (scalar h.region at) (pos 0) ≡ false
      → left < length o.xs → HasTupleFault t o shared at (suc n) w OverflowError
  -- it counts at the location, and its point numbers or its deltas are cut, go past their count, or don't ascend within
  -- the glyph's points
  no_deltas : (n left more : ℕ) (w : Walk) (h : TupleHeader) (rest : TupleHeaders) → spent 1 w.steps ≡ Ok left
      → next_header t w.headers ≡ Some (h, rest) → int_eq (scalar h.region at) (pos 0) ≡ false
      → spent (length o.xs) left ≡ Ok more → tuple_of (length o.xs) shared h ≡ None
      → HasTupleFault t o shared at (suc n) w MalformedFont
  -- one after it
  later : {e : Error} (n : ℕ) (w v : Walk) → next_walk t o shared at w ≡ Ok v → HasTupleFault t o shared at n v e
      → HasTupleFault t o shared at (suc n) w e

-- of the variations of a glyph, whose points these are
pub data HasVariationFault (t : Gvar) (g : ℕ) (o : Outline) (at : List ℤ) (steps : ℕ) : Error → Type 0 where
  -- gvar has fewer glyphs, or the glyph's offsets are cut, descend, or lead out of the table
  no_variations : variations_of t g ≡ None → HasVariationFault t g o at steps MalformedFont
  -- tupleVariationCount or dataOffset is cut, or dataOffset leads after the glyph's variations
  no_tuples : (bytes : List ℕ) → variations_of t g ≡ Some bytes → (length bytes == 0) ≡ false
      → tuple_headers bytes ≡ None
      → HasVariationFault t g o at steps MalformedFont
  -- the point numbers that tuples share are cut, go past their count, or don't ascend within the glyph's points
  no_shared_numbers : (bytes : List ℕ) (all : Bool × TupleHeaders) → variations_of t g ≡ Some bytes
      → (length bytes == 0) ≡ false → tuple_headers bytes ≡ Some all
      → shared_numbers (length o.xs) all.0 all.1 ≡ None → HasVariationFault t g o at steps MalformedFont
  -- one of the tuples
  in_tuple : {e : Error} (bytes : List ℕ) (all : Bool × TupleHeaders) (shared : Option (List ℕ) × TupleHeaders)
      → variations_of t g ≡ Some bytes → (length bytes == 0) ≡ false → tuple_headers bytes ≡ Some all
      → shared_numbers (length o.xs) all.0 all.1 ≡ Some shared
      → HasTupleFault t o shared.0 at shared.1.left (start o steps shared.1) e
      → HasVariationFault t g o at steps e
