-- What is requested of a CFF2 table.
use Rattle.std.specs.Prelude.{ℕ, ℤ, List, Option}

pub record Request : Type 0 where
  -- the normalized coordinates in parts of 2^14, one for each axis
  pub at : List ℤ
  -- for each glyph of the font: its advance at the coordinates, where it is requested
  pub glyphs : List (Option ℕ)
  -- unitsPerEm of `head`
  pub units : ℕ
