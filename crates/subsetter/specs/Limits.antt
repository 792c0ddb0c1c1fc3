-- How far a charstring may run. Outlines in `glyf` know no such limits.
use Rattle.std.specs.Prelude.{ℕ}

-- tokens of a run: numbers, and operators with their masks
abbrev pub token_limit : ℕ
token_limit = 1000000

-- the glyph's own charstring is at depth 1, a subroutine one deeper than its caller
abbrev pub depth_limit : ℕ
depth_limit = 64
