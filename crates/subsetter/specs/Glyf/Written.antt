-- `glyf` and `loca` of a subset, from the outlines that it holds (OpenType, "glyf", "loca").
use Rattle.std.specs.Prelude.{ℕ, ◌+◌, ◌%◌, Bool, List, [], ◌∷◌, ◌++◌, length, nat_lt, sum_by}
use Rattle.std.specs.List.{flat_map}
use Rattle.subsetter_sfnt.specs.Fields.Loca.{offset_bytes}
use Rattle.subsetter.specs.Glyf.Reaching.Unfold.{padded}

-- the length of the outlines, each rounded up to even
abbrev pub even_size : List (List ℕ) → ℕ
even_size bs = sum_by (λ (b : List ℕ). length b + length b % 2) bs

-- the long format is chosen where halves of the offsets don't fit 16 bits
abbrev pub is_long : List (List ℕ) → Bool
is_long bs = nat_lt 131070 (even_size bs)

abbrev pub glyf_bytes : Bool → List (List ℕ) → List ℕ
glyf_bytes long bs = flat_map (padded long) bs

-- where each of the outlines from a place on begins, and where the last one ends
abbrev pub loca_bytes : Bool → ℕ → List (List ℕ) → List ℕ
loca_bytes long at [] = offset_bytes long at
loca_bytes long at (b ∷ bs) = offset_bytes long at ++ loca_bytes long (at + length (padded long b)) bs
