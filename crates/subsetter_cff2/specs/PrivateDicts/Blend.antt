-- The numbers of a DICT in parts of 2^30, which not all of them have, and what a blend makes of them (OpenType, "CFF2":
-- "Private DICT Data", the operator blend).
use Rattle.std.specs.Prelude.{ℕ, ◌+◌, ◌-◌, ◌*◌, ℤ, pos, negsuc, ◌+ℤ◌, ◌-ℤ◌, nat_le, nat_lt, if◌then◌else◌, List, []}
use Rattle.std.specs.Prelude.{◌∷◌, ◌++◌, length, take, drop, map, slice_index_or, Option, Some, None}
use Rattle.std.specs.List.{range_with_len}
use Rattle.std.specs.Option.{option_map}
use Rattle.subsetter_cffdata.specs.Numerals.Numbers.{Number, Integer, Real, Fixed}
use Rattle.subsetter_blend.specs.Runs.Blend.{share}
use Rattle.subsetter_blend.specs.Runs.Number.{is_within, whole}

-- a whole number of 16 bits in parts, any other number in none
abbrev pub integer_in_parts : ℤ → Option ℤ
integer_in_parts (pos n) = if nat_lt n 32768 then Some (pos (n * 1073741824)) else None
integer_in_parts (negsuc n) = if nat_lt n 32768 then Some (pos 0 -ℤ pos ((n + 1) * 1073741824)) else None

unfoldable pub in_parts : Number → Option ℤ
in_parts (Integer z) = integer_in_parts z
in_parts (Real d) = None
in_parts (Fixed k) = None

-- a sum of parts that are there
abbrev pub added : Option ℤ → Option ℤ → Option ℤ
added None more = None
added (Some z) None = None
added (Some z) (Some more) = Some (z +ℤ more)

-- a default with the shares of its deltas, one for each region
abbrev pub varied : Option ℤ → List ℤ → List (Option ℤ) → Option ℤ
varied value [] deltas = value
varied value (s ∷ scalars) [] = value
varied value (s ∷ scalars) (d ∷ deltas) = varied (added value (option_map (share s) d)) scalars deltas

-- no parts where they leave 32768 units
abbrev pub held : Option ℤ → Option ℤ
held None = None
held (Some z) = if is_within z then Some z else None

-- the result numbered i: after all defaults come the deltas of the first one, then those of the second one, and so on
unfoldable pub result_at : List ℤ → List (Option ℤ) → List (Option ℤ) → ℕ → Option ℤ
result_at scalars defaults deltas i =
    held (varied (slice_index_or defaults i None) scalars (drop (i * length scalars) deltas))

abbrev pub results : List ℤ → List (Option ℤ) → List (Option ℤ) → List (Option ℤ)
results scalars defaults deltas = map (result_at scalars defaults deltas) (range_with_len 0 (length defaults))

-- the operands after a place, of which the first n are defaults, give way to the results
abbrev pub blended_from : ℕ → List ℤ → ℕ → List (Option ℤ) → List (Option ℤ)
blended_from base scalars n operands =
    take base operands ++ results scalars (take n (drop base operands)) (drop n (drop base operands))

-- the last operands are n defaults and their deltas, if there are as many
unfoldable pub blended : List ℤ → ℕ → List (Option ℤ) → Option (List (Option ℤ))
blended scalars n operands =
    if nat_le (n * (length scalars + 1)) (length operands)
    then Some (blended_from (length operands - n * (length scalars + 1)) scalars n operands)
    else None

-- the edges of an array of differences, each rounded once, and the differences between these
abbrev pub edges_from : ℤ → List ℤ → List ℤ
edges_from sum [] = []
edges_from sum (v ∷ vs) = (whole (sum +ℤ v) -ℤ whole sum) ∷ edges_from (sum +ℤ v) vs

abbrev pub edges : List ℤ → List ℤ
edges vs = edges_from (pos 0) vs
