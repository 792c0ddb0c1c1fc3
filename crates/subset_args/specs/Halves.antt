-- How many halves of a 65536th a decimal number has: these decide to which 65536th it is nearest.
use Rattle.std.specs.Prelude.{ℕ, ◌+◌, ◌-◌, ◌*◌, ◌/◌, ◌%◌, ◌==◌, ◌||◌, not, false, if◌then◌else◌, List, [], ◌∷◌, Option, ℤ, pos, neg_ℤ}
use Rattle.subset_args.specs.Coordinates.{Decimal, in_32_bits}
use Rattle.subset_args.specs.declared.coordinates.Halves.{Halves}

-- whole halves, and whether there is more
abbrev pub halves : Decimal → Halves
halves d = record { count = d.count * 131072 / d.parts; more = not (d.count * 131072 % d.parts == 0) }

-- one more digit, in front
abbrev pub after_digit : ℕ → Halves → Halves
after_digit b h =
    record {
      count = ((b - 48) * 131072 + h.count) / 10;
      more = h.more || not (((b - 48) * 131072 + h.count) % 10 == 0);
    }

-- those of the digits after a point
abbrev pub halves_after : List ℕ → Halves
halves_after [] = record { count = 0; more = false }
halves_after (b ∷ digits) = after_digit b (halves_after digits)

-- the whole 65536th that is nearest, halves up
abbrev pub fixed_above : Halves → Option ℤ
fixed_above h = in_32_bits (pos ((h.count + 1) / 2))

-- the same below zero
abbrev pub fixed_below : Halves → Option ℤ
fixed_below h = in_32_bits (neg_ℤ (pos ((h.count + (if h.more then 1 else 0)) / 2)))
