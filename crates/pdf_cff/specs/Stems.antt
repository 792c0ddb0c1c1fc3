-- The vertical stem that a private dict says (Technical Note 5176, section 15 "Private DICT Data").
use Rattle.std.specs.Prelude.{ℕ, ◌+◌, ◌*◌, ◌/◌, ◌<◌, ◌≤◌, ◌==◌, if◌then◌else◌, List, [], ◌∷◌, Option, Some, None}
use Rattle.std.specs.Option.{option_and_then, option_or}
use Rattle.std.specs.Str.{bytes_eq}
use Rattle.subsetter_cffdata.specs.Dicts.Dict.{Entry}
use Rattle.subsetter_cffdata.specs.Numerals.Numbers.{Number, as_u32}
use Rattle.subsetter_cffdata.specs.Numerals.Values.{thousand}

-- StdVW (section 15, table 23)
abbrev pub stem_operator : List ℕ
stem_operator = 11 ∷ []

-- one number in thousandths, where it isn't below 0 and has at most three decimals
abbrev pub in_thousandths : List Number → Option ℕ
in_thousandths (x ∷ []) = option_and_then as_u32 (thousand x)
in_thousandths _ = None

-- n thousandths of a unit in thousandths of the em, to the nearest, halves up; units per em are above 0
abbrev pub of_em : ℕ → ℕ → ℕ
of_em units n = (2 * n + units) / (2 * units)

abbrev pub above_0 : ℕ → Option ℕ
above_0 n = if n == 0 then None else Some n

-- operands in thousandths of the em
abbrev pub stem_by : ℕ → List Number → Option ℕ
stem_by units xs = option_and_then (λ n. above_0 (of_em units n)) (in_thousandths xs)

-- StdVW, of an entry that is one
abbrev pub stem_of : ℕ → Entry → Option ℕ
stem_of units e = if bytes_eq e.operator stem_operator then stem_by units e.operands else None

-- that of the first entry that says one
abbrev pub stem_in : ℕ → List Entry → Option ℕ
stem_in units [] = None
stem_in units (e ∷ es) = option_or (stem_of units e) (stem_in units es)

-- no whole number of thousandths of the em is nearer than r, and of two that are as near r is the higher
pub record IsNearest (n units r : ℕ) : Type 0 where
  pub low : 2 * units * r ≤ 2 * n + units
  pub high : 2 * n + units < 2 * units * (r + 1)
