-- How a CID-keyed font's glyphs are named (Technical Note 5176, section 9 "Top DICT Data" and section 18 "CID-keyed
-- Fonts").
use Rattle.std.specs.Prelude.{ℕ, ℤ, List, [], ◌∷◌, Option, Some, None}
use Rattle.subsetter_base.specs.Options.{◌>>=◌}
use Rattle.subsetter_cffdata.specs.Numerals.Numbers.{Number, as_i32}
use Rattle.subsetter_cffdata.specs.Dicts.Operands.{string_operand}
use Rattle.subsetter_cff.specs.Read.Entries.Lookup.{last_of}
use Rattle.subsetter_cff.specs.Read.Cff.{Cff}
use Rattle.subsetter_cff.specs.Read.Strings.{FontString, string_of}
use Rattle.subsetter_cff.specs.Read.Entries.Operators.{registry_operator}

-- registry, ordering and supplement
pub record Keying : Type 0 where
  pub registry : FontString
  pub ordering : FontString
  pub supplement : ℤ

unfoldable pub keying_by : List (Option (List ℕ)) → List Number → Option Keying
keying_by strings (r ∷ o ∷ s ∷ []) = do
  registry_number ← string_operand (r ∷ [])
  registry ← string_of strings registry_number
  ordering_number ← string_operand (o ∷ [])
  ordering ← string_of strings ordering_number
  supplement ← as_i32 s
  Some (record { registry = registry; ordering = ordering; supplement = supplement })
keying_by strings _ = None

unfoldable pub keying : Cff → Option Keying
keying cff = last_of registry_operator cff.top >>= keying_by cff.strings
