-- Where all demands are met, the last entry of an operator is as it is demanded.
use Rattle.std.proofs.Common.{◌≡◌, ℕ, true, List, Option, Some, None, refl}
use Rattle.std.specs.Prelude.{slice_get, is_some}
use Rattle.std.specs.Option.{option_map}
use Rattle.std.proofs.lemmas.Bool.{false≢true}
use Rattle.subsetter_base.specs.Options.{◌>>=◌}
use Rattle.subsetter_cffdata.specs.Numerals.Numbers.{Number}
use Rattle.subsetter_cffdata.specs.Dicts.Dict.{Entry}
use Rattle.subsetter_cffdata.specs.Dicts.Operands.{string_operand}
use Rattle.subsetter_cff.specs.Read.Entries.OperandDemands.{Demand, one_string, top_demands}
use Rattle.subsetter_cff.specs.Read.Opened.{all_meet}
use Rattle.subsetter_cff.specs.Read.Entries.Operators.{copyright_operator, notice_operator, font_name_operator}
use Rattle.subsetter_cff.specs.Read.Entries.Lookup.{last_of}
use Rattle.subsetter_cff.specs.Read.Strings.{FontString, string_of, string_by, string_at}
use Rattle.subsetter_cff.specs.Read.Entries.TopDicts.{last_string}
use Rattle.subsetter_cff.specs.Write.Strings.SidRemapping.{named}
use Rattle.subsetter_cff.proofs.ReadLaws.Refusals.{contains_at}
use Rattle.subsetter_cff.proofs.ReadLaws.EntriesLaws.Holding.{demand_holds, last_holds as holding_last}

-- an entry that is there has the operands that are demanded
pub record Held (d : Demand) (o : Option (List Number)) : Type 0 where
  pub each : (xs : List Number) → o ≡ Some xs → d.holds xs ≡ true

pub last_holds : (ds : List Demand) (es : List Entry) (i : ℕ) (d : Demand) → all_meet ds es ≡ true → slice_get ds i ≡ Some d → Held d (last_of d.operator es)
last_holds ds es i d met at = record { each = λ xs e. holding_last d.holds d.operator es xs (demand_holds ds d es (contains_at ds i d at) met) e }

-- ---- strings
named_by : (strings : List (Option (List ℕ))) (o : Option ℕ) → is_some o ≡ true → (o >>= λ s. option_map (λ (x : FontString). Some x) (string_of strings s)) ≡ named strings o
named_by strings None e = absurd (false≢true e)
named_by strings (Some s) e = refl

string_is : (strings : List (Option (List ℕ))) (operator : List ℕ) (o : Option (List Number)) → Held (record { operator = operator; holds = one_string }) o → string_by strings o ≡ named strings (o >>= string_operand)
string_is strings operator None held = refl
string_is strings operator (Some xs) held = named_by strings (string_operand xs) (held.each xs refl)

-- the string of an operator that demands one
pub string_named : (strings : List (Option (List ℕ))) (ds : List Demand) (es : List Entry) (j : ℕ) (operator : List ℕ) → all_meet ds es ≡ true → slice_get ds j ≡ Some (record { operator = operator; holds = one_string })
    → string_at strings operator es ≡ named strings (last_string operator es)
string_named strings ds es j operator h is = string_is strings operator (last_of operator es) (last_holds ds es j (record { operator = operator; holds = one_string }) h is)

-- what the strings of a top dict are, where all demands are met: the numbers tell them apart from none
pub strings_named : (strings : List (Option (List ℕ))) (es : List Entry) → all_meet top_demands es ≡ true
    → (string_at strings copyright_operator es ≡ named strings (last_string copyright_operator es))
    × (string_at strings notice_operator es ≡ named strings (last_string notice_operator es))
    × (string_at strings font_name_operator es ≡ named strings (last_string font_name_operator es))
strings_named strings es h =
    (string_named strings top_demands es 1 copyright_operator h refl, string_named strings top_demands es 0 notice_operator h refl, string_named strings top_demands es 2 font_name_operator h refl)
