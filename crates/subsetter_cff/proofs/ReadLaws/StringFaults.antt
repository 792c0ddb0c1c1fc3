-- A string of a table that was opened can't be kept just where its number has no readable string.
use Rattle.std.proofs.Common.{◌≡◌, ℕ, true, List, Option, Some, None, refl, inl, inr, sym}
use Rattle.std.specs.Prelude.{Contains}
use Rattle.std.specs.Option.{option_map}
use Rattle.std.proofs.lemmas.Bool.{false≢true}
use Rattle.std.proofs.lemmas.Option.{none-some}
use Rattle.subsetter_cffdata.specs.Numerals.Numbers.{Number}
use Rattle.subsetter_cffdata.specs.Dicts.Dict.{Entry}
use Rattle.subsetter_cffdata.specs.Dicts.Operands.{string_operand}
use Rattle.subsetter_cff.specs.Read.Entries.Lookup.{last_of}
use Rattle.subsetter_cff.specs.Read.Strings.{FontString, string_of, string_by, string_at}
use Rattle.subsetter_cff.specs.Read.Entries.OperandDemands.{Demand, one_string}
use Rattle.subsetter_cff.specs.Read.Opened.{all_meet}
use Rattle.subsetter_cff.specs.Read.Fault.{NamesNoString}
use Rattle.subsetter_cff.proofs.ReadLaws.Refusals.{none_or}
use Rattle.subsetter_cff.proofs.ReadLaws.EntriesLaws.Holding.{demand_holds, last_holds}

no_some : (o : Option FontString) → option_map Some o ≡ None → o ≡ None
no_some None e = refl
no_some (Some t) e = absurd (none-some _ (sym e))

unnamed : (strings : List (Option (List ℕ))) (operator : List ℕ) (es : List Entry) (o : Option (List Number)) → last_of operator es ≡ o → ((xs : List Number) → last_of operator es ≡ Some xs → one_string xs ≡ true)
    → string_by strings o ≡ None → NamesNoString strings operator es
unnamed strings operator es None is holds e = absurd (none-some _ (sym e))
unnamed strings operator es (Some xs) is holds e =
    elim (none_or (string_operand xs) _ e) [
      | inl none ↦ absurd (let h : one_string xs ≡ true = holds xs is in false≢true (rw none at h))
      | inr (n, (n_is, nothing)) ↦ record { operands = xs; operands_are = is; number = n; number_is = n_is; no_string = no_some (string_of strings n) nothing }
    ]

-- where the operands are those that are demanded
pub string_refused : (ds : List Demand) (strings : List (Option (List ℕ))) (operator : List ℕ) (es : List Entry) → Contains ds (record { operator = operator; holds = one_string }) → all_meet ds es ≡ true
    → string_at strings operator es ≡ None → NamesNoString strings operator es
string_refused ds strings operator es inside all e =
    unnamed strings operator es (last_of operator es) refl (λ xs h. last_holds one_string operator es xs (demand_holds ds (record { operator = operator; holds = one_string }) es inside all) h) e

-- and then there is none to keep
pub none_named : (strings : List (Option (List ℕ))) (operator : List ℕ) (es : List Entry) → NamesNoString strings operator es → string_at strings operator es ≡ None
none_named strings operator es f = rw (f.operands_are, f.number_is, f.no_string) refl
