-- What holds of each entry of an operator.
use Rattle.std.proofs.Common.{◌≡◌, ℕ, zero, suc, ◌<◌, Bool, true, false, cond, ◌&&◌, List, [], ◌∷◌, length, Option, Some, None, arith, refl, inl, inr, subst}
use Rattle.std.specs.Prelude.{slice_index_or, Contains, is_some}
use Rattle.std.specs.Str.{bytes_eq}
use Rattle.std.specs.List.{AllByRecursion}
use Rattle.std.proofs.lemmas.Bool.{false≢true, cases_Bool}
use Rattle.std.proofs.lemmas.Option.{none-some, same_Some}
use Rattle.subsetter_cffdata.specs.Numerals.Numbers.{Number}
use Rattle.subsetter_cffdata.specs.Dicts.Dict.{Entry}
use Rattle.subsetter_cff.specs.Read.Entries.Lookup.{last_after, last_of}
use Rattle.subsetter_cff.specs.Read.FdArray.Private.{private_by}
use Rattle.subsetter_cff.specs.Read.Entries.Operators.{private_operator}
use Rattle.subsetter_cff.specs.Read.Entries.OperandDemands.{Demand}
use Rattle.subsetter_cff.specs.Read.Opened.{meets, all_meet, all_lead}

pub both : (a b : Bool) → (a && b) ≡ true → (a ≡ true) × (b ≡ true)
both true b e = (refl, e)
both false b e = absurd (false≢true e)

-- ---- the last entry of an operator, where all of them hold
abbrev pub Holding : (List Number → Bool) → List ℕ → List Entry → Type 0
Holding holds operator es = AllByRecursion (λ (e : Entry). bytes_eq e.operator operator ≡ true → holds e.operands ≡ true) es

last_after_holds : (holds : List Number → Bool) (operator : List ℕ) (es : List Entry) (found : Option (List Number)) (xs : List Number) → Holding holds operator es
    → ((ys : List Number) → found ≡ Some ys → holds ys ≡ true) → last_after found operator es ≡ Some xs → holds xs ≡ true
last_after_holds holds operator [] found xs all before e = before xs e
last_after_holds holds operator (d ∷ es) found xs all before e =
    elim (cases_Bool (bytes_eq d.operator operator)) [
      | inl same ↦ last_after_holds holds operator es (Some d.operands) xs all.1 (λ ys h. subst (λ (zs : List Number). holds zs ≡ true) (same_Some _ _ h) (all.0 same)) (rw same at e)
      | inr other ↦ last_after_holds holds operator es found xs all.1 before (rw other at e)
    ]

pub last_holds : (holds : List Number → Bool) (operator : List ℕ) (es : List Entry) (xs : List Number) → Holding holds operator es → last_of operator es ≡ Some xs → holds xs ≡ true
last_holds holds operator es xs all e = last_after_holds holds operator es None xs all (λ ys h. absurd (none-some ys h)) e

-- ---- demands
meets_at : (ds : List Demand) (k : ℕ) (d : Demand) (e : Entry) → k < length ds → slice_index_or ds k d ≡ d → meets ds e ≡ true → bytes_eq e.operator d.operator ≡ true → d.holds e.operands ≡ true
meets_at [] k d e lt is all same = absurd (omega arith)
meets_at (c ∷ ds) zero d e lt is all same =
    let here : cond (bytes_eq e.operator c.operator) (c.holds e.operands) true ≡ true = (both _ _ all).0 in
    let there : cond (bytes_eq e.operator d.operator) (d.holds e.operands) true ≡ true = subst (λ (x : Demand). cond (bytes_eq e.operator x.operator) (x.holds e.operands) true ≡ true) is here in
    rw same at there
meets_at (c ∷ ds) (suc k) d e lt is all same = meets_at ds k d e (omega arith) is (both _ _ all).1 same

pub demand_holds : (ds : List Demand) (d : Demand) (es : List Entry) → Contains ds d → all_meet ds es ≡ true → Holding d.holds d.operator es
demand_holds ds d [] inside all = tt
demand_holds ds d (e ∷ es) inside all = (meets_at ds inside.0 d e inside.1 inside.2 (both _ _ all).0, demand_holds ds d es inside (both _ _ all).1)

-- of one entry
holding_place : (holds : List Number → Bool) (operator : List ℕ) (es : List Entry) (k : ℕ) (e : Entry) → Holding holds operator es → k < length es → slice_index_or es k e ≡ e → bytes_eq e.operator operator ≡ true → holds e.operands ≡ true
holding_place holds operator [] k e all lt is same = absurd (omega arith)
holding_place holds operator (d ∷ es) zero e all lt is same = subst (λ (x : Entry). bytes_eq x.operator operator ≡ true → holds x.operands ≡ true) is all.0 same
holding_place holds operator (d ∷ es) (suc k) e all lt is same = holding_place holds operator es k e all.1 (omega arith) is same

pub holding_at : (holds : List Number → Bool) (operator : List ℕ) (es : List Entry) (e : Entry) → Contains es e → Holding holds operator es → bytes_eq e.operator operator ≡ true → holds e.operands ≡ true
holding_at holds operator es e inside all same = holding_place holds operator es inside.0 e all inside.1 inside.2 same

-- ---- Private entries
abbrev pub by_entry : List ℕ → List Number → Bool
by_entry bytes xs = is_some (private_by bytes (Some xs))

pub lead_each : (bytes : List ℕ) (es : List Entry) → all_lead bytes es ≡ true → Holding (by_entry bytes) private_operator es
lead_each bytes [] all = tt
lead_each bytes (e ∷ es) all =
    let p = both _ _ all in
    let here : cond (bytes_eq e.operator private_operator) (by_entry bytes e.operands) true ≡ true = p.0 in
    (λ same. rw same at here, lead_each bytes es p.1)
