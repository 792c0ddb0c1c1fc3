-- An entry that does not meet a demand, or leads nowhere, is a fault.
use Rattle.std.proofs.Common.{◌≡◌, ℕ, true, false, cond, List, [], ◌∷◌, drop, ◌-◌, Option, Some, None, refl, arith, inl, inr, ◌⊎◌, sym}
use Rattle.std.specs.Prelude.{Contains, is_some, IfNone}
use Rattle.std.specs.Str.{bytes_eq}
use Rattle.std.specs.Option.{option_and_then, option_map}
use Rattle.std.proofs.lemmas.Bool.{false≢true, cases_Bool}
use Rattle.std.proofs.lemmas.Option.{none-some}
use Rattle.subsetter_base.specs.Bytes.{range}
use Rattle.subsetter_cffdata.specs.Dicts.Dict.{Entry, entries}
use Rattle.subsetter_cffdata.specs.Dicts.Operands.{offset_operand, range_operands}
use Rattle.subsetter_cff.specs.Read.Entries.Lookup.{first_of}
use Rattle.subsetter_cff.specs.Read.FdArray.Private.{local_subroutines, subroutines_by, private_in, private_by}
use Rattle.subsetter_cff.specs.Read.Entries.Operators.{private_operator, subroutines_operator}
use Rattle.subsetter_cffdata.specs.Indexes.Index.{index_at}
use Rattle.subsetter_cff.specs.Read.Entries.OperandDemands.{Demand, one_range, font_dict_demands}
use Rattle.subsetter_cff.specs.Read.Opened.{meets, all_meet, all_lead}
use Rattle.subsetter_cff.specs.Read.Fault.{HasWrongOperands, HasPrivateFault, range_outside, no_subroutines}
use Rattle.subsetter_cff.proofs.ReadLaws.Refusals.{none_or, not_both, here, there}

-- an entry that doesn't meet the demands
one_wrong : (ds : List Demand) (e : Entry) → meets ds e ≡ false → (d : Demand) × (Contains ds d × ((bytes_eq e.operator d.operator ≡ true) × (d.holds e.operands ≡ false)))
one_wrong [] e h = absurd (false≢true (sym h))
one_wrong (d ∷ ds) e h =
    elim (not_both (cond (bytes_eq e.operator d.operator) (d.holds e.operands) true) (meets ds e) h) [
      | inl first ↦ elim (cases_Bool (bytes_eq e.operator d.operator)) [
        | inl same ↦ (d, (here d ds, (same, rw same at first)))
        | inr other ↦ absurd (false≢true (sym (rw other at first)))
      ]
      | inr rest ↦ (let m = one_wrong ds e rest in (m.0, (there d ds m.0 m.1.0, m.1.1)))
    ]

pub all_wrong : (ds : List Demand) (es : List Entry) → all_meet ds es ≡ false → HasWrongOperands ds es
all_wrong ds [] h = absurd (false≢true (sym h))
all_wrong ds (e ∷ es) h =
    elim (not_both (meets ds e) (all_meet ds es) h) [
      | inl first ↦ (let m = one_wrong ds e first in record { entry = e; inside = here e es; demand = m.0; demanded = m.1.0; operator = m.1.1.0; wrong = m.1.1.1 })
      | inr rest ↦ (let m = all_wrong ds es rest in record { entry = m.entry; inside = there e es m.entry m.inside; demand = m.demand; demanded = m.demanded; operator = m.operator; wrong = m.wrong })
    ]

-- so where nothing is read
pub read_fault : {A : Type 0} (ds : List Demand) (es : List Entry) (o : Option A) → is_some o ≡ all_meet ds es → IfNone o (HasWrongOperands ds es)
read_fault ds es None e = all_wrong ds es (sym e)
read_fault ds es (Some x) e = tt

-- a Private entry that leads nowhere
no_leading : (bytes : List ℕ) (es : List Entry) → all_lead bytes es ≡ false → (e : Entry) × (Contains es e × ((bytes_eq e.operator private_operator ≡ true) × (is_some (private_by bytes (Some e.operands)) ≡ false)))
no_leading bytes [] h = absurd (false≢true (sym h))
no_leading bytes (e ∷ es) h =
    elim (not_both (cond (bytes_eq e.operator private_operator) (is_some (private_by bytes (Some e.operands))) true) (all_lead bytes es) h) [
      | inl first ↦ elim (cases_Bool (bytes_eq e.operator private_operator)) [
        | inl same ↦ (e, (here e es, (same, rw same at first)))
        | inr other ↦ absurd (false≢true (sym (rw other at first)))
      ]
      | inr rest ↦ (let m = no_leading bytes es rest in (m.0, (there e es m.0 m.1.0, m.1.1)))
    ]

nothing : {A : Type 0} (o : Option A) → is_some o ≡ false → o ≡ None
nothing None h = refl
nothing (Some x) h = absurd (false≢true (sym h))

unread : (o : Option (List (Option (List ℕ)) × List ℕ)) → option_map (λ (index : List (Option (List ℕ)) × List ℕ). index.0) o ≡ None → o ≡ None
unread None h = refl
unread (Some x) h = absurd (none-some _ (sym h))

no_locals : (bytes : List ℕ) (o : Option ℕ) → subroutines_by bytes o ≡ None → (offset : ℕ) × ((o ≡ Some offset) × (index_at (drop offset bytes) ≡ None))
no_locals bytes None h = absurd (none-some _ (sym h))
no_locals bytes (Some offset) h = (offset, (refl, unread (index_at (drop offset bytes)) h))

leads_nowhere : (bytes : List ℕ) (dict : List Entry) (e : Entry) → Contains dict e → bytes_eq e.operator private_operator ≡ true → private_by bytes (Some e.operands) ≡ None → HasWrongOperands font_dict_demands dict ⊎ HasPrivateFault bytes dict
unfolding private_in local_subroutines
leads_nowhere bytes dict e inside same h =
    elim (none_or (range_operands e.operands) (private_in bytes) h) [
      | inl wrong ↦ inl (record { entry = e; inside = inside; demand = record { operator = private_operator; holds = one_range }; demanded = (0, omega arith, refl); operator = same; wrong = rw wrong refl })
      | inr (place, (is, none)) ↦ inr (elim (none_or (range bytes place.0 (place.1 - place.0)) _ none) [
        | inl outside ↦ range_outside e place inside same is outside
        | inr (private, (private_is, more)) ↦ elim (none_or (subroutines_by (drop place.0 bytes) (option_and_then offset_operand (first_of subroutines_operator (entries private)))) _ more) [
          | inl unreadable ↦ (let m = no_locals (drop place.0 bytes) (option_and_then offset_operand (first_of subroutines_operator (entries private))) unreadable in no_subroutines e place private m.0 inside same is private_is m.1.0 m.1.1)
          | inr (subroutines, (subroutines_are, done)) ↦ absurd (none-some _ (sym done))
        ]
      ])
    ]

pub all_nowhere : (bytes : List ℕ) (dict : List Entry) → all_lead bytes dict ≡ false → HasWrongOperands font_dict_demands dict ⊎ HasPrivateFault bytes dict
all_nowhere bytes dict h = let m = no_leading bytes dict h in leads_nowhere bytes dict m.0 m.1.0 m.1.1.0 (nothing (private_by bytes (Some m.0.operands)) m.1.1.1)
