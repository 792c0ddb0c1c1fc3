-- Where entries meet the demands and lead to what they name, no entry has a fault.
use Rattle.std.proofs.Common.{◌≡◌, ℕ, Bool, true, false, List, drop, ◌-◌, Option, Some, None, refl, ◌∙◌, sym}
use Rattle.std.specs.Prelude.{is_some, IfSome}
use Rattle.std.specs.Option.{option_and_then}
use Rattle.std.proofs.lemmas.Bool.{false≢true}
use Rattle.std.proofs.lemmas.Option.{none-some}
use Rattle.subsetter_base.specs.Bytes.{range}
use Rattle.subsetter_cffdata.specs.Numerals.Numbers.{Number}
use Rattle.subsetter_cffdata.specs.Indexes.Index.{index_at}
use Rattle.subsetter_cffdata.specs.Dicts.Dict.{Entry, entries}
use Rattle.subsetter_cffdata.specs.Dicts.Operands.{offset_operand, range_operands}
use Rattle.subsetter_cff.specs.Read.Entries.Lookup.{first_of}
use Rattle.subsetter_cff.specs.Read.FdArray.Private.{local_subroutines, private_in}
use Rattle.subsetter_cff.specs.Read.Entries.Operators.{private_operator, subroutines_operator}
use Rattle.subsetter_cff.specs.Read.Entries.OperandDemands.{Demand}
use Rattle.subsetter_cff.specs.Read.Opened.{all_meet, all_lead}
use Rattle.subsetter_cff.specs.Read.Fault.{HasWrongOperands, HasPrivateFault, range_outside, no_subroutines}
use Rattle.subsetter_cff.proofs.ReadLaws.EntriesLaws.Holding.{by_entry, demand_holds, holding_at, lead_each}

-- there is something, and so it isn't nothing
pub clash : {A : Type 0} (o : Option A) (x : A) → o ≡ Some x → o ≡ None → ⊥
clash o x some none = none-some x (sym none ∙ some)

pub contradiction : {A : Type 0} (b : Bool) → b ≡ true → b ≡ false → A
contradiction b t f = absurd (false≢true (sym f ∙ t))

-- where all entries meet the demands, none has other operands
pub no_wrong : (ds : List Demand) (es : List Entry) → all_meet ds es ≡ true → HasWrongOperands ds es → ⊥
no_wrong ds es all f = contradiction (f.demand.holds f.entry.operands) (holding_at f.demand.holds f.demand.operator es f.entry f.inside (demand_holds ds f.demand es f.demanded all) f.operator) f.wrong

-- so where something is read just if they do
pub read_sound : {A : Type 0} (ds : List Demand) (es : List Entry) (o : Option A) → is_some o ≡ all_meet ds es → IfSome o (λ _. HasWrongOperands ds es → ⊥)
read_sound ds es None e = tt
read_sound ds es (Some x) e = no_wrong ds es (sym e)

no_range : (bytes : List ℕ) (place : ℕ × ℕ) → range bytes place.0 (place.1 - place.0) ≡ None → private_in bytes place ≡ None
unfolding private_in
no_range bytes place none = rw none refl

no_index : (bytes : List ℕ) (place : ℕ × ℕ) (private : List ℕ) (offset : ℕ) → range bytes place.0 (place.1 - place.0) ≡ Some private → option_and_then offset_operand (first_of subroutines_operator (entries private)) ≡ Some offset
    → index_at (drop offset (drop place.0 bytes)) ≡ None → private_in bytes place ≡ None
unfolding private_in local_subroutines
no_index bytes place private offset is leads none = rw (is, leads, none) refl

not_there : (bytes : List ℕ) (xs : List Number) (place : ℕ × ℕ) → by_entry bytes xs ≡ true → range_operands xs ≡ Some place → private_in bytes place ≡ None → ⊥
not_there bytes xs place there is none = false≢true (rw (is, none) at there)

-- where all Private entries lead to private dicts, none leads nowhere
pub no_private_fault : (bytes : List ℕ) (dict : List Entry) → all_lead bytes dict ≡ true → HasPrivateFault bytes dict → ⊥
no_private_fault bytes dict all (range_outside e place inside same is none) =
    not_there bytes e.operands place (holding_at (by_entry bytes) private_operator dict e inside (lead_each bytes dict all) same) is (no_range bytes place none)
no_private_fault bytes dict all (no_subroutines e place private offset inside same is there leads none) =
    not_there bytes e.operands place (holding_at (by_entry bytes) private_operator dict e inside (lead_each bytes dict all) same) is (no_index bytes place private offset there leads none)
