-- The faults of a private dict at coordinates, each with its error (OpenType, "CFF2": "Private DICT Data").
use Rattle.std.specs.Prelude.{◌≡◌, ℕ, ◌<◌, ◌+◌, ◌-◌, ◌*◌, ℤ, true, List, ◌∷◌, length, take, Option, Some, None, Ok}
use Rattle.std.specs.List.{list_any}
use Rattle.subsetter_base.specs.declared.error.Error.{Error}
use Rattle.subsetter_base.specs.declared.error.Error.TheVariants.{MalformedFont, OverflowError}
use Rattle.subsetter_cffdata.specs.Dicts.Dict.{Entry}
use Rattle.subsetter_cffdata.specs.Numerals.Numbers.{is_too_long}
use Rattle.subsetter_cffdata.specs.Dicts.Operands.{offset_operand}
use Rattle.subsetter_cff2.specs.PrivateDicts.EntryLists.{entry_lists}
use Rattle.subsetter_cff2.specs.PrivateDicts.PrivateAt.{Registers, Step, at_start, last_natural, pushed, step_by}
use Rattle.subsetter_cff2.specs.PrivateDicts.PrivateKinds.{kind_by}
use Rattle.subsetter_cff2.specs.PrivateDicts.PrivateText.{TextStep, step_text}
use Rattle.subsetter_cff2.specs.Variation.{Variation, data_scalars}
use Rattle.subsetter_cff2.specs.declared.private_dicts.kinds.PrivateOperator.TheVariants.{Blends, ChoosesData}

-- ---- an operator after its operands
pub data HasDictOperatorFault (v : Option Variation) (operator : List ℕ) (r : Registers) : Error → Type 0 where
  -- blend: the table has no item variation store, the last operand is no number of results, there are no such item
  -- variation data, or fewer operands than it needs
  blend_without_store : kind_by operator ≡ Blends → v ≡ None → HasDictOperatorFault v operator r MalformedFont
  blend_without_count : kind_by operator ≡ Blends → last_natural r.defaults ≡ None
      → HasDictOperatorFault v operator r MalformedFont
  blend_without_data : (store : Variation) → kind_by operator ≡ Blends → v ≡ Some store
      → data_scalars store r.data_index ≡ None
      → HasDictOperatorFault v operator r MalformedFont
  few_blended : (store : Variation) (scalars : List ℤ) (n : ℕ) → kind_by operator ≡ Blends → v ≡ Some store
      → data_scalars store r.data_index ≡ Some scalars → last_natural r.defaults ≡ Some n
      → length (take (length r.parts - 1) r.parts) < n * (length scalars + 1)
      → HasDictOperatorFault v operator r MalformedFont
  -- vsindex: the table has no item variation store, it is a second one or after a blend, it has no one natural number,
  -- or there are no such item variation data
  data_without_store : kind_by operator ≡ ChoosesData → v ≡ None → HasDictOperatorFault v operator r MalformedFont
  late_data : kind_by operator ≡ ChoosesData → r.settled ≡ true → HasDictOperatorFault v operator r MalformedFont
  unnamed_data : kind_by operator ≡ ChoosesData → offset_operand r.defaults ≡ None
      → HasDictOperatorFault v operator r MalformedFont
  no_data : (store : Variation) (outer : ℕ) → kind_by operator ≡ ChoosesData → v ≡ Some store
      → offset_operand r.defaults ≡ Some outer → data_scalars store outer ≡ None
      → HasDictOperatorFault v operator r MalformedFont

-- ---- the entries, with the operands before them
pub data HasEntryFault (v : Option Variation) : Registers → List Entry → Error → Type 0 where
  -- there are more than 513 operands
  full_stack : (r : Registers) (entry : Entry) (more : List Entry) → 513 < length r.defaults + length entry.operands
      → HasEntryFault v r (entry ∷ more) MalformedFont
  in_operator : {e : Error} (r following : Registers) (entry : Entry) (more : List Entry)
      → pushed r entry.operands ≡ Some following → HasDictOperatorFault v entry.operator following e
      → HasEntryFault v r (entry ∷ more) e
  -- a real that is kept has more than 64 characters
  long_real : (r following : Registers) (entry kept : Entry) (more : List Entry) (s : Step)
      → pushed r entry.operands ≡ Some following → step_by (kind_by entry.operator) v entry.operator following ≡ Some s
      → s.said ≡ Some kept
      → list_any is_too_long kept.operands ≡ true → HasEntryFault v r (entry ∷ more) OverflowError
  -- one after it
  later : {e : Error} (r : Registers) (entry : Entry) (more : List Entry) (s : TextStep)
      → step_text v r entry.operator entry.operands ≡ Ok s → HasEntryFault v s.next more e
      → HasEntryFault v r (entry ∷ more) e

-- of a private dict, these bytes
abbrev pub HasPrivateFault : Option Variation → List ℕ → Error → Type 0
HasPrivateFault v dict e = HasEntryFault v at_start (entry_lists dict) e
