-- A private dict at a place (OpenType, "CFF2": "Private DICT Data"): its entries with every blend resolved, and the
-- item variation data of its charstrings. Each edge of an array of differences, and each other number, is rounded once
-- to a whole unit.
use Rattle.std.specs.Prelude.{ℕ, ◌+◌, ◌-◌, ℤ, pos, Bool, true, false, nat_le, if◌then◌else◌, List, [], ◌∷◌, ◌++◌}
use Rattle.std.specs.Prelude.{length, take, map, is_some, unwrap_or, slice_get, Option, Some, None}
use Rattle.std.specs.Option.{option_map}
use Rattle.std.specs.List.{list_all}
use Rattle.subsetter_base.specs.Options.{◌>>=◌}
use Rattle.subsetter_cffdata.specs.Dicts.Dict.{Entry}
use Rattle.subsetter_cffdata.specs.Numerals.Numbers.{Number, Integer, as_u32}
use Rattle.subsetter_cffdata.specs.Dicts.Operands.{offset_operand}
use Rattle.subsetter_blend.specs.Runs.Number.{whole}
use Rattle.subsetter_cff2.specs.PrivateDicts.Blend.{in_parts, blended, edges}
use Rattle.subsetter_cff2.specs.PrivateDicts.EntryLists.{entry_lists}
use Rattle.subsetter_cff2.specs.PrivateDicts.PrivateKinds.{kind_by}
use Rattle.subsetter_cff2.specs.Variation.{Variation, data_scalars}
use Rattle.subsetter_cff2.specs.declared.private_dicts.kinds.PrivateOperator.{PrivateOperator}
use Rattle.subsetter_cff2.specs.declared.private_dicts.kinds.PrivateOperator.TheVariants.{Blends, ChoosesData, Edges}
use Rattle.subsetter_cff2.specs.declared.private_dicts.kinds.PrivateOperator.TheVariants.{Numbers, Dropped}

-- The operands, the last one pushed last: their defaults, and their parts at the place, which a real, a number past 16
-- bits, and what varies by one don't have; which item variation data count, and whether that is settled: a blend or a
-- vsindex was met.
pub record Registers : Type 0 where
  pub defaults : List Number
  pub parts : List (Option ℤ)
  pub data_index : ℕ
  pub settled : Bool

abbrev pub at_start : Registers
at_start = record { defaults = []; parts = []; data_index = 0; settled = false }

abbrev pub cleared : Registers → Registers
cleared r = record r { defaults = []; parts = [] }

-- operands go onto the stack, which holds 513
unfoldable pub pushed : Registers → List Number → Option Registers
pushed r xs =
    if nat_le (length r.defaults + length xs) 513
    then Some (record r { defaults = r.defaults ++ xs; parts = r.parts ++ map in_parts xs })
    else None

-- vsindex: its one operand names data that are there, once, and before the first blend
unfoldable pub chosen : Option Variation → Registers → Option Registers
chosen None r = None
chosen (Some v) r = if r.settled then None else do
  outer ← offset_operand r.defaults
  scalars ← data_scalars v outer
  Some (record { defaults = []; parts = []; data_index = outer; settled = true })

-- the last operand, a natural number
unfoldable pub last_natural : List Number → Option ℕ
last_natural xs = slice_get xs (length xs - 1) >>= as_u32

-- blend: the last operand says how many results there are; they take the place of their defaults
unfoldable pub blended_by : Option Variation → Registers → Option Registers
blended_by None r = None
blended_by (Some v) r = do
  count ← last_natural r.defaults
  scalars ← data_scalars v r.data_index
  parts ← blended scalars count (take (length r.parts - 1) r.parts)
  Some (record r { defaults = take (length parts) r.defaults; parts = parts; settled = true })

-- ---- what an entry says
abbrev pub known : Option ℤ → ℤ
known o = unwrap_or o (pos 0)

-- the parts as whole numbers: of an array each edge is rounded, of other numbers each number
abbrev pub rounded : Bool → List ℤ → List ℤ
rounded true vs = edges vs
rounded false vs = map whole vs

-- where an operand has no parts, all keep their defaults
unfoldable pub placed_numbers : Bool → List Number → List (Option ℤ) → List Number
placed_numbers is_array defaults parts =
    if list_all is_some parts then map Integer (rounded is_array (map known parts)) else defaults

-- at most 48 operands: a DICT of CFF holds no more
abbrev pub placed_entry : Bool → List ℕ → Registers → Entry
placed_entry is_array operator r =
    record { operator = operator; operands = placed_numbers is_array (take 48 r.defaults) (take 48 r.parts) }

-- what is said for the entry that an operator ends, if anything, and what is left
pub record Step : Type 0 where
  pub said : Option Entry
  pub next : Registers

abbrev pub silent : Registers → Step
silent next = record { said = None; next = next }

abbrev pub saying : Entry → Registers → Step
saying e r = record { said = Some e; next = cleared r }

abbrev pub step_by : PrivateOperator → Option Variation → List ℕ → Registers → Option Step
step_by Blends v operator r = option_map silent (blended_by v r)
step_by ChoosesData v operator r = option_map silent (chosen v r)
step_by Edges v operator r = Some (saying (placed_entry true operator r) r)
step_by Numbers v operator r = Some (saying (placed_entry false operator r) r)
step_by Dropped v operator r = Some (silent (cleared r))

-- an entry's operands, then its operator
unfoldable pub step : Option Variation → Registers → List ℕ → List Number → Option Step
step v r operator xs = pushed r xs >>= step_by (kind_by operator) v operator

-- ---- the whole
pub record Placed : Type 0 where
  pub entries : List Entry
  pub data_index : ℕ

abbrev pub with_entry : Option Entry → Placed → Placed
with_entry None p = p
with_entry (Some e) p = record { entries = e ∷ p.entries; data_index = p.data_index }

abbrev pub placed : Option Variation → Registers → List Entry → Option Placed
placed v r [] = Some (record { entries = []; data_index = r.data_index })
placed v r (e ∷ es) = step v r e.operator e.operands >>= λ s. option_map (with_entry s.said) (placed v s.next es)

unfoldable pub private_at_location : Option Variation → List ℕ → Option Placed
private_at_location v dict = placed v at_start (entry_lists dict)
