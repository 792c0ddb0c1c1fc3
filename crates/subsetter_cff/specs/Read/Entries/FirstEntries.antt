-- The first entry of a DICT that says what is looked for (Technical Note 5176, section 4 "DICT Data").
use Rattle.std.specs.Prelude.{◌≡◌, ℕ, suc, ◌+◌, ◌-◌, ◌<◌, ◌≤◌, Bool, true, false, nat_le, if◌then◌else◌, List, [], ◌∷◌}
use Rattle.std.specs.Prelude.{length, take, drop, slice_get, Option, Some, None, MatchOption}
use Rattle.std.specs.Option.{option_or}
use Rattle.subsetter_cffdata.specs.Numerals.Numbers.{Number}
use Rattle.subsetter_cffdata.specs.Dicts.Dict.{Entry, entry_at, entries}
use Rattle.subsetter_cffdata.specs.Views.{operator_of}
use Rattle.subsetter_cff.specs.declared.read.entries.first_entries.EntryHere.{EntryHere}
use Rattle.subsetter_cff.specs.declared.read.entries.first_entries.Found.{Found}
use Rattle.subsetter_cff.specs.declared.read.entries.first_entries.Cell.{Cell}

-- what an entry says by its operator and its operand, where it has just one; none of one that isn't looked for
abbrev pub Saying : Type 0
Saying = List ℕ → Option Number → Option (Option ℕ)

abbrev pub only : List Number → Option Number
only [] = None
only (x ∷ []) = Some x
only (x ∷ y ∷ more) = None

-- what the first one says that says something
abbrev pub first_said : Saying → List Entry → Option (Option ℕ)
first_said said [] = None
first_said said (e ∷ es) = option_or (said e.operator (only e.operands)) (first_said said es)

-- ---- for each place of a table, by how many bytes are left there
abbrev pub last : List ℕ → ℕ → List ℕ
last bytes left = drop (length bytes - left) bytes

abbrev pub is_bare : List Number → Bool
is_bare [] = true
is_bare (x ∷ more) = false

-- the entry that begins there: its operator, whether it has no operands, and how many bytes are left after it
pub record IsEntryHere (bytes : List ℕ) (at : ℕ) (h : EntryHere) : Type 0 where
  pub operands : List Number
  pub is : entry_at (last bytes at)
      ≡ Some (record { operator = operator_of h.operator; operands = operands }, last bytes h.left)
  pub bare : h.bare ≡ is_bare operands
  pub shorter : h.left < at

-- of what the first such entry of all bytes says, what is said in the first n of them
abbrev pub said_within : ℕ → ℕ → Option Found → Option (Option ℕ)
said_within at n None = None
said_within at n (Some f) = if nat_le at (n + f.left) then Some f.value else None

abbrev pub IsShorter : Option Found → ℕ → Type 0
IsShorter None at = Unit {0}
IsShorter (Some f) at = f.left < at

pub record IsCell (said : Saying) (bytes : List ℕ) (at : ℕ) (c : Cell) : Type 0 where
  pub here : MatchOption c.here (entry_at (last bytes at) ≡ None) (λ h. IsEntryHere bytes at h)
  pub first : (n : ℕ) → n ≤ at → first_said said (entries (take n (last bytes at))) ≡ said_within at n c.found
  pub shorter : IsShorter c.found at

-- the cells of the last 0, 1, 2 .. bytes, n of them
pub record AreCells (said : Saying) (bytes : List ℕ) (cells : List Cell) (n : ℕ) : Type 0 where
  pub len : length cells ≡ n
  pub each : (at : ℕ) (c : Cell) → slice_get cells at ≡ Some c → IsCell said bytes at c

-- those of all bytes, if there are any
abbrev pub AreCellsIfAny : Saying → List ℕ → List Cell → Type 0
AreCellsIfAny said bytes cells = 0 < length cells → AreCells said bytes cells (suc (length bytes))
