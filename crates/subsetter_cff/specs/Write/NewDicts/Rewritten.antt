-- DICT entries of the source as they are written again.
use Rattle.std.specs.Prelude.{◌≡◌, ℕ, ◌<◌, Bool, if◌then◌else◌, List, [], ◌++◌, length, Option, Some, None, Result, Ok}
use Rattle.std.specs.Prelude.{Err}
use Rattle.std.specs.List.{list_any}
use Rattle.subsetter_base.specs.Gives.{following}
use Rattle.subsetter_base.specs.declared.error.Error.{Error}
use Rattle.subsetter_base.specs.declared.error.Error.TheVariants.{OverflowError}
use Rattle.subsetter_cffdata.specs.Numerals.Numbers.{Number, is_too_long}
use Rattle.subsetter_cffdata.specs.Dicts.Dict.{Entry, entries, dict, entry_bytes}
use Rattle.subsetter_cff.specs.Read.Entries.Lookup.{without}
use Rattle.subsetter_cff.specs.Read.Entries.Operators.{subroutines_operator}
use Rattle.subsetter_cff.specs.Write.Laying.Layout.{rewritten_entries}
use Rattle.subsetter_cffdata.specs.Dicts.Plain.{plain_entry}

-- a real among the operands is too long to be written
abbrev pub is_refused : Entry → Bool
is_refused e = list_any is_too_long e.operands

-- the dict of entries, unless a real among their operands is too long
unfoldable pub written_entries : List Entry → Result (List ℕ) Error
written_entries es = if list_any is_refused es then Err OverflowError else Ok (dict (rewritten_entries es))

-- of an operator and its operands
unfoldable pub written_entry : List ℕ → List Number → Result (List ℕ) Error
written_entry operator xs =
    if list_any is_too_long xs then Err OverflowError else Ok (entry_bytes (plain_entry operator xs))

-- of an entry that is there
abbrev pub written_if_there : List ℕ → Option (List Number) → Result (List ℕ) Error
written_if_there operator None = Ok []
written_if_there operator (Some xs) = written_entry operator xs

-- a private dict without its subroutines
unfoldable pub rewritten_private : List ℕ → Result (List ℕ) Error
rewritten_private bytes = written_entries (without subroutines_operator (entries bytes))

-- entries before a rest are written as they are
pub record IsCopied (bytes rest : List ℕ) : Type 0 where
  pub text : List ℕ
  pub is : bytes ≡ text ++ rest
  pub copies : (front : List ℕ)
      → following (front ++ text) (rewritten_private rest) ≡ following front (rewritten_private bytes)

-- what is written now, after a front, is a private dict's first entry where another rest follows it, else the whole
-- dict
abbrev pub Rewrites : List ℕ → List ℕ → List ℕ → Option (List ℕ) → Type 0
Rewrites front bytes now None = following front (rewritten_private bytes) ≡ Ok now
Rewrites front bytes now (Some rest) =
    (following now (rewritten_private rest) ≡ following front (rewritten_private bytes)) × (length rest < length bytes)
