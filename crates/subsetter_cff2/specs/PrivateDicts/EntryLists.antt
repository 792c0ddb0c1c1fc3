-- The entries of a DICT with all their operands, of which an entry of CFF2 may have 513 (OpenType, "CFF2": "DICT
-- Data").
use Rattle.std.specs.Prelude.{ℕ, zero, suc, List, [], ◌∷◌, length}
use Rattle.std.specs.Option.{option_map_or}
use Rattle.subsetter_cffdata.specs.Dicts.Dict.{Entry, entry_at}

-- the entries before the first place that can't be read
unfoldable pub entry_lists_in : ℕ → List ℕ → List Entry
entry_lists_in zero bytes = []
entry_lists_in (suc steps) bytes = option_map_or (λ e. e.0 ∷ entry_lists_in steps e.1) (entry_at bytes) []

unfoldable pub entry_lists : List ℕ → List Entry
entry_lists bytes = entry_lists_in (length bytes) bytes
