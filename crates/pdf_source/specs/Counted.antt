-- How often widths were counted: the low ones at a place each, and the others by a map.
use Rattle.std.specs.Prelude.{ℕ, nat_lt, if◌then◌else◌, List, length, slice_index_or, Option}
use Rattle.std.specs.Option.{unwrap_or}

abbrev pub counted : List ℕ → (ℕ → Option ℕ) → ℕ → ℕ
counted placed mapped w = if nat_lt w (length placed) then slice_index_or placed w 0 else unwrap_or (mapped w) 0
