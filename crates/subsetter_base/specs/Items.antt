-- Arrays whose items are each spelled by as many bytes.
use Rattle.std.specs.Prelude.{ℕ, zero, suc, ◌*◌, List, [], ◌∷◌, drop, Option, Some, None, nat_lt, if◌then◌else◌}
use Rattle.std.specs.Option.{option_and_then}
use Rattle.subsetter_base.specs.Bytes.{range}

-- the bytes of an array's items, and how many items there are
pub record Items : Type 0 where
  pub bytes : List ℕ
  pub count : ℕ

-- the bytes of the item at an index
abbrev pub item : ℕ → Items → ℕ → Option (List ℕ)
item size items i = if nat_lt i items.count then range items.bytes (i * size) size else None

-- the values of n items, up to the first that can't be read
abbrev pub values_of : {A : Type 0} → ℕ → (List ℕ → Option A) → ℕ → List ℕ → List A
values_of size value_of zero bytes = []
values_of size value_of (suc n) bytes = elim (option_and_then value_of (range bytes 0 size)) [
  | None ↦ []
  | Some x ↦ x ∷ values_of size value_of n (drop size bytes)
]

abbrev pub values : {A : Type 0} → ℕ → (List ℕ → Option A) → Items → List A
values size value_of items = values_of size value_of items.count items.bytes
