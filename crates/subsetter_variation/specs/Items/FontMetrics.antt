-- Metrics of a whole font that vary (OpenType, "MVAR").
use Rattle.std.specs.Prelude.{ℕ, zero, suc, ◌+◌, ◌*◌, ◌==◌, List, length, take, drop, Option, Some, None, nat_lt}
use Rattle.std.specs.Prelude.{if◌then◌else◌, ℤ, pos}
use Rattle.std.specs.Str.{bytes_eq}
use Rattle.subsetter_base.specs.Bytes.{be, range, number, from_offset}
use Rattle.subsetter_base.specs.Options.{◌>>=◌}
use Rattle.subsetter_variation.specs.Items.ItemVariations.{Store, item_delta, item_store}

-- the outer and the inner index of a value record, which are after its tag
abbrev pub value_indexes : List ℕ → ℕ × ℕ
value_indexes bytes = (be (take 2 (drop 4 bytes)), be (take 2 (drop 6 bytes)))

-- those of the first of n records, the record k and those after it, that has a tag, if one has; the records have one
-- size
abbrev pub value_from : ℕ → ℕ → ℕ → List ℕ → List ℕ → Option (Option (ℕ × ℕ))
value_from zero k size mvar tag = Some None
value_from (suc n) k size mvar tag = do
  bytes ← range mvar (12 + k * size) 8
  if bytes_eq (take 4 bytes) tag then Some (Some (value_indexes bytes)) else value_from n (k + 1) size mvar tag

-- the same of all records: valueRecordSize, which is 8 or more, and valueRecordCount
unfoldable pub value_of : List ℕ → List ℕ → Option (Option (ℕ × ℕ))
value_of mvar tag = do
  size ← number mvar 6 2
  count ← number mvar 8 2
  if nat_lt size 8 then None else value_from count 0 size mvar tag

-- a store whose regions have as many axes as the font
abbrev pub store_for : ℕ → Store → Option Store
store_for axis_count s = if s.axis_count == axis_count then Some s else None

-- the store of MVAR, to which an offset of 16 bits leads that isn't 0
unfoldable pub metric_store : List ℕ → ℕ → Option Store
metric_store mvar axis_count = do
  at ← number mvar 10 2
  bytes ← if at == 0 then None else from_offset mvar at
  s ← item_store bytes
  store_for axis_count s

-- what has no record doesn't vary
abbrev pub value_delta : List ℕ → List ℤ → Option (ℕ × ℕ) → Option ℤ
value_delta mvar at None = Some (pos 0)
value_delta mvar at (Some indexes) = metric_store mvar (length at) >>= λ s. item_delta s at indexes.0 indexes.1

-- what the metric of a tag varies by at a location, in parts of 2^30
unfoldable pub metric_delta : List ℕ → List ℤ → List ℕ → Option ℤ
metric_delta mvar at tag = value_of mvar tag >>= value_delta mvar at
