-- What an INDEX in memory shows.
use Rattle.std.specs.Prelude.{ℕ, ◌-◌, ◌==◌, nat_lt, if◌then◌else◌, List, Option, Some, None}
use Rattle.subsetter_cffdata.specs.declared.indexes.index_view.Index.{Index}
use Rattle.subsetter_cffdata.specs.declared.indexes.index_view.VarOffsets.{VarOffsets}
use Rattle.subsetter_cffdata.specs.Indexes.OffsetSizes.{size_of}
use Rattle.subsetter_cffdata.specs.Indexes.Index.{entries, offset_at}

-- its entries, one less than there are offsets
abbrev pub items : Index → List (Option (List ℕ))
items x = entries (size_of x.offsets.offset_size) (x.offsets.len - 1) x.offsets.data.now x.data.now

-- an offset counted from the first byte of the data, not from the byte before it
abbrev pub less_one : ℕ → Option ℕ
less_one n = if n == 0 then None else Some (n - 1)

abbrev pub shifted : VarOffsets → ℕ → Option ℕ
shifted o i = if nat_lt i o.len then less_one (offset_at (size_of o.offset_size) o.data.now i) else None

abbrev pub shifted_last : VarOffsets → Option ℕ
shifted_last o = if o.len == 0 then None else shifted o (o.len - 1)
