use Rattle.std.proofs.Common.{◌≡◌, map, ◌+◌, ◌++◌, length, drop}
use Rattle.std.specs.List.{concat}
use Rattle.subsetter_cffdata.specs.Indexes.Index.{offsets, numbers}
use Rattle.subsetter_cffdata.proofs.indexes.writing_index.put_offsets.Given as goal

-- the offset so far, and what is left; what is written, and what is left
abbrev pub invariant-loop-item : goal.invariant-loop-item
invariant-loop-item g l = record {
  sum : l.offset + length (concat (map g.T.AsSlice.items (drop l.item-index l.items))) ≡ length (concat (map g.T.AsSlice.items l.items)) + 1;
  written : l.w ++ numbers l.size (offsets l.offset (map g.T.AsSlice.items (drop l.item-index l.items))) ≡ l.initial.w ++ numbers l.size (offsets 1 (map g.T.AsSlice.items l.items));
}
