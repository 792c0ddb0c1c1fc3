use Rattle.std.proofs.Common.{◌≡◌, map, ◌+◌, ◌<◌, ◌^◌, length, drop}
use Rattle.std.specs.List.{concat}
use Rattle.subsetter_cffdata.proofs.indexes.writing_index.total.Given as goal

-- the sum so far, and what is left
abbrev pub invariant-loop-item : goal.invariant-loop-item
invariant-loop-item g l = record {
  sum : l.sum + length (concat (map g.T.AsSlice.items (drop l.item-index l.items))) ≡ length (concat (map g.T.AsSlice.items l.items)) + 1;
  fits : l.sum < 2 ^ 32;
}
