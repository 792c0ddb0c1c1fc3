use Rattle.std.proofs.Common.{◌≡◌, ◌++◌, drop}
use Rattle.std.specs.Prelude.{flat_map}
use Rattle.subsetter_base.specs.Refusals.{first_refusal}
use Rattle.subsetter_base.proofs.write.RefSliceWriteable.write.Given as goal

-- what is written, and what is left; no item so far was refused
abbrev pub invariant-loop-item : goal.invariant-loop-item
invariant-loop-item g l = record {
  written : l.w ++ flat_map g.T.Writeable.bytes_of (drop l.item-index l.items) ≡ l.initial.w ++ flat_map g.T.Writeable.bytes_of l.items;
  accepted : first_refusal g.T.Writeable.refusal (drop l.item-index l.items) ≡ first_refusal g.T.Writeable.refusal l.items;
}
