use Rattle.std.proofs.Common.{◌≡◌, replicate, Err}
use Rattle.subsetter_base.specs.declared.error.Error.TheVariants.{MalformedFont}
use Rattle.subsetter_variation.proofs.items.advances.without_store.Given as goal

abbrev pub invariant-loop-index : goal.invariant-loop-index
invariant-loop-index l = l.deltas.items ≡ replicate l.index (Err MalformedFont)
