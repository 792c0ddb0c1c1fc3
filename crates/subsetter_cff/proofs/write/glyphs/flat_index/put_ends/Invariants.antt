use Rattle.std.proofs.Common.{◌≡◌, ◌++◌, drop}
use Rattle.subsetter_cffdata.specs.Indexes.Index.{numbers}
use Rattle.subsetter_cff.proofs.write.glyphs.flat_index.put_ends.Given as goal

abbrev pub invariant-loop-end : goal.invariant-loop-end
invariant-loop-end l = l.w ++ numbers l.size (drop l.end-index l.ends) ≡ l.initial.w ++ numbers l.size l.ends
