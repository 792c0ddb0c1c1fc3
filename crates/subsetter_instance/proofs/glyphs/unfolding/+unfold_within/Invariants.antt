use Rattle.std.proofs.Common.{◌≡◌, ◌-◌, ◌∷◌, ◌++◌, [], drop, length}
use Rattle.subsetter_instance.specs.Glyphs.Cache.{AreKept}
use Rattle.subsetter_instance.specs.Glyphs.Unfolded.{IsInReach, joined, unfolded}
use Rattle.subsetter_instance.proofs.glyphs.unfolding.+unfold_within.Given as goal

abbrev pub decreases-unfold_within : goal.decreases-unfold_within
decreases-unfold_within l = l.depth

abbrev pub invariant-loop-k : goal.invariant-loop-k
invariant-loop-k l = record {
  value : joined (unfolded (l.depth - 1) l.source l.at) (drop l.k l.work.level.composite.components) l.k l.work.level.composite.xs l.work.level.composite.ys (l.work.level.all, l.work.left) ≡ unfolded l.depth l.source l.at l.fn.work.left l.glyph;
  count : l.count ≡ length l.work.level.composite.components;
  bound : IsInReach l.work.level.all;
  kept : AreKept l.source l.at l.work.kept;
  outer : l.work.outer.items ≡ l.fn.work.outer.items ++ l.fn.work.level ∷ [];
}
