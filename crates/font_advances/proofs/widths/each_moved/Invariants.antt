use Rattle.std.proofs.Common.{◌≡◌, drop}
use Rattle.subsetter_base.proofs.Results.{with_front}
use Rattle.subsetter_instance.specs.Glyphs.Cache.{AreKept}
use Rattle.font_advances.specs.Widths.{each, moved_width}
use Rattle.font_advances.proofs.widths.each_moved.Given as goal

abbrev pub invariant-loop-place : goal.invariant-loop-place
invariant-loop-place l = record {
  value : with_front l.widths.items (each (moved_width l.source l.at l.steps) (drop l.place l.glyphs)) ≡ each (moved_width l.source l.at l.steps) l.glyphs;
  kept : AreKept l.source l.at l.kept;
}
