use Rattle.std.proofs.Common.{◌≡◌, drop}
use Rattle.subsetter_base.proofs.Results.{with_front}
use Rattle.subsetter_instance.specs.Glyphs.Cache.{AreKept}
use Rattle.subsetter_instance.specs.Plain.{drawn_all}
use Rattle.subsetter_instance.proofs.glyphs.drawn.draw_each.Given as goal

abbrev pub invariant-loop-place : goal.invariant-loop-place
invariant-loop-place l = record {
  value : with_front l.all.items (drawn_all l.source l.at l.steps (drop l.place l.glyphs)) ≡ drawn_all l.source l.at l.steps l.glyphs;
  kept : AreKept l.source l.at l.kept;
}
