use Rattle.std.proofs.Common.{◌≡◌, drop}
use Rattle.subsetter_base.proofs.Results.{with_front}
use Rattle.font_advances.specs.Widths.{blended_width, each}
use Rattle.font_advances.proofs.widths.each_blended.Given as goal

abbrev pub invariant-loop-place : goal.invariant-loop-place
invariant-loop-place l = with_front l.widths.items (each (blended_width l.source l.at) (drop l.place l.glyphs)) ≡ each (blended_width l.source l.at) l.glyphs
