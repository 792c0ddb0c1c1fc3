use Rattle.std.proofs.Common.{◌≡◌, ◌-◌, ◌++◌}
use Rattle.subsetter_instance.specs.Glyphs.Cache.{AreKept}
use Rattle.subsetter_instance.specs.Glyphs.Drawn.{drawn}
use Rattle.text_metrics.specs.Ink.{each_from}
use Rattle.own_choice.specs.Parts.{size_of, sizes}
use Rattle.own_choice.proofs.drawn.sizes.Given as goal

abbrev pub invariant-loop-glyph : goal.invariant-loop-glyph
invariant-loop-glyph l = record {
  value : l.all.items ++ each_from (λ g. size_of (drawn l.source l.at l.steps g)) l.glyph (l.count - l.glyph) ≡ sizes l.source l.at l.steps l.count;
  kept : AreKept l.source l.at l.kept;
}
