use Rattle.std.proofs.Common.{◌≡◌, ℕ, ◌-◌, ◌++◌}
use Rattle.text_metrics.specs.Ink.{each_from}
use Rattle.own_choice.proofs.call.numbers.Given as goal

abbrev pub invariant-loop-glyph : goal.invariant-loop-glyph
invariant-loop-glyph l = l.glyphs.items ++ each_from (λ (g : ℕ). g) l.glyph (l.count - l.glyph) ≡ each_from (λ (g : ℕ). g) 0 l.count
