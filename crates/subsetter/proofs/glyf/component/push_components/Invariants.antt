use Rattle.std.proofs.Common.{◌≡◌, ◌≤◌, ◌-◌, ◌++◌, length, drop}
use Rattle.subsetter.specs.Glyf.Reaching.Closure.{others_in}
use Rattle.subsetter.specs.Glyf.Parts.{numbers_at, component_numbers}
use Rattle.subsetter.proofs.GlyfLaws.Walk.{text_size}
use Rattle.subsetter.proofs.glyf.component.push_components.Given as goal

abbrev pub invariant-loop-component : goal.invariant-loop-component
invariant-loop-component l = record {
  within : length l.rest ≤ length l.outline;
  sized : text_size l.hinting l.order (length l.outline - length l.rest) l.rest ≡ text_size l.hinting l.order 10 (drop 10 l.outline);
  waits : l.waiting.items ++ others_in l.order (numbers_at (length l.rest) l.rest) ≡ l.fn.waiting.items ++ others_in l.order (component_numbers l.outline);
}

abbrev pub decreases-loop-component : goal.decreases-loop-component
decreases-loop-component l = length l.rest
