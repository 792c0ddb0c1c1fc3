use Rattle.std.proofs.Common.{◌≡◌, ℕ, ◌+◌, ◌-◌, suc, ◌++◌, refl, ap, ◌∙◌, arith}
use Rattle.text_metrics.specs.Ink.{each_from}
use Rattle.text_metrics.proofs.Each.{each_more}
use Rattle.own_choice.proofs.call.numbers.Goals as goal

pub loop-glyph-preserved : goal.loop-glyph-preserved
loop-glyph-preserved c =
    let f : ℕ → ℕ = λ (g : ℕ). g in
    let g = c.loop-glyph.glyph in
    let m = c.args.count - (g + 1) in
    let step : c.args.count - g ≡ suc m = omega arith in
    ap (λ l. l ++ each_from f (g + 1) m) c.in_ok-push.ensures.items ∙ each_more f c.loop-glyph.glyphs.items (each_from f 0 c.args.count) g g (c.args.count - g) m step refl c.loop-glyph.invariant
