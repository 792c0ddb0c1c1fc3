use Rattle.std.proofs.Common.{ℕ, drop, ap, sym, ◌∙◌, arith, ◌≡◌}
use Rattle.std.proofs.lemmas.List.{drop_all}
use Rattle.pdf_figures.specs.Figures.{wide_count}
use Rattle.pdf_figures.proofs.WideCounts.{wide_visual}
use Rattle.pdf_figures.proofs.cutting.wide_count.Goals as goal

pub returns-clause-value : goal.returns-clause-value
returns-clause-value c =
    let n : ℕ = c.loop-character.count in
    let none : wide_count (drop c.loop-character.character-index c.args.share.now) ≡ 0 = ap wide_count (drop_all c.loop-character.character-index c.args.share.now (omega arith)) in
    let all : n ≡ wide_count c.args.share.now = omega (arith, none, c.loop-character.invariant.count) in
    all ∙ sym (wide_visual c.args.direction c.args.share.now)
