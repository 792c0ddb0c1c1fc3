use Rattle.std.proofs.Common.{ℕ, List, get_or, refl, ap, ◌∙◌, arith}
use Rattle.std.specs.Prelude.{nat_eq}
use Rattle.std.specs.HashMap.{get}
use Rattle.std.proofs.lemmas.List.{take_all}
use Rattle.pdf_source.specs.Counted.{counted}
use Rattle.pdf_source.specs.Frequent.{count_of}
use Rattle.pdf_source.proofs.Counting.{one_counted}
use Rattle.pdf_source.proofs.widths.counts_of.Goals as goal

pub loop-width-preserved : goal.loop-width-preserved
loop-width-preserved c =
    let ws : List ℕ = c.args.widths.now in
    let i : ℕ = c.loop-width.width-index in
    let key : ℕ = get_or ws i 0 in
    let before : ℕ → ℕ = counted c.loop-width.counts.placed.items (get nat_eq c.loop-width.counts.mapped) in
    let after : ℕ → ℕ = counted c.add.new.self.placed.items (get nat_eq c.add.new.self.mapped) in
    λ w. one_counted ws i w key (before key) (before w) (after w) (omega arith) refl (c.in_ok-add.ensures.ok w) (c.loop-width.invariant key) (c.loop-width.invariant w)

pub returns-clause-ok : goal.returns-clause-ok
returns-clause-ok c =
    let ws : List ℕ = c.args.widths.now in
    λ w. c.loop-width.invariant w ∙ ap (λ (l : List ℕ). count_of l w) (take_all c.loop-width.width-index ws (omega arith))
