use Rattle.std.proofs.Common.{◌≡◌, ◌<◌, ℕ, List, length, subst, refl, arith}
use Rattle.std.specs.Prelude.{nat_eq, slice_index}
use Rattle.std.specs.HashMap.{get}
use Rattle.pdf_source.specs.Counted.{counted}
use Rattle.pdf_source.specs.Frequent.{count_of}
use Rattle.pdf_source.proofs.Counting.{IsBest, best_counted, is_most}
use Rattle.pdf_source.proofs.widths.most_frequent.Goals as goal

pub loop-i-preserved : goal.loop-i-preserved
loop-i-preserved c =
    let ws : List ℕ = c.args.widths.now in
    let less : c.loop-i.i < length ws = omega arith in
    best_counted ws (counted c.in_ok-counts.counts.placed.items (get nat_eq c.in_ok-counts.counts.mapped)) c.in_ok-counts.ensures.ok c.loop-i.i c.loop-i.best _ less c.loop-i.invariant c.more_frequent-best.ensures

pub returns-clause-ok : goal.returns-clause-ok
returns-clause-ok c =
    let ws : List ℕ = c.args.widths.now in
    let end : c.loop-i.i ≡ length ws = omega arith in
    is_most ws c.loop-i.best _ (subst (λ (i : ℕ). IsBest (λ j. count_of ws (slice_index ws j)) (length ws) i c.loop-i.best) end c.loop-i.invariant) refl
