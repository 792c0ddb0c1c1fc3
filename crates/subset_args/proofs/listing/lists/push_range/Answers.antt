use Rattle.std.proofs.Common.{◌+◌, ◌-◌, ◌<◌, [], ◌∷◌, ◌++◌, sym, ap, ◌∙◌, append_assoc, arith}
use Rattle.subset_args.specs.Listing.Lists.{counting}
use Rattle.subset_args.proofs.Counting.{counting_step}
use Rattle.subset_args.proofs.listing.lists.push_range.Goals as goal

pub loop-number-preserved : goal.loop-number-preserved
loop-number-preserved c =
    let n = c.loop-number.number in
    let h : n < c.args.last + 1 = omega (arith, c.from-number-end.ensures, c.loop-number-test.true) in
    let rest = counting (n + 1) (c.args.last + 1 - (n + 1)) in
    ap (λ v. v ++ rest) c.in_ok-push.ensures.items ∙ (append_assoc c.loop-number.glyphs.items (n ∷ []) rest ∙ (ap (λ v. c.loop-number.glyphs.items ++ v) (sym (counting_step n (c.args.last + 1) h)) ∙ c.loop-number.invariant))
