use Rattle.std.proofs.Common.{◌+◌, ◌-◌, [], ◌∷◌, ◌++◌, sym, ap, ◌∙◌, append_assoc}
use Rattle.subset_args.specs.Listing.Lists.{counting}
use Rattle.subset_args.proofs.Counting.{counting_step}
use Rattle.subset_task.proofs.making.requested.first_glyphs.Goals as goal

pub loop-glyph-preserved : goal.loop-glyph-preserved
loop-glyph-preserved c =
    let n = c.loop-glyph.glyph in
    let rest = counting (n + 1) (c.args.count - (n + 1)) in
    ap (λ v. v ++ rest) c.in_ok-push.ensures.items ∙ (append_assoc c.loop-glyph.glyphs.items (n ∷ []) rest ∙ (ap (λ v. c.loop-glyph.glyphs.items ++ v) (sym (counting_step n c.args.count c.loop-glyph-test.true)) ∙ c.loop-glyph.invariant))
