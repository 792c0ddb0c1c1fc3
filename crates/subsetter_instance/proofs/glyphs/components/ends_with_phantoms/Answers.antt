use Rattle.std.proofs.Common.{◌∙◌, ◌++◌, ◌∷◌, [], ap, sym}
use Rattle.subsetter_instance.proofs.GlyphsLaws.Ends.{range_more}
use Rattle.subsetter_instance.proofs.glyphs.components.ends_with_phantoms.Goals as goal

pub loop-k-preserved : goal.loop-k-preserved
loop-k-preserved c = c.in_ok-push.ensures.items ∙ ap (λ l. l ++ c.loop-k.k ∷ []) c.loop-k.invariant ∙ sym (range_more c.loop-k.k)
