use Rattle.std.proofs.Common.{length, ap, sym, ◌∙◌}
use Rattle.std.proofs.lemmas.List.{length-map}
use Rattle.subsetter.specs.Glyf.Woven.{Listed}
use Rattle.subsetter.specs.Common.Name.View.{nows}
use Rattle.subsetter.proofs.GlyfLaws.Woven.{length-woven}
use Rattle.subsetter.proofs.glyf.outlines.OutlineList.len.Goals as goal

pub returns : goal.returns
returns c = ap length c.as_slice.ensures.value ∙ sym (length-map c.self.inside.kept.items (λ b. b.now)) ∙ sym (length-woven c.self.inside.hinting (nows c.self.inside.kept.items) c.self.inside.sizes.items c.self.inside.made.items c.self.invariant.parts) ∙ ap (λ (l : Listed). length l.items) c.self.view_is
