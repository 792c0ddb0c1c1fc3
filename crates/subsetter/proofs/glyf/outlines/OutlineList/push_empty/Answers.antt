use Rattle.std.proofs.Common.{true, false, [], ◌∷◌, ◌++◌, refl, sym, ap, ◌∙◌}
use Rattle.std.proofs.lemmas.List.{append-nil}
use Rattle.std.proofs.lemmas.Slice.{pushed}
use Rattle.subsetter.specs.Glyf.Woven.{Listed}
use Rattle.subsetter.proofs.GlyfLaws.BareOutlinesLaws.Counted.{counted_empty}
use Rattle.subsetter.proofs.GlyfLaws.Woven.{made_last}
use Rattle.subsetter.proofs.glyf.outlines.OutlineList.push_empty.Goals as goal

pub returns-clause-ok : goal.returns-clause-ok
returns-clause-ok c =
    let o = c.self.inside in
    let all = made_last o.hinting o.kept.items o.sizes.items o.made.items c.self.invariant.parts _ c.push-2.new.self.items c.push.new.self.items o.made.items [] refl (pushed (_ ∷ []) c.reserve.ensures.items c.unwrap.ensures c.push-2.ensures.items) c.in_ok-push.ensures.items (sym (append-nil o.made.items)) in
    all.1 ∙ ap (λ (l : Listed). l.items ++ [] ∷ []) c.self.view_is

pub invariant_of-self-2 : goal.invariant_of-self-2
invariant_of-self-2 c =
    let o = c.self.inside in
    let all = made_last o.hinting o.kept.items o.sizes.items o.made.items c.self.invariant.parts _ c.push-2.new.self.items c.push.new.self.items o.made.items [] refl (pushed (_ ∷ []) c.reserve.ensures.items c.unwrap.ensures c.push-2.ensures.items) c.in_ok-push.ensures.items (sym (append-nil o.made.items)) in
    record {
      parts = all.0;
      counted = counted_empty true _ _ o.size c.self.invariant.counted all.1;
      even = counted_empty false _ _ o.even_size c.self.invariant.even all.1;
    }
