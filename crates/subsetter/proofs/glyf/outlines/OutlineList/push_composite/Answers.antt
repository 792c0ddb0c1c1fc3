use Rattle.std.proofs.Common.{◌≡◌, ℕ, Bool, List, true, false, [], ◌∷◌, ◌++◌, length, Ok, refl, sym, ap, ◌∙◌, arith}
use Rattle.std.proofs.lemmas.Slice.{pushed}
use Rattle.subsetter.specs.Glyf.Plain.{rewritten_composite, with_last}
use Rattle.subsetter.specs.Glyf.Reaching.Unfold.{padded}
use Rattle.subsetter.specs.Glyf.Woven.{Listed}
use Rattle.subsetter.proofs.GlyfLaws.BareOutlinesLaws.Counted.{counted_more}
use Rattle.subsetter.proofs.GlyfLaws.KeptList.{after_ok, written_is}
use Rattle.subsetter.proofs.GlyfLaws.Woven.{made_last}
use Rattle.subsetter.proofs.glyf.outlines.OutlineList.push_composite.Goals as goal

pub returns-clause-ok : goal.returns-clause-ok
returns-clause-ok c =
    let o = c.self.inside in
    let hinted : o.hinting ≡ c.args.self.now.hinting = ap (λ (l : Listed). l.hinting) c.self.view_is in
    let all = c.rewrite_composite.new.out.items in
    let k = after_ok o.made.items (rewritten_composite o.hinting c.args.order.now c.args.outline.now) all c.in_ok-rewrite_composite.ensures.ok in
    let written = written_is o.made.items k.0 all c.deref.result.now c.len-start.result c.deref.ensures.value k.2 (omega arith) in
    let long : c.padded_len-long_len.result ≡ length k.0 = c.padded_len-long_len.ensures ∙ ap length written in
    let kept = pushed (_ ∷ []) c.reserve.ensures.items c.unwrap.ensures c.push.ensures.items in
    let sizes = pushed (c.padded_len-long_len.result ∷ []) c.reserve-2.ensures.items c.unwrap-2.ensures c.push-2.ensures.items in
    let last = made_last o.hinting o.kept.items o.sizes.items o.made.items c.self.invariant.parts _ c.push.new.self.items c.push-2.new.self.items all k.0 refl kept (sizes ∙ ap (λ (n : ℕ). o.sizes.items ++ n ∷ []) long) (sym k.2) in
    let items = c.args.self.now.items in
    ap (λ (h : Bool). with_last items (rewritten_composite h c.args.order.now c.args.outline.now)) (sym hinted) ∙ ap (with_last items) k.1 ∙ ap Ok (sym (last.1 ∙ ap (λ (l : Listed). l.items ++ k.0 ∷ []) c.self.view_is))

pub invariant_of-self-2 : goal.invariant_of-self-2
invariant_of-self-2 c =
    let o = c.self.inside in
    let all = c.rewrite_composite.new.out.items in
    let k = after_ok o.made.items (rewritten_composite o.hinting c.args.order.now c.args.outline.now) all c.in_ok-rewrite_composite.ensures.ok in
    let written = written_is o.made.items k.0 all c.deref.result.now c.len-start.result c.deref.ensures.value k.2 (omega arith) in
    let long : c.padded_len-long_len.result ≡ length k.0 = c.padded_len-long_len.ensures ∙ ap length written in
    let kept = pushed (_ ∷ []) c.reserve.ensures.items c.unwrap.ensures c.push.ensures.items in
    let sizes = pushed (c.padded_len-long_len.result ∷ []) c.reserve-2.ensures.items c.unwrap-2.ensures c.push-2.ensures.items in
    let last = made_last o.hinting o.kept.items o.sizes.items o.made.items c.self.invariant.parts _ c.push.new.self.items c.push-2.new.self.items all k.0 refl kept (sizes ∙ ap (λ (n : ℕ). o.sizes.items ++ n ∷ []) long) (sym k.2) in
    record {
      parts = last.0;
      counted = counted_more true _ _ k.0 o.size c.padded_len-long_len.result c.saturating_add-self-inside.result c.self.invariant.counted last.1 long c.saturating_add-self-inside.ensures;
      even = counted_more false _ _ k.0 o.even_size c.padded_len-short_len.result c.saturating_add-self-inside-2.result c.self.invariant.even last.1 (c.padded_len-short_len.ensures ∙ ap (λ (l : List ℕ). length (padded false l)) written) c.saturating_add-self-inside-2.ensures;
    }
