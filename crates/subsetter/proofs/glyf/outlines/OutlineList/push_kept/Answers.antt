use Rattle.std.proofs.Common.{true, false, [], ◌∷◌, ◌++◌, length, ap, ◌∙◌, List, ℕ}
use Rattle.subsetter.specs.Glyf.BareOutlines.Bare.{requested_simple}
use Rattle.subsetter.specs.Glyf.Reaching.Unfold.{padded}
use Rattle.subsetter.specs.Glyf.Woven.{Listed}
use Rattle.subsetter.proofs.GlyfLaws.BareOutlinesLaws.Counted.{counted_more}
use Rattle.subsetter.proofs.GlyfLaws.Woven.{kept_last, filled}
use Rattle.subsetter.proofs.glyf.outlines.OutlineList.push_kept.Goals as goal

pub returns-clause-ok : goal.returns-clause-ok
returns-clause-ok c =
    let o = c.self.inside in
    let b = c.args.outline in
    let all = kept_last o.hinting o.kept.items o.sizes.items o.made.items c.self.invariant.parts b c.push.new.self.items (filled b.now c.requires) c.in_ok-push.ensures.items in
    all.1 ∙ ap (λ (l : Listed). l.items ++ requested_simple l.hinting b.now ∷ []) c.self.view_is

pub invariant_of-self-2 : goal.invariant_of-self-2
invariant_of-self-2 c =
    let o = c.self.inside in
    let b = c.args.outline in
    let all = kept_last o.hinting o.kept.items o.sizes.items o.made.items c.self.invariant.parts b c.push.new.self.items (filled b.now c.requires) c.in_ok-push.ensures.items in
    let asked = requested_simple o.hinting b.now in
    record {
      parts = all.0;
      counted = counted_more true _ _ asked o.size c.padded_len-long_len.result c.saturating_add-self-inside.result c.self.invariant.counted all.1 (c.padded_len-long_len.ensures ∙ ap (λ (l : List ℕ). length (padded true l)) c.simple-pieces.ensures) c.saturating_add-self-inside.ensures;
      even = counted_more false _ _ asked o.even_size c.padded_len-short_len.result c.saturating_add-self-inside-2.result c.self.invariant.even all.1 (c.padded_len-short_len.ensures ∙ ap (λ (l : List ℕ). length (padded false l)) c.simple-pieces.ensures) c.saturating_add-self-inside-2.ensures;
    }
