use Rattle.std.proofs.Common.{◌∙◌, ◌+◌, ◌-◌, ◌^◌, ℕ, ap, sym, length, map}
use Rattle.std.specs.Prelude.{min}
use Rattle.subsetter_cff.proofs.ReadLaws.Results.{same_Ok}
use Rattle.subsetter_boxes.specs.CharstringBox.{charstring_box}
use Rattle.subsetter_cff2.specs.Made2View.{dict_view}
use Rattle.subsetter_cff_at.specs.View.{opened_of}
use Rattle.subsetter_cff_at.proofs.Calls.{drawn_more}
use Rattle.subsetter_cff_at.proofs.texts.draw_requested.Goals as goal

pub returns-clause-ok : goal.returns-clause-ok
returns-clause-ok c =
    drawn_more c.put.result (opened_of c.args.opened.now).cff (opened_of c.args.opened.now).variation c.args.limits.tokens c.args.limits.depth (map dict_view c.args.dicts.now) c.args.place c.args.glyph c.args.advance c.args.texts.now c.put.new.texts _ _ c.in_ok-bounds.bounds _
    c.put.ensures.char_strings c.put.ensures.ends c.put.ensures.boxes (sym (same_Ok _ _ c.in_ok-bounds.ensures.value) ∙ ap charstring_box c.deref.ensures.value) c.put.ensures.requested c.deref-2.ensures.value
    (c.saturating_add-requested.ensures ∙ ap (λ (n : ℕ). min (c.args.texts.now.requested + n) (2 ^ 64 - 1)) (c.len.ensures ∙ sym c.deref-2.ensures.len ∙ ap length c.deref-2.ensures.value)) c.in_ok-text.ensures
