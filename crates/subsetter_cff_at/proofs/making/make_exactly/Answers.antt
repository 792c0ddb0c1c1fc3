use Rattle.std.proofs.Common.{◌≡◌, map, refl, sym, ap, subst, ◌∙◌, inl}
use Rattle.std.proofs.lemmas.Result.{err_from_is_err_and}
use Rattle.subsetter_cff_at.specs.View.{request_of, opened_of}
use Rattle.subsetter_base.specs.Gives.{Fails}
use Rattle.subsetter_cff2.specs.Made2View.{dict_view}
use Rattle.subsetter_cff_at.specs.Plain.{all_filled}
use Rattle.subsetter_cff_at.proofs.Calls.{box_is, made_there, making_boxes, making_fails, making_keeps}
use Rattle.subsetter_cff_at.proofs.making.make_exactly.Goals as goal

pub returns-in_err-dicts-clause-err : goal.returns-in_err-dicts-clause-err
returns-in_err-dicts-clause-err c =
    let p = err_from_is_err_and c.from_residual-in_err-dicts.result c.from_residual-in_err-dicts.ensures.1 in
    rw (p.1, p.2) (making_fails c.args.limits.bytes c.args.bytes.now (request_of c.args.request.now) c.args.limits.tokens c.args.limits.depth (opened_of c.in_ok-opened.opened) c.in_err-dicts.field-0.0
    (sym c.some_requested.ensures ∙ c.if-not-some_requested.false) c.in_ok-opened.ensures c.in_err-dicts.ensures.err)

pub returns-clause-within : goal.returns-clause-within
returns-clause-within c =
    making_keeps c.args.limits.bytes c.args.bytes.now (request_of c.args.request.now) c.args.limits.tokens c.args.limits.depth (opened_of c.in_ok-opened.opened)
    c.in_ok-opened.ensures c.in_ok-dicts.ensures.within

pub returns-clause-boxes : goal.returns-clause-boxes
returns-clause-boxes c =
    let d = c.in_ok-dicts.ensures.ok in
    making_boxes c.args.bytes.now (request_of c.args.request.now) c.args.limits.tokens c.args.limits.depth (opened_of c.in_ok-opened.opened) d.plain c.in_ok-dicts.field-0.boxes.items c.in_ok-opened.ensures d.is d.boxes

pub returns-clause-ok : goal.returns-clause-ok
returns-clause-ok c =
    let o = opened_of c.in_ok-opened.opened in
    let d = c.in_ok-dicts.ensures.ok in
    made_there c.args.bytes.now (request_of c.args.request.now) c.args.limits.tokens c.args.limits.depth o d.plain _ _ _ _ (sym c.some_requested.ensures ∙ c.if-not-some_requested.false) c.in_ok-opened.ensures d.is refl
    (box_is d.plain c.in_ok-dicts.field-0.boxes.items c.deref-2.result.now c.least_box.result c.font_box.result d.boxes c.deref-2.ensures.value c.least_box.ensures c.font_box.ensures)
    (ap (map dict_view) c.deref.ensures.value ∙ d.dicts) d.places
    ∙ c.in_ok-pieces.ensures (all_filled d.plain.texts) d.texts

pub returns-in_err-pieces-clause-err : goal.returns-in_err-pieces-clause-err
returns-in_err-pieces-clause-err c =
    let p = err_from_is_err_and c.from_residual-in_err-pieces.result c.from_residual-in_err-pieces.ensures.1 in
    let o = opened_of c.in_ok-opened.opened in
    let d = c.in_ok-dicts.ensures.ok in
    let there =
    made_there c.args.bytes.now (request_of c.args.request.now) c.args.limits.tokens c.args.limits.depth o d.plain _ _ _ _ (sym c.some_requested.ensures ∙ c.if-not-some_requested.false) c.in_ok-opened.ensures d.is refl
    (box_is d.plain c.in_ok-dicts.field-0.boxes.items c.deref-2.result.now c.least_box.result c.font_box.result d.boxes c.deref-2.ensures.value c.least_box.ensures c.font_box.ensures)
    (ap (map dict_view) c.deref.ensures.value ∙ d.dicts) d.places in
    rw (p.1, p.2) (inl (subst (Fails c.in_err-pieces.field-0.0) (sym there) (c.in_err-pieces.ensures (all_filled d.plain.texts) d.texts)))
