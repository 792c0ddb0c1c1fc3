use Rattle.std.proofs.Common.{◌∙◌, ◌++◌, ap}
use Rattle.std.proofs.lemmas.Result.{err_from_is_err_and}
use Rattle.subsetter_type2.specs.Flat.{flat_operands}
use Rattle.subsetter_blend.specs.Writing.Taking.{Event}
use Rattle.subsetter_blend.specs.Writing.Written.{Fitted, width, start_point, end_point}
use Rattle.subsetter_blend.proofs.WritingLaws.Following.{piece_so, piece_err}
use Rattle.subsetter_blend.proofs.writing.fitting.Fitting.draw_piece.Goals as goal

pub returns-in_err-end-clause-did : goal.returns-in_err-end-clause-did
returns-in_err-end-clause-did c =
    let e : Event = record { operator = c.args.operator; operands = c.args.operands.now; mask = c.args.mask.now } in
    let p = err_from_is_err_and c.from_residual-in_err-end.result c.from_residual-in_err-end.ensures.1 in
    let hint = c.is_hint-hint.result in
    rw (p.1, p.2)
    (λ ne. piece_err e c.args.self.now hint c.start_point-start.result c.in_err-end.field-0.0 c.is_hint-hint.ensures
    (c.start_point-start.ensures.value ∙ ap (λ (x : Fitted). start_point hint x.pen.at) c.self.view_is) c.in_err-end.ensures.err ne)

pub returns-clause-did : goal.returns-clause-did
returns-clause-did c =
    let e : Event = record { operator = c.args.operator; operands = c.args.operands.now; mask = c.args.mask.now } in
    let hint = c.is_hint-hint.result in
    piece_so e c.args.self.now hint c.start_point-start.result c.in_ok-end.end c.end_point-self-inside.result c.append_width.new.bytes.items c.place_all.new.bytes.items c.append_operator.new.bytes.items
    c.is_hint-hint.ensures
    (c.start_point-start.ensures.value ∙ ap (λ (x : Fitted). start_point hint x.pen.at) c.self.view_is)
    (c.in_ok-append_width.ensures.ok ∙ ap (λ (x : Fitted). x.bytes ++ flat_operands (width x.pen.advance)) c.self.view_is)
    c.in_ok-end.ensures.ok
    c.in_ok-append_operator.ensures.ok
    (c.end_point-self-inside.ensures.value ∙ ap (λ (x : Fitted). end_point hint x.pen.at c.in_ok-end.end) c.self.view_is)
