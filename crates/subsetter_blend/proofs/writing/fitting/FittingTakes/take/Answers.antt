use Rattle.std.proofs.Common.{◌≡◌, ◌∙◌, length, true, ap, sym}
use Rattle.subsetter_blend.specs.Writing.Split.{split}
use Rattle.subsetter_blend.specs.Writing.Taking.{Event, all_taken}
use Rattle.subsetter_blend.specs.Writing.Written.{Fitted, width, may_begin, fitted_piece, fitted}
use Rattle.subsetter_blend.proofs.WritingLaws.Fits.{did_same, plain_event}
use Rattle.subsetter_blend.proofs.writing.fitting.FittingTakes.take.Goals as goal

pub returns-in-OneByteOperator : goal.returns-in-OneByteOperator
returns-in-OneByteOperator c =
    let e : Event = record { operator = c.args.operator; operands = c.args.operands.now; mask = c.args.mask.now } in
    let stands : may_begin c.args.self.now.pen.advance c.args.operator.0 ≡ true =
    sym (ap (λ (f : Fitted). may_begin f.pen.advance c.args.operator.0) c.self.view_is) ∙ sym c.may_begin.ensures ∙ c.if-not-may_begin.false in
    did_same (λ (f : Fitted). all_taken fitted_piece (split (length (width f.pen.advance)) e) f) (fitted e) c.args.self.now c.draw.new.self c.draw.result
    (plain_event e c.in-OneByteOperator.field-0 c.args.self.now c.in-OneByteOperator.is stands) c.draw.ensures
