use Rattle.std.proofs.Common.{◌≤◌, ◌+◌, length, sym, arith}
use Rattle.subsetter_blend.specs.Writing.Split.{split}
use Rattle.subsetter_blend.specs.Writing.Taking.{Event, all_taken}
use Rattle.subsetter_blend.specs.Writing.Written.{Fitted, width, fitted_piece}
use Rattle.subsetter_blend.proofs.WritingLaws.Splits.{did_from, piece_alone}
use Rattle.subsetter_blend.proofs.writing.fitting.Fitting.draw.Goals as goal

pub returns-then-front-operands-le-MAX_OPERANDS : goal.returns-then-front-operands-le-MAX_OPERANDS
returns-then-front-operands-le-MAX_OPERANDS c =
    let e : Event = record { operator = c.args.operator; operands = c.args.operands.now; mask = c.args.mask.now } in
    let few : length (width c.args.self.now.pen.advance) + length e.operands ≤ 48 = omega (arith, c.front.ensures.value, c.if-front-operands-le-MAX_OPERANDS.true) in
    did_from (fitted_piece e) (λ (f : Fitted). all_taken fitted_piece (split (length (width f.pen.advance)) e) f) c.args.self.now c.args.self.now c.draw_piece.new.self c.draw_piece.result
    (sym (piece_alone e c.args.self.now few)) c.draw_piece.ensures.did
