use Rattle.std.proofs.lemmas.Result.{err_from_is_err_and}
use Rattle.pdf_operators.specs.Operators.{acts_of}
use Rattle.pdf_operators.proofs.RunSteps.{near_more, piece_more, piece_refused, stop_more}
use Rattle.pdf_operators.proofs.runs.push_pieces.Goals as goal

pub loop-piece-preserved : goal.loop-piece-preserved
loop-piece-preserved c =
    let f = c.args.font in
    let d = c.args.direction in
    let ps = c.args.pieces.now in
    let k = c.loop-piece.piece-index in
    let s = c.loop-piece.following in
    let n = c.in_ok-following.following in
    record {
      acts =
          piece_more f d ps k _ s n (acts_of c.loop-piece.operations.items) (acts_of c.push_piece.new.operations.items) _ c.loop-piece-test.true c.in_ok-following.ensures.next c.in_ok-following.ensures.ok c.loop-piece.invariant.acts;
      stop = stop_more f d ps k _ s n _ c.loop-piece-test.true c.in_ok-following.ensures.next c.loop-piece.invariant.stop;
      near = near_more f d ps k _ s n _ c.loop-piece-test.true c.in_ok-following.ensures.next c.in_ok-following.ensures.near c.loop-piece.invariant.near;
    }

pub returns-in_err-following-clause-err : goal.returns-in_err-following-clause-err
returns-in_err-following-clause-err c =
    let p = err_from_is_err_and c.from_residual.result c.from_residual.ensures.1 in
    rw (p.1, p.2) (piece_refused c.args.font c.args.direction c.args.pieces.now c.loop-piece.piece-index _ c.loop-piece.following _ c.in_err-following.field-0.0 c.loop-piece-test.true c.in_err-following.ensures.err c.loop-piece.invariant.near)
