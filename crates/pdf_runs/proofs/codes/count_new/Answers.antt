use Rattle.std.proofs.Common.{drop, refl, inr, arith}
use Rattle.pdf_runs.proofs.NewPairs.{all_counted, too_many}
use Rattle.pdf_runs.proofs.codes.count_new.Goals as goal

pub returns-then-is_overfull-clause-err : goal.returns-then-is_overfull-clause-err
returns-then-is_overfull-clause-err c =
    inr (refl, too_many c.args.pieces.now (drop c.loop-piece.piece-index c.args.pieces.now) c.args.pairs.now c.loop-piece.new c.loop-piece.invariant (c.is_overfull.ensures.0 c.if-is_overfull.true))

pub returns-then-is_overfull-2-clause-err : goal.returns-then-is_overfull-2-clause-err
returns-then-is_overfull-2-clause-err c =
    inr (refl, too_many c.args.pieces.now (drop c.loop-piece.piece-index c.args.pieces.now) c.args.pairs.now c.loop-piece.new c.loop-piece.invariant (c.is_overfull-2.ensures.0 c.if-is_overfull-2.true))

pub returns-clause-ok : goal.returns-clause-ok
returns-clause-ok c =
    all_counted c.args.pieces.now c.loop-piece.piece-index c.args.pairs.now c.loop-piece.new c.is_overfull-2.result (omega arith) c.loop-piece.invariant c.is_overfull-2.ensures c.if-is_overfull-2.false
