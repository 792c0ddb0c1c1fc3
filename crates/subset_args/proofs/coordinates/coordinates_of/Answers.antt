use Rattle.std.proofs.lemmas.Result.{err_from_is_err_and}
use Rattle.subset_args.proofs.Said.{after_place, refused_place}
use Rattle.subset_args.proofs.coordinates.coordinates_of.Goals as goal

pub loop-part-preserved : goal.loop-part-preserved
loop-part-preserved c = after_place c.args.parts.now c.loop-part.part-index _ _ _ _ c.loop-part-test.true c.in_ok-push_coordinate.ensures.ok c.loop-part.invariant

pub returns-in_err-push_coordinate-clause-err : goal.returns-in_err-push_coordinate-clause-err
returns-in_err-push_coordinate-clause-err c =
    let p = err_from_is_err_and c.from_residual.result c.from_residual.ensures.1 in
    rw (p.1, p.2) (refused_place c.args.parts.now c.loop-part.part-index _ _ _ _ c.loop-part-test.true c.in_err-push_coordinate.ensures.err c.loop-part.invariant)
