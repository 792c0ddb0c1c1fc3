use Rattle.std.proofs.Common.{rules}
use Rattle.std.proofs.lemmas.Option.{slice_get-get_or}
use Rattle.subset_task.proofs.Requesting.{unlisted_get}
use Rattle.subset_task.proofs.run.request.lists_of.Goals as goal

pub returns-in-Err-clause-err : goal.returns-in-Err-clause-err
returns-in-Err-clause-err g c = unlisted_get c.args.glyphs.now c.loop-place.place c.index-glyphs-place.result c.in-Err.failure (search (rules, slice_get-get_or)) c.in-Err.ensures.err
