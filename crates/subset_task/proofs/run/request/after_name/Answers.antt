use Rattle.std.proofs.Common.{ap, ◌∙◌, Ok}
use Rattle.std.specs.declared.alloc.AllocError.{AllocError}
use Rattle.std.specs.Vec.Iter.{into_iter_items, into_iter_len}
use Rattle.std.proofs.lemmas.Iterator.{items_from_collect}
use Rattle.std.proofs.lemmas.Iterator.Adapters.{YieldsList-from_skip, YieldsList-from_vec}
use Rattle.subset_task.proofs.run.request.after_name.Goals as goal

pub returns-in-Ok-clause-ok : goal.returns-in-Ok-clause-ok
returns-in-Ok-clause-ok c = items_from_collect {E = AllocError} (Ok c.in-Ok.words) c.in-Ok.ensures.ran (YieldsList-from_skip 1 (YieldsList-from_vec (into_iter_items c.args.all) (cc) (ap into_iter_len c.skip.ensures.source ∙ c.args.all.rest.ok.0)) c.skip.ensures.count)
