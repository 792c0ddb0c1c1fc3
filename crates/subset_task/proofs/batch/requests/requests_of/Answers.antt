use Rattle.subset_batch.specs.Lines.{request_lines}
use Rattle.subset_task.proofs.BatchLaws.{so_far_step}
use Rattle.subset_task.proofs.batch.requests.requests_of.Goals as goal

pub loop-rest-preserved : goal.loop-rest-preserved
loop-rest-preserved c = (so_far_step c.loop-rest.rest.now _ (request_lines c.args.file.now) c.loop-rest.batch c.push_order.new.batch c.in-len1-up.len_at_least c.loop-rest.invariant.0 c.in_ok-push_order.ensures.line, (c.in_ok-push_order.ensures.names, c.in_ok-push_order.ensures.left))
