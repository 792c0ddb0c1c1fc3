use Rattle.subset_task.proofs.BatchLaws.{ordered, unordered}
use Rattle.subset_task.proofs.batch.orders.order_of.Goals as goal

pub returns-in-Ok-clause-ok : goal.returns-in-Ok-clause-ok
returns-in-Ok-clause-ok c = ordered c.args.line.now c.in-Ok.words.items c.deref.result.now c.order_by.result c.in-Ok.ensures c.deref.ensures.value c.order_by.ensures.ok

pub returns-in-Ok-clause-err : goal.returns-in-Ok-clause-err
returns-in-Ok-clause-err c = unordered c.args.line.now c.in-Ok.words.items c.deref.result.now c.order_by.result c.in-Ok.ensures c.deref.ensures.value c.order_by.ensures.err
