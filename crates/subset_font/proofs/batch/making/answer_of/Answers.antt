use Rattle.subset_font.proofs.BatchLaws.{failed_answer_to, failed_within}
use Rattle.subset_font.proofs.batch.making.answer_of.Goals as goal

pub returns-in-Err-perform : goal.returns-in-Err-perform
returns-in-Err-perform g c = record {
  answer = failed_answer_to c.args.source.now c.in-Ok.font c.deref.result.now c.args.job.now c.in-Err-perform.failure c.answer_failed-in-Err-perform.result c.in-Ok.is c.deref.ensures.value c.in-Err-perform.ensures.err c.answer_failed-in-Err-perform.ensures;
  within = failed_within _ _ c.answer_failed-in-Err-perform.result c.answer_failed-in-Err-perform.ensures;
}
