use Rattle.subset_font.proofs.BatchLaws.{late}
use Rattle.subset_font.proofs.batch.making.carry_made.Goals as goal

pub returns-in-Err-clause-page_kept : goal.returns-in-Err-clause-page_kept
returns-in-Err-clause-page_kept g c = λ before. absurd (late c.in-Err.failure c.in-Err.ensures.err before)

pub returns-in-Err-clause-output_kept : goal.returns-in-Err-clause-output_kept
returns-in-Err-clause-output_kept g c = λ before. absurd (late c.in-Err.failure c.in-Err.ensures.err before)
