use Rattle.std.proofs.Common.{length}
use Rattle.subset_task.proofs.batch.requests.+numbers_by.Given as goal

abbrev pub decreases-numbers_by : goal.decreases-numbers_by
decreases-numbers_by l = length l.glyphs.now
