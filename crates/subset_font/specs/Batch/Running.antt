-- How a batch ends.
use Rattle.std.specs.Prelude.{ℕ, Bool, if◌then◌else◌, Result, Ok, Err}
use Rattle.subset_task.specs.Refusals.Failure.{status_of}
use Rattle.subset_task.specs.declared.refusals.failure.Failure.{Failure}

-- 0 where all is done, 1 where a request failed; else the status of what its answers failed by
abbrev pub status_of_batch : Result (Unit {0}) Failure → Bool → ℕ
status_of_batch (Ok done) has_failed = if has_failed then 1 else 0
status_of_batch (Err failure) has_failed = status_of failure
