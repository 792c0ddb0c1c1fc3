-- How a run of the program ends that has no subset.
use Rattle.std.specs.Prelude.{ℕ, Result, Ok, Err}
use Rattle.subset_task.specs.declared.refusals.failure.Failure.{Failure}
use Rattle.subset_task.specs.declared.refusals.failure.Failure.TheVariants.{Error, NoMapping, MissingCharacters}
use Rattle.subset_task.specs.declared.refusals.failure.Failure.TheVariants.{BlankGlyphs, TextTooLong, NoInstance, NotPermitted}
use Rattle.subset_task.specs.declared.refusals.failure.Failure.TheVariants.{Usage, List, Read, ReadList, Write}
use Rattle.subset_task.specs.declared.refusals.failure.Failure.TheVariants.{WritePdf, Output, LongAnswer}

-- 1 for a refusal, 2 for wrong arguments, 3 for a file that failed
abbrev pub status_of : Failure → ℕ
status_of (Error e) = 1
status_of NoMapping = 1
status_of NoInstance = 1
status_of MissingCharacters = 1
status_of BlankGlyphs = 1
status_of TextTooLong = 1
status_of (NotPermitted permission) = 1
status_of Usage = 2
status_of (List place) = 2
status_of Read = 3
status_of (ReadList place) = 3
status_of Write = 3
status_of WritePdf = 3
status_of Output = 3
status_of LongAnswer = 1

-- 0 where all is done, else the failure's status
abbrev pub status_of_end : Result (Unit {0}) Failure → ℕ
status_of_end (Ok done) = 0
status_of_end (Err failure) = status_of failure
