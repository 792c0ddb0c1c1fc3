-- The answers to the requests of a batch, and their lines.
use Rattle.std.specs.Prelude.{◌≡◌, ◌≤◌, ◌^◌, length, ℕ, Bool, true, false, List, codes, string_bytes}
use Rattle.subset_batch.specs.Answers.{done_line, failed_line}
use Rattle.subset_task.specs.declared.batch.answers.Answer.{Answer}
use Rattle.subset_task.specs.declared.batch.answers.Answer.TheVariants.{Done, Failed, NoMemory}

-- the line of answer to the request of a line
abbrev pub answer_line : ℕ → Answer → List ℕ
answer_line line (Done object) = done_line line object.items
answer_line line (Failed status text) = failed_line line status (string_bytes text)
answer_line line NoMemory = failed_line line 1 (codes "out of memory")

abbrev pub has_failed : Answer → Bool
has_failed (Done object) = false
has_failed (Failed status text) = true
has_failed NoMemory = true

-- it failed with this status, unless memory ran out
abbrev pub IsFailedBy : ℕ → Answer → Type 0
IsFailedBy status (Done object) = ⊥
IsFailedBy status (Failed given text) = given ≡ status
IsFailedBy status NoMemory = Unit {0}

-- and with this text
abbrev pub IsFailedWith : ℕ → List ℕ → Answer → Type 0
IsFailedWith status why (Done object) = ⊥
IsFailedWith status why (Failed given text) = (given ≡ status) × (string_bytes text ≡ why)
IsFailedWith status why NoMemory = Unit {0}

-- the object of an answer has 64 MiB at most
abbrev pub IsWithinMost : Answer → Type 0
IsWithinMost (Done object) = length object.items ≤ 2 ^ 26
IsWithinMost (Failed status text) = Unit {0}
IsWithinMost NoMemory = Unit {0}
