-- The requests of a batch, and how far each is.
use Rattle.std.specs.Prelude.{◌≡◌, ◌⊎◌, ◌≤◌, ◌<◌, ◌+◌, ◌-◌, ◌^◌, min, length, ℕ, Bool, true, false, ◌||◌, if◌then◌else◌}
use Rattle.std.specs.Prelude.{List, [], ◌∷◌, ◌++◌, Option, Some, None, String, is_some, slice_get, string_bytes}
use Rattle.std.specs.Global.{Global}
use Rattle.std.specs.HashMap.{HashMap, get_by_text}
use Rattle.std.specs.Str.{bytes_eq}
use Rattle.subset_args.specs.View.{job_view}
use Rattle.subset_args.specs.declared.jobs.command.Glyphs.{Glyphs}
use Rattle.subset_args.specs.declared.jobs.command.Glyphs.TheVariants.{Listed, Characters, InFile, ByText, Every}
use Rattle.subset_args.specs.declared.jobs.command.Job.{Job}
use Rattle.subset_task.specs.Files.{output_name, pdf_name}
use Rattle.subset_task.specs.Batch.Answers.{IsFailedBy}
use Rattle.subset_task.specs.Batch.Orders.{order_of, IsNoOrder}
use Rattle.subset_task.specs.declared.batch.answers.Answer.{Answer}
use Rattle.subset_task.specs.declared.batch.requests.Batch.{Batch}
use Rattle.subset_task.specs.declared.batch.requests.Request.{Request}
use Rattle.subset_task.specs.declared.batch.requests.State.{State}
use Rattle.subset_task.specs.declared.batch.requests.State.TheVariants.{Due, Answered, Written}

-- ---- files that a request writes

abbrev pub is_of_name : List ℕ → Option (List ℕ) → Bool
is_of_name name None = false
is_of_name name (Some other) = bytes_eq other name

-- whether a request writes a file of this name
abbrev pub writes : Job → List ℕ → Bool
writes job name = is_of_name name (output_name job) || is_of_name name (pdf_name job)

abbrev pub writes_if : Option Job → List ℕ → Bool
writes_if None name = false
writes_if (Some job) name = writes job name

-- whether one of them does
abbrev pub is_written : List Request → List ℕ → Bool
is_written [] name = false
is_written (r ∷ requests) name = writes_if r.job name || is_written requests name

abbrev pub is_written_if : List Request → Option (List ℕ) → Bool
is_written_if before None = false
is_written_if before (Some name) = is_written before name

-- whether a request writes a file that one before writes, too
abbrev pub is_named_before : List Request → Job → Bool
is_named_before before job = is_written_if before (output_name job) || is_written_if before (pdf_name job)

-- the keys of a map are the names of all files that requests write
abbrev pub AreNames : {S : Type 0} → List Request → HashMap (String Global) (Unit {0}) S → Type 0
AreNames requests names = (name : List ℕ) → is_some (get_by_text names name) ≡ is_written requests name

-- ---- lists of numbers

-- how many numbers a list has
abbrev pub list_numbers : Glyphs → ℕ
list_numbers (Listed glyphs) = length glyphs.items
list_numbers (Characters found) = length found.items
list_numbers (InFile kind name) = 0
list_numbers (ByText text) = 0
list_numbers Every = 0

-- and those of a request, as far as 64 bits count
abbrev pub numbers_by : List Glyphs → ℕ
numbers_by [] = 0
numbers_by (one ∷ glyphs) = min (list_numbers one + numbers_by glyphs) (2 ^ 64 - 1)

abbrev pub numbers_if : Option Job → ℕ
numbers_if None = 0
numbers_if (Some job) = numbers_by job.glyphs.items

-- and those of all
abbrev pub numbers_in : List Request → ℕ
numbers_in [] = 0
numbers_in (r ∷ requests) = numbers_if r.job + numbers_in requests

-- how many more a request may have after others
abbrev pub left_after : List Request → ℕ
left_after before = 2000000 - numbers_in before

-- ---- how far requests are before anything is made

-- a request is to be done, unless one before writes its file, too
abbrev pub IsFirst : Bool → State → Type 0
IsFirst named Due = named ≡ false
IsFirst named (Answered answer) = (named ≡ true) × IsFailedBy 2 answer
IsFirst named Written = ⊥

-- a line requests more numbers than the lists of all may have
pub record IsTooLong (before : List Request) (line : List ℕ) (answer : Answer) : Type 0 where
  pub job : Job
  pub is_requested : order_of line ≡ Some (job_view job)
  pub is_too_long : left_after before < numbers_by job.glyphs.items
  pub is_refused : IsFailedBy 2 answer

-- the request of a line after others
abbrev pub IsBegun : List Request → List ℕ → Option Job → State → Type 0
IsBegun before line (Some job) state =
    (order_of line ≡ Some (job_view job))
    × ((numbers_by job.glyphs.items ≤ left_after before) × IsFirst (is_named_before before job) state)
IsBegun before line None (Answered answer) = IsNoOrder (order_of line) answer ⊎ IsTooLong before line answer
IsBegun before line None Due = ⊥
IsBegun before line None Written = ⊥

-- the request of a line comes last, with the line's number
pub record AddsLine (line : ℕ × List ℕ) (old new : Batch) : Type 0 where
  pub job : Option Job
  pub state : State
  pub is_begun : IsBegun old.requests.items line.1 job state
  pub requests : new.requests.items ≡ old.requests.items ++ (record { line = line.0; job = job }) ∷ []
  pub states : new.states.items ≡ old.states.items ++ state ∷ []

-- a request for each line, with its number
pub data AreBegun : List (ℕ × List ℕ) → List Request → List State → Type 0 where
  none : AreBegun [] [] []
  one_more : (lines : List (ℕ × List ℕ)) (requests : List Request)
      (states : List State) (line : ℕ × List ℕ) (job : Option Job) (state : State)
      → AreBegun lines requests states → IsBegun requests line.1 job state
      → AreBegun (lines ++ line ∷ []) (requests ++ (record { line = line.0; job = job }) ∷ []) (states ++ state ∷ [])

-- ---- how far requests are later

abbrev pub is_due : State → Bool
is_due Due = true
is_due (Answered answer) = false
is_due Written = false

-- what a request requests that is still to be done
abbrev pub due_at : Option Request → Option State → Option Job
due_at (Some request) (Some state) = if is_due state then request.job else None
due_at (Some request) None = None
due_at None state = None

-- if it is of this source
abbrev pub of_source : List ℕ → Option Job → Option Job
of_source input (Some job) = if bytes_eq (string_bytes job.input) input then Some job else None
of_source input None = None

abbrev pub due : List Request → List State → ℕ → Option Job
due requests states index = due_at (slice_get requests index) (slice_get states index)

-- an answer that isn't written
abbrev pub answer_in : Option State → Option Answer
answer_in (Some Due) = None
answer_in (Some (Answered answer)) = Some answer
answer_in (Some Written) = None
answer_in None = None
