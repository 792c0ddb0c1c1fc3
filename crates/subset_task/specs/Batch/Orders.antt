-- What a line of a batch requests.
use Rattle.std.specs.Prelude.{◌≡◌, ◌⊎◌, ℕ, Bool, true, false, ◌||◌, if◌then◌else◌, List, Option, Some, None}
use Rattle.std.specs.Option.{option_map, option_and_then}
use Rattle.std.specs.Result.{result_ok}
use Rattle.subset_args.specs.Request.{Request as Wanted, Command, subset, command, is_stream, lists_in_stream}
use Rattle.subset_args.specs.declared.options.chosen.Switches.{Switches}
use Rattle.subset_batch.specs.Reading.{request_of}
use Rattle.subset_task.specs.Batch.Answers.{IsFailedBy}
use Rattle.subset_task.specs.declared.batch.answers.Answer.{Answer}
use Rattle.subset_task.specs.declared.batch.answers.Answer.TheVariants.{NoMemory}

abbrev pub is_given_stream : Option (List ℕ) → Bool
is_given_stream (Some name) = is_stream name
is_given_stream None = false

-- a request that reads or writes a standard stream, by its name
unfoldable pub uses_streams : Wanted → Bool
uses_streams r =
    (is_stream r.input || lists_in_stream r.glyphs)
    || (is_given_stream r.output || is_given_stream (option_map (λ pdf. pdf.file) r.pdf))

-- its answer has the members of `--json`
abbrev pub with_json : Switches → Switches
with_json switches = record switches { json = true }

abbrev pub with_answer : Wanted → Option Wanted
with_answer r = if uses_streams r then None else Some (record r { switches = with_json r.switches })

-- what is made, of what words request; none where that is no subset
abbrev pub subset_in : Command → Option Wanted
subset_in (subset r) = with_answer r
subset_in _ = None

-- what a run of its own would be requested by these words, with `--json` beside them
abbrev pub order_by : List (List ℕ) → Option Wanted
order_by words = option_and_then subset_in (result_ok (command words))

unfoldable pub order_of : List ℕ → Option Wanted
order_of line = option_and_then order_by (result_ok (request_of line))

-- nothing is requested, whose answer has the status of wrong arguments; or memory ran out
abbrev pub IsNoOrder : Option Wanted → Answer → Type 0
IsNoOrder order answer = (answer ≡ NoMemory) ⊎ ((order ≡ None) × IsFailedBy 2 answer)
