-- What a request of a batch makes of its source, and its answer.
use Rattle.std.specs.Prelude.{◌≡◌, ◌⊎◌, ℕ, List, ◌++◌, Option, Some, None, Result, Ok, Err, Vec, codes, map}
use Rattle.std.specs.Prelude.{string_bytes}
use Rattle.std.specs.Global.{Global}
use Rattle.std.specs.Str.{chars, encode_utf8_all}
use Rattle.plain_text.specs.Characters.{plain}
use Rattle.subset_args.specs.declared.jobs.command.Job.{Job}
use Rattle.subset_args.specs.declared.listing.lists.GlyphList.{GlyphList}
use Rattle.subset_task.specs.Chosen.{IsUnlisted, kept_by_each, IsPlanOf}
use Rattle.subset_task.specs.Files.{file_at, name_by}
use Rattle.subset_font.specs.Making.Outcome.{IsOutcome}
use Rattle.subset_font.specs.Making.Carried.{IsFailureOf}
use Rattle.subset_task.specs.Refusals.Failure.{status_of}
use Rattle.subset_task.specs.Refusals.Texts.{failure_text}
use Rattle.subset_font.specs.Report.{report_of}
use Rattle.subset_task.specs.Batch.Answers.{IsFailedWith}
use Rattle.subset_task.specs.declared.task.Plan.{Plan}
use Rattle.subset_font.specs.declared.making.outcome.Outcome.{Outcome}
use Rattle.subset_task.specs.declared.refusals.failure.Failure.{Failure}
use Rattle.subset_task.specs.declared.refusals.failure.Failure.TheVariants.{Error, NoMapping, MissingCharacters}
use Rattle.subset_task.specs.declared.refusals.failure.Failure.TheVariants.{BlankGlyphs, TextTooLong, NoInstance, NotPermitted}
use Rattle.subset_task.specs.declared.refusals.failure.Failure.TheVariants.{Usage, List as WrongList, Read, ReadList}
use Rattle.subset_task.specs.declared.refusals.failure.Failure.TheVariants.{Write, WritePdf, Output, LongAnswer}
use Rattle.subset_task.specs.declared.batch.answers.Answer.{Answer}
use Rattle.subset_task.specs.declared.batch.answers.Answer.TheVariants.{Done, Failed, NoMemory}

-- ---- a request is done on the bytes of its source, or isn't

-- the object is what a run of its own prints, of what its plan makes of these bytes
pub record IsDone (bytes : List ℕ) (job : Job) (object : List ℕ) : Type 0 where
  pub lists : List (Option GlyphList)
  pub plan : Plan
  pub is_plan : IsPlanOf job (kept_by_each job.glyphs.items lists) plan
  pub outcome : Outcome
  pub is_made : IsOutcome plan bytes outcome
  pub is_printed : object ≡ report_of plan.task.form outcome

-- its plan makes nothing of them
pub record IsRefusedJob (bytes : List ℕ) (job : Job) (failure : Failure) : Type 0 where
  pub lists : List (Option GlyphList)
  pub plan : Plan
  pub is_plan : IsPlanOf job (kept_by_each job.glyphs.items lists) plan
  pub why : IsFailureOf plan (Some bytes) failure

-- or it has no list of glyphs, or the answer would have more than 64 MiB, or a file can't be written
abbrev pub IsUndone : List ℕ → Job → Failure → Type 0
IsUndone bytes job failure =
    IsUnlisted job.glyphs.items failure
    ⊎ (IsRefusedJob bytes job failure ⊎ ((failure ≡ LongAnswer) ⊎ ((failure ≡ WritePdf) ⊎ (failure ≡ Write))))

-- ---- the answer

-- with the name of the file that failed, if one did, as a line has it
abbrev pub named_text : List ℕ → Option (List ℕ) → List ℕ
named_text text None = text
named_text text (Some name) = text ++ (codes " " ++ encode_utf8_all (map plain (chars name)))

-- the first line of the message of a run that failed so; of one whose file of glyphs is no list, what is wrong with it
abbrev pub message_of : Failure → Job → List ℕ
message_of (Error e) job = failure_text (Error e)
message_of NoMapping job = failure_text NoMapping
message_of NoInstance job = failure_text NoInstance
message_of MissingCharacters job = failure_text MissingCharacters
message_of BlankGlyphs job = failure_text BlankGlyphs
message_of TextTooLong job = failure_text TextTooLong
message_of (NotPermitted permission) job = failure_text (NotPermitted permission)
message_of Usage job = failure_text Usage
message_of (WrongList place) job = named_text (codes "no list of glyphs in") (file_at job.glyphs.items place)
message_of Read job = named_text (failure_text Read) (name_by Read job)
message_of (ReadList place) job = named_text (failure_text (ReadList place)) (name_by (ReadList place) job)
message_of Write job = named_text (failure_text Write) (name_by Write job)
message_of WritePdf job = named_text (failure_text WritePdf) (name_by WritePdf job)
message_of Output job = failure_text Output
message_of LongAnswer job = failure_text LongAnswer

pub record HasFailed (bytes : List ℕ) (job : Job) (status : ℕ) (text : List ℕ) : Type 0 where
  pub failure : Failure
  pub why : IsUndone bytes job failure
  pub status_is : status ≡ status_of failure
  pub text_is : text ≡ message_of failure job

-- the answer to a request on the bytes of its source
abbrev pub IsAnswer : List ℕ → Job → Answer → Type 0
IsAnswer bytes job (Done object) = IsDone bytes job object.items
IsAnswer bytes job (Failed status text) = HasFailed bytes job status (string_bytes text)
IsAnswer bytes job NoMemory = Unit {0}

-- or on why these can't be read
abbrev pub IsAnswerTo : Result (Vec ℕ Global) Failure → Job → Answer → Type 0
IsAnswerTo (Ok font) job answer = IsAnswer font.items job answer
IsAnswerTo (Err failure) job answer = IsFailedWith (status_of failure) (message_of failure job) answer
