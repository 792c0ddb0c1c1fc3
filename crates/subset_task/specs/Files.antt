-- The files and the standard streams of a run: which one failed, and why the system refused it.
use Rattle.std.specs.Prelude.{◌≡◌, ℕ, Result, Ok, Err, Option, Some, None, List, slice_get, string_bytes}
use Rattle.std.specs.Option.{option_map, option_and_then}
use Rattle.std.specs.IoError.{error_kind}
use Rattle.std.specs.declared.io.Error.{Error as IoError}
use Rattle.std.specs.declared.io.ErrorKind.TheVariants.{OutOfMemory}
use Rattle.subset_args.specs.declared.jobs.command.Glyphs.{Glyphs}
use Rattle.subset_args.specs.declared.jobs.command.Glyphs.TheVariants.{Listed, Characters, InFile, ByText, Every}
use Rattle.subset_args.specs.declared.jobs.command.Job.{Job}
use Rattle.subset_task.specs.declared.refusals.failure.Failure.{Failure}
use Rattle.subset_task.specs.declared.refusals.failure.Failure.TheVariants.{Error, NoMapping, MissingCharacters}
use Rattle.subset_task.specs.declared.refusals.failure.Failure.TheVariants.{BlankGlyphs, TextTooLong, NoInstance, NotPermitted}
use Rattle.subset_task.specs.declared.refusals.failure.Failure.TheVariants.{Usage, List as WrongList, Read, ReadList}
use Rattle.subset_task.specs.declared.refusals.failure.Failure.TheVariants.{Write, WritePdf, Output, LongAnswer}

-- the name of the PDF's file
abbrev pub pdf_name : Job → Option (List ℕ)
pdf_name job = option_map (λ pdf. string_bytes pdf.file) job.pdf

-- the name of the new font's file
abbrev pub output_name : Job → Option (List ℕ)
output_name job = option_map (λ name. string_bytes name) job.output

-- the name of the file that lists the glyphs
abbrev pub list_name : Glyphs → Option (List ℕ)
list_name (Listed numbers) = None
list_name (Characters characters) = None
list_name (InFile kind name) = Some (string_bytes name)
list_name (ByText text) = None
list_name Every = None

-- that of the request of a place
abbrev pub file_at : List Glyphs → ℕ → Option (List ℕ)
file_at glyphs place = option_and_then list_name (slice_get glyphs place)

-- the name of the file that failed
abbrev pub name_by : Failure → Job → Option (List ℕ)
name_by (Error e) job = None
name_by NoMapping job = None
name_by NoInstance job = None
name_by MissingCharacters job = None
name_by BlankGlyphs job = None
name_by TextTooLong job = None
name_by (NotPermitted permission) job = None
name_by Usage job = None
name_by (WrongList place) job = None
name_by Read job = Some (string_bytes job.input)
name_by (ReadList place) job = file_at job.glyphs.items place
name_by Write job = output_name job
name_by WritePdf job = pdf_name job
name_by Output job = None
name_by LongAnswer job = None

abbrev pub failed_name : Result (Unit {0}) Failure → Job → Option (List ℕ)
failed_name (Ok done) job = None
failed_name (Err failure) job = name_by failure job

-- why reading failed: what the reader kept, else memory ran out
abbrev pub IsUnread : Option IoError → Option IoError → Type 0
IsUnread (Some error) reason = reason ≡ Some error
IsUnread None reason = option_map (λ error. error_kind error) reason ≡ Some OutOfMemory

-- what the system reported last of each file and stream of a run
pub record Kept : Type 0 where
  pub font : Option IoError
  pub page : Option IoError
  pub output : Option IoError
  pub lines : Option IoError

-- why the system refused what failed
abbrev pub IsReasonBy : Failure → Kept → Option IoError → Type 0
IsReasonBy (Error e) kept reason = reason ≡ None
IsReasonBy NoMapping kept reason = reason ≡ None
IsReasonBy NoInstance kept reason = reason ≡ None
IsReasonBy MissingCharacters kept reason = reason ≡ None
IsReasonBy BlankGlyphs kept reason = reason ≡ None
IsReasonBy TextTooLong kept reason = reason ≡ None
IsReasonBy (NotPermitted permission) kept reason = reason ≡ None
IsReasonBy Usage kept reason = reason ≡ None
IsReasonBy (WrongList place) kept reason = reason ≡ None
IsReasonBy Read kept reason = IsUnread kept.font reason
IsReasonBy (ReadList place) kept reason = reason ≡ None
IsReasonBy Write kept reason = reason ≡ kept.output
IsReasonBy WritePdf kept reason = reason ≡ kept.page
IsReasonBy Output kept reason = reason ≡ kept.lines
IsReasonBy LongAnswer kept reason = reason ≡ None

abbrev pub IsReason : Result (Unit {0}) Failure → Kept → Option IoError → Type 0
IsReason (Ok done) kept reason = reason ≡ None
IsReason (Err failure) kept reason = IsReasonBy failure kept reason

-- a call of the system keeps why it failed, and else what was kept before
abbrev pub IsNoted : {T : Type 0} → Result T IoError → Option IoError → Option IoError → Type 0
IsNoted (Ok done) old new = new ≡ old
IsNoted (Err error) old new = new ≡ Some error
