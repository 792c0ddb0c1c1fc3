-- What a task that is carried out has written.
use Rattle.std.specs.Prelude.{◌≡◌, ◌⊎◌, ℕ, List, Option, IfSome}
use Rattle.std.specs.Io.KnownBytes.{Appends}
use Rattle.subset_font.specs.Making.Outcome.{IsOutcome, IsNoOutcome}
use Rattle.subset_font.specs.Making.Sheet.{page_of}
use Rattle.subset_font.specs.Report.{report_of}
use Rattle.subset_task.specs.declared.task.Plan.{Plan}
use Rattle.subset_font.specs.declared.making.outcome.Outcome.{Outcome}
use Rattle.subset_task.specs.declared.refusals.failure.Failure.{Failure}
use Rattle.subset_task.specs.declared.refusals.failure.Failure.TheVariants.{Error, NoMapping, MissingCharacters}
use Rattle.subset_task.specs.declared.refusals.failure.Failure.TheVariants.{BlankGlyphs, TextTooLong, NoInstance, NotPermitted}
use Rattle.subset_task.specs.declared.refusals.failure.Failure.TheVariants.{Usage, List as WrongList, Read, ReadList}
use Rattle.subset_task.specs.declared.refusals.failure.Failure.TheVariants.{Write, WritePdf, Output, LongAnswer}

-- a font was written: what the plan makes of the bytes that were read, where these are known
pub record WritesFont (plan : Plan) (source old new : Option (List ℕ)) : Type 0 where
  pub outcome : Outcome
  pub is_made : IfSome source (λ bytes. IsOutcome plan bytes outcome)
  pub is_written : Appends old new outcome.made.font.items

-- with the PDF, if one is requested, and its new numbers were printed
pub record WritesAll (plan : Plan) (source page_old page_new old new told_old told_new : Option (List ℕ)) : Type 0 where
  pub outcome : Outcome
  pub is_made : IfSome source (λ bytes. IsOutcome plan bytes outcome)
  pub is_shown : Appends page_old page_new (page_of outcome.sheet)
  pub is_written : Appends old new outcome.made.font.items
  pub is_reported : Appends told_old told_new (report_of plan.task.form outcome)

-- a failure that says that nothing is made of what was read
abbrev pub IsOfMaking : Failure → Type 0
IsOfMaking (Error e) = Unit {0}
IsOfMaking NoMapping = Unit {0}
IsOfMaking NoInstance = Unit {0}
IsOfMaking MissingCharacters = Unit {0}
IsOfMaking BlankGlyphs = Unit {0}
IsOfMaking TextTooLong = Unit {0}
IsOfMaking (NotPermitted permission) = Unit {0}
IsOfMaking Usage = ⊥
IsOfMaking (WrongList place) = ⊥
IsOfMaking Read = ⊥
IsOfMaking (ReadList place) = ⊥
IsOfMaking Write = ⊥
IsOfMaking WritePdf = ⊥
IsOfMaking Output = ⊥
IsOfMaking LongAnswer = ⊥

-- why nothing is made: the reader failed, or what was read is refused
abbrev pub IsFailureOf : Plan → Option (List ℕ) → Failure → Type 0
IsFailureOf plan source failure =
    (failure ≡ Read) ⊎ (IsOfMaking failure × IfSome source (λ bytes. IsNoOutcome plan bytes failure))

-- the failure comes before the first byte is written
abbrev pub IsBeforeWriting : Failure → Type 0
IsBeforeWriting (Error e) = Unit {0}
IsBeforeWriting NoMapping = Unit {0}
IsBeforeWriting NoInstance = Unit {0}
IsBeforeWriting MissingCharacters = Unit {0}
IsBeforeWriting BlankGlyphs = Unit {0}
IsBeforeWriting TextTooLong = Unit {0}
IsBeforeWriting (NotPermitted permission) = Unit {0}
IsBeforeWriting Usage = Unit {0}
IsBeforeWriting (WrongList place) = Unit {0}
IsBeforeWriting Read = Unit {0}
IsBeforeWriting (ReadList place) = Unit {0}
IsBeforeWriting Write = ⊥
IsBeforeWriting WritePdf = ⊥
IsBeforeWriting Output = ⊥
IsBeforeWriting LongAnswer = Unit {0}
