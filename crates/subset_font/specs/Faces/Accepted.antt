-- Whether a subset of all glyphs of a face is made, and why not.
use Rattle.std.specs.Prelude.{◌≡◌, ◌⊎◌, ◌≤◌, ℕ, Bool, true, false, List, [], ◌∷◌, Option, Some, None, codes}
use Rattle.std.specs.Option.{option_map, unwrap_or}
use Rattle.subsetter_base.specs.declared.error.Error.{Error as Refusal}
use Rattle.subsetter_base.specs.declared.error.Error.TheVariants.{UnknownKind, MalformedFont, Unimplemented}
use Rattle.subsetter_base.specs.declared.error.Error.TheVariants.{SubsetError, OverflowError, CFFError, OutOfMemory}
use Rattle.subsetter_sfnt.specs.Extras.{all_extras}
use Rattle.subsetter_sfnt.specs.Read.{Font}
use Rattle.subset_args.specs.Listing.Lists.{counting}
use Rattle.subsetter_type2.specs.declared.limits.Limits.{Limits}
use Rattle.subset_font.specs.Making.Made.{IsMade, IsUnmade}
use Rattle.subset_task.specs.Making.Requested.{face_glyphs}
use Rattle.font_reasons.specs.declared.asked.Call.TheVariants.{Subset}
use Rattle.subset_font.specs.Refusals.SecondLook.{known_after}
use Rattle.subset_task.specs.Refusals.Texts.{failure_text}
use Rattle.subset_font.specs.Refusals.Texts.{hint_text}
use Rattle.subset_task.specs.declared.task.RequestedGlyphs.{RequestedGlyphs}
use Rattle.subset_task.specs.declared.task.RequestedGlyphs.TheVariants.{Every}
use Rattle.subset_task.specs.declared.task.Task.{Task}
use Rattle.subset_font.specs.declared.making.subset.Made.{Made}
use Rattle.subset_task.specs.declared.refusals.failure.Failure.{Failure}
use Rattle.subset_task.specs.declared.refusals.failure.Failure.TheVariants.{Error, NoMapping, MissingCharacters}
use Rattle.subset_task.specs.declared.refusals.failure.Failure.TheVariants.{BlankGlyphs, TextTooLong, NoInstance, NotPermitted}
use Rattle.subset_task.specs.declared.refusals.failure.Failure.TheVariants.{Usage, List as WrongList, Read, ReadList}
use Rattle.subset_task.specs.declared.refusals.failure.Failure.TheVariants.{Write, WritePdf, Output, LongAnswer}

-- its task: the font as it is given, with all extras, within limits, and without widths
abbrev pub IsPlain : ℕ → Limits → RequestedGlyphs → Task → Type 0
IsPlain index limits requested task =
    (task.requested.pieces.now ≡ requested ∷ []) × (task.requested.is_strict ≡ false)
    × ((task.index ≡ index)
    × ((task.options.limits ≡ limits)
    × ((task.options.extras ≡ all_extras) × ((task.widths ≡ false) × (task.at ≡ None)))))

-- a subset of all glyphs is made, within no more tokens than the default
pub record IsAccepted (font : Font) : Type 0 where
  pub limits : Limits
  pub few : limits.tokens ≤ 1000000
  pub task : Task
  pub is_plain : IsPlain font.index limits Every task
  pub made : Made
  pub is_made : IsMade task font.bytes made

-- or none is made
pub record IsRefusedWhole (font : Font) (failure : Failure) : Type 0 where
  pub limits : Limits
  pub task : Task
  pub is_plain : IsPlain font.index limits Every task
  pub is_unmade : IsUnmade task font.bytes failure

-- ---- what is known of the cause

pub record IsCause (font : Font) (failure : Failure) (reason : Option (List ℕ)) : Type 0 where
  pub limits : Limits
  pub few : limits.tokens ≤ 1000000
  pub task : Task
  pub is_plain : IsPlain font.index limits Every task
  pub is_text : reason
      ≡ option_map hint_text (known_after Subset failure task (counting 0 (unwrap_or (face_glyphs font) 0)) font.bytes)

-- ---- the answer

-- a want of memory says nothing of the font
abbrev pub is_memory_error : Refusal → Bool
is_memory_error UnknownKind = false
is_memory_error MalformedFont = false
is_memory_error Unimplemented = false
is_memory_error SubsetError = false
is_memory_error OverflowError = false
is_memory_error CFFError = false
is_memory_error OutOfMemory = true

abbrev pub is_of_memory : Failure → Bool
is_of_memory (Error e) = is_memory_error e
is_of_memory NoMapping = false
is_of_memory NoInstance = false
is_of_memory MissingCharacters = false
is_of_memory BlankGlyphs = false
is_of_memory TextTooLong = false
is_of_memory (NotPermitted permission) = false
is_of_memory Usage = false
is_of_memory (WrongList place) = false
is_of_memory Read = false
is_of_memory (ReadList place) = false
is_of_memory Write = false
is_of_memory WritePdf = false
is_of_memory Output = false
is_of_memory LongAnswer = false

-- the text of the failure, and what is known of its cause
pub record IsRefusedAs (font : Font) (refusal : List ℕ) (reason : Option (List ℕ)) : Type 0 where
  pub failure : Failure
  pub is_refused : IsRefusedWhole font failure
  pub is_fault : is_of_memory failure ≡ false
  pub is_text : refusal ≡ failure_text failure
  pub is_cause : IsCause font failure reason

-- what `subset` returns for all glyphs, by these texts, or that they take more than the limits
abbrev pub IsAnswer : Font → Option (List ℕ) → Option (List ℕ) → Type 0
IsAnswer font None reason = IsAccepted font × (reason ≡ None)
IsAnswer font (Some refusal) reason =
    IsRefusedAs font refusal reason ⊎ ((refusal ≡ codes "not all tried") × (reason ≡ None))
