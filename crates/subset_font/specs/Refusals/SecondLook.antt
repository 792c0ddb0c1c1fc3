-- What a second look at the glyphs that are picked shows of a font that is refused.
use Rattle.std.specs.Prelude.{ℕ, ℤ, Bool, if◌then◌else◌, List, [], Option, None, unwrap_or, codes}
use Rattle.std.specs.Option.{option_copied, option_map}
use Rattle.subsetter_base.specs.declared.error.Error.{Error as Refusal}
use Rattle.subsetter_base.specs.declared.error.Error.TheVariants.{MalformedFont}
use Rattle.subsetter_base.specs.declared.tag.Tag.{Tag}
use Rattle.font_reasons.specs.Calls.{Question}
use Rattle.font_reasons.specs.Explained.{explained}
use Rattle.font_reasons.specs.File.{or_else}
use Rattle.font_reasons.specs.Parts.{no_table}
use Rattle.font_reasons.specs.declared.asked.Call.{Call}
use Rattle.font_reasons.specs.declared.asked.Call.TheVariants.{Subset, SubsetAt, Embed, EmbedAt, PdfFont}
use Rattle.font_reasons.specs.declared.reason.Reason.{Reason}
use Rattle.subsetter_sfnt.specs.Read.{Font as Face}
use Rattle.subset_font.specs.Making.Made.{face_of}
use Rattle.subset_font.specs.Refusals.Hint.{hint_of}
use Rattle.subset_task.specs.declared.refusals.failure.Failure.{Failure}
use Rattle.subset_task.specs.declared.refusals.failure.Failure.TheVariants.{Error}
use Rattle.subset_font.specs.declared.refusals.hint.text.Hint.{Hint}
use Rattle.subset_font.specs.declared.refusals.hint.text.Hint.TheVariants.{Font}
use Rattle.subset_task.specs.declared.task.Task.{Task}

-- which call a task comes to: with a PDF, at coordinates, with widths
abbrev pub call_of : Bool → Bool → Bool → Call
call_of pdf at widths =
    if pdf then PdfFont else if at then (if widths then EmbedAt else SubsetAt) else if widths then Embed else Subset

-- what it asks for, of these glyphs at these coordinates; that the new font is too long is seen apart
abbrev pub question : Call → Refusal → Task → List (Tag × ℤ) → List ℕ → Question
question call e task settings glyphs = record {
  call = call;
  error = e;
  index = task.index;
  glyphs = glyphs;
  coordinates = settings;
  extras = task.options.extras;
  tokens = task.options.limits.tokens;
  depth = task.options.limits.depth;
  bound = task.options.limits.bytes;
  bytes = None;
}

-- where no glyphs are there, a face may lack the table that counts them
abbrev pub uncounted : Refusal → Face → List ℕ → Option Reason
uncounted MalformedFont font [] = no_table font (record { 0 = codes "maxp" })
uncounted e font glyphs = None

unfoldable pub seen_again : Call → Refusal → Task → List (Tag × ℤ) → List ℕ → List ℕ → Option Hint
seen_again call e task settings glyphs bytes =
    option_map Font
    (or_else (explained (question call e task settings glyphs) bytes) (uncounted e (face_of task bytes) glyphs))

-- after a failure
abbrev pub seen_after : Call → Failure → Task → List ℕ → List ℕ → Option Hint
seen_after call (Error e) task glyphs bytes = seen_again call e task (unwrap_or (option_copied task.at) []) glyphs bytes
seen_after call other task glyphs bytes = None

-- what is known at once, or else this
abbrev pub known_after : Call → Failure → Task → List ℕ → List ℕ → Option Hint
known_after call failure task glyphs bytes =
    or_else (hint_of failure task bytes) (seen_after call failure task glyphs bytes)
