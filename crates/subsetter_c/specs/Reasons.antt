-- Why a call is refused with a status, in words (bindings/c/subsetter.h).
use Rattle.std.specs.Prelude.{◌≡◌, ℕ, ℤ, ◌==◌, if◌then◌else◌, List, [], Option, Some, None, Result, Ok, String}
use Rattle.std.specs.Prelude.{string_bytes}
use Rattle.std.specs.Global.{Global}
use Rattle.std.specs.Option.{option_and_then}
use Rattle.subsetter_base.specs.declared.error.Error.{Error}
use Rattle.subsetter_base.specs.declared.error.Error.TheVariants.{UnknownKind, MalformedFont, Unimplemented}
use Rattle.subsetter_base.specs.declared.error.Error.TheVariants.{SubsetError, OverflowError, CFFError}
use Rattle.subsetter_base.specs.declared.tag.Tag.{Tag}
use Rattle.subsetter_sfnt.specs.Extras.{all_extras}
use Rattle.font_reasons.specs.Calls.{Question}
use Rattle.font_reasons.specs.Explained.{explained}
use Rattle.font_reasons.specs.Permission.{prohibition}
use Rattle.font_reasons.specs.Texts.{reason_text}
use Rattle.font_reasons.specs.declared.asked.Call.{Call}
use Rattle.font_reasons.specs.declared.asked.Call.TheVariants.{Subset, SubsetAt, Embed, EmbedAt, PdfFont, GlyphsOf}
use Rattle.font_reasons.specs.declared.asked.Call.TheVariants.{Advances}
use Rattle.font_reasons.specs.declared.reason.Reason.{Reason}
use Rattle.subsetter_c.specs.Answers.Status.{bitmaps_alone, no_cmap, not_permitted}
use Rattle.subsetter_c.specs.Options.{requested_bytes, requested_depth, requested_extras, requested_tokens}

-- the calls are numbered from 0 on
abbrev pub call_named : ℕ → Call
call_named n =
    if n == 0 then Subset else if n == 1 then SubsetAt else if n == 2 then Embed else if n == 3 then EmbedAt
    else if n == 4 then PdfFont else if n == 5 then GlyphsOf else Advances

-- the error whose status it is, for missing tables too; a font doesn't show why memory ran out
abbrev pub error_of : ℕ → Option Error
error_of n =
    if n == 1 then Some UnknownKind else if n == 2 then Some MalformedFont else if n == 3 then Some Unimplemented
    else if n == 4 then Some SubsetError else if n == 5 then Some OverflowError else if n == 6 then Some CFFError
    else if n == no_cmap then Some MalformedFont else if n == bitmaps_alone then Some UnknownKind else None

-- what a call was asked for, by the words of its options, and its error
abbrev pub question : Call → ℕ → List (Tag × ℤ) → List ℕ → List ℕ → Error → Question
question call index settings glyphs words e = record {
  call = call;
  error = e;
  index = index;
  glyphs = glyphs;
  coordinates = settings;
  extras = requested_extras words;
  tokens = requested_tokens words;
  depth = requested_depth words;
  bound = requested_bytes words;
  bytes = requested_bytes words;
}

unfoldable pub reason_of : Question → List ℕ → Option Reason
reason_of asked font = explained asked font

unfoldable pub reason_by : ℕ → (Error → Question) → ℕ → List ℕ → Option Reason
reason_by status asked index font =
    if status == not_permitted then prohibition (record { bytes = font; index = index; extras = all_extras })
    else option_and_then (λ e. reason_of (asked e) font) (error_of status)

-- no text where the font doesn't show it
abbrev pub text_of : Option Reason → List ℕ
text_of None = []
text_of (Some reason) = reason_text reason

abbrev pub explained_text : Call → ℕ → List ℕ → ℕ → List (Tag × ℤ) → List ℕ → List ℕ → List ℕ
explained_text call status font index settings glyphs words =
    text_of (reason_by status (question call index settings glyphs words) index font)

-- the bytes of a text that is returned
abbrev pub IsTextAnswered : Result (String Global) Error → List ℕ → Type 0
IsTextAnswered answer bytes = (text : String Global) × (answer ≡ Ok text) × (string_bytes text ≡ bytes)
