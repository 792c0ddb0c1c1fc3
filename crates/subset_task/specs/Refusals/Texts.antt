-- The texts of failures.
use Rattle.std.specs.Prelude.{ℕ, List, codes}
use Rattle.subsetter_base.specs.Texts.{error_text}
use Rattle.subset_task.specs.declared.refusals.failure.Failure.{Failure}
use Rattle.subset_task.specs.declared.refusals.failure.Failure.TheVariants.{Error, NoMapping, MissingCharacters}
use Rattle.subset_task.specs.declared.refusals.failure.Failure.TheVariants.{BlankGlyphs, TextTooLong, NoInstance, NotPermitted}
use Rattle.subset_task.specs.declared.refusals.failure.Failure.TheVariants.{Usage, List as WrongList, Read, ReadList}
use Rattle.subset_task.specs.declared.refusals.failure.Failure.TheVariants.{Write, WritePdf, Output, LongAnswer}

abbrev pub failure_text : Failure → List ℕ
failure_text (Error e) = error_text e
failure_text NoMapping = codes "no Unicode cmap in font"
failure_text NoInstance = codes "no such instance in font"
failure_text MissingCharacters = codes "characters without a glyph"
failure_text BlankGlyphs = codes "glyphs without an outline"
failure_text TextTooLong = codes "text too long"
failure_text (NotPermitted permission) = codes "embedding not permitted"
failure_text Usage = codes "usage: subset_font IN OUT INDEX GID[,GID..]"
failure_text (WrongList place) = codes "usage: subset_font IN OUT INDEX GID[,GID..]"
failure_text Read = codes "cannot read"
failure_text (ReadList place) = codes "cannot read"
failure_text Write = codes "cannot write"
failure_text WritePdf = codes "cannot write"
failure_text Output = codes "cannot write standard output"
failure_text LongAnswer = codes "the answer has more than 64 MiB"
