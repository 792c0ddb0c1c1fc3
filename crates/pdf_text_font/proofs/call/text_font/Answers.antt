use Rattle.std.proofs.Common.{◌∙◌}
use Rattle.pdf_font.specs.PdfFont.{font_of}
use Rattle.pdf_text_font.specs.Pairs.{by_code}
use Rattle.pdf_text_font.proofs.CallSteps.{text_made, text_refused}
use Rattle.pdf_text_font.proofs.call.text_font.Goals as goal

pub returns-in-Ok-clause-ok : goal.returns-in-Ok-clause-ok
returns-in-Ok-clause-ok c =
    text_made (font_of c.args.«data».now c.args.index c.args.options.now) c.args.coordinates.now c.args.options.now c.args.count c.args.own.now c.deref.result.now (by_code c.args.pairs.now) (c.deref.ensures.value ∙ c.in-Ok.ensures.ok) c.with_own.result c.with_own.ensures.ok

pub returns-in-Ok-clause-err : goal.returns-in-Ok-clause-err
returns-in-Ok-clause-err c =
    text_refused (font_of c.args.«data».now c.args.index c.args.options.now) c.args.coordinates.now c.args.options.now c.args.count c.args.own.now c.deref.result.now (by_code c.args.pairs.now) (c.deref.ensures.value ∙ c.in-Ok.ensures.ok) c.with_own.result c.with_own.ensures.err
