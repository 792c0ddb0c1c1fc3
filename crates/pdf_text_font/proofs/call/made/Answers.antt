use Rattle.std.proofs.Common.{◌∙◌}
use Rattle.std.proofs.lemmas.Result.{err_from_is_err_and}
use Rattle.pdf_font.specs.PdfFont.{font_of}
use Rattle.pdf_text_font.specs.Pairs.{uses_of}
use Rattle.pdf_text_font.specs.TextFont.{subset_options}
use Rattle.pdf_text_font.proofs.CallSteps.{length-cids, length-uses, no_subset, undrawn, with_parts}
use Rattle.pdf_text_font.proofs.call.made.Goals as goal

pub returns-in_err-subset-clause-err : goal.returns-in_err-subset-clause-err
returns-in_err-subset-clause-err c =
    let p = err_from_is_err_and c.from_residual.result c.from_residual.ensures.1 in
    rw (p.1, p.2) (no_subset (font_of c.args.«data».now c.args.index c.args.options.now) c.args.coordinates.now c.args.options.now c.args.count c.args.own.now c.args.pairs.now c.args.parts.now c.in_err-subset.field-0.0 c.requires.parts c.in_err-subset.ensures.err)

pub font_by_code-requires-clause-cids : goal.font_by_code-requires-clause-cids
font_by_code-requires-clause-cids c =
    length-cids (font_of c.args.«data».now c.args.index c.args.options.now) c.args.coordinates.now (subset_options c.args.options.now) (uses_of c.args.count c.args.pairs.now c.args.parts.now) c.in_ok-subset.subset c.in_ok-subset.ensures.ok ∙ length-uses c.args.count c.args.pairs.now c.args.parts.now

pub returns-in-Ok-clause-ok : goal.returns-in-Ok-clause-ok
returns-in-Ok-clause-ok c = record {
  subset = c.in_ok-subset.subset;
  made = with_parts (font_of c.args.«data».now c.args.index c.args.options.now) c.args.coordinates.now c.args.options.now c.args.count c.args.own.now c.args.pairs.now c.args.parts.now c.in_ok-subset.subset c.requires.parts c.in_ok-subset.ensures.ok;
  by = c.in-Ok.ensures.ok;
}

pub returns-in-Err-clause-err : goal.returns-in-Err-clause-err
returns-in-Err-clause-err c =
    let font = font_of c.args.«data».now c.args.index c.args.options.now in
    undrawn font c.args.coordinates.now c.args.options.now c.args.count c.args.own.now c.args.pairs.now c.in_ok-subset.subset
    (with_parts font c.args.coordinates.now c.args.options.now c.args.count c.args.own.now c.args.pairs.now c.args.parts.now c.in_ok-subset.subset c.requires.parts c.in_ok-subset.ensures.ok) c.in-Err.error c.in-Err.ensures.err
