use Rattle.std.proofs.lemmas.Result.{err_from_is_err_and}
use Rattle.subsetter_sfnt.specs.FontAt.{font_at}
use Rattle.subsetter_c.proofs.AnswersLaws.Bytes.{never_memory}
use Rattle.subsetter_c.proofs.documents.pdf_fonts.characters_for.Goals as goal

pub returns-in_err-check_opening_at-in-Err-clause-before_memory : goal.returns-in_err-check_opening_at-in-Err-clause-before_memory
returns-in_err-check_opening_at-in-Err-clause-before_memory c =
    let p = err_from_is_err_and c.from_residual.result c.from_residual.ensures.1 in
    rw (p.1, p.2) (never_memory (font_at c.args.font.now c.args.index c.args.extras) c.in_err-check_opening_at-in-Err.field-0.0 c.in_err-check_opening_at-in-Err.ensures.err)
