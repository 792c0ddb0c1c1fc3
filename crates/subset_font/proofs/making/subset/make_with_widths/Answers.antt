use Rattle.std.proofs.lemmas.Result.{err_from_is_err_and}
use Rattle.subsetter_sfnt.specs.FontAt.{font_at}
use Rattle.subset_font.proofs.MakingLaws.Making.{unnumbered}
use Rattle.subset_font.proofs.making.subset.make_with_widths.Goals as goal

pub returns-in_err-mapper-clause-err : goal.returns-in_err-mapper-clause-err
returns-in_err-mapper-clause-err c =
    let p = err_from_is_err_and c.from_residual.result c.from_residual.ensures.1 in
    rw (p.1, p.2) (unnumbered c.args.task.now.options.limits.bytes c.args.task.now.options.limits.tokens c.args.task.now.options.limits.depth (font_at c.args.font.now c.args.index c.args.task.now.options.extras) c.args.glyphs.now c.in_err-mapper.field-0.0 c.in_err-mapper.ensures.err)

pub returns-in_err-embedded-clause-err : goal.returns-in_err-embedded-clause-err
returns-in_err-embedded-clause-err c =
    let p = err_from_is_err_and c.from_residual-in_err-embedded.result c.from_residual-in_err-embedded.ensures.1 in
    rw (p.1, p.2) c.in_err-embedded.ensures.promise.err

pub returns-clause-clean : goal.returns-clause-clean
returns-clause-clean c = (c.in_ok-embedded.ensures.promise.exact.embedded.subset, c.in_ok-embedded.ensures.promise.exact.clean)

pub returns-clause-within : goal.returns-clause-within
returns-clause-within c = c.in_ok-embedded.ensures.promise.within
