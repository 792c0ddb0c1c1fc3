use Rattle.std.proofs.lemmas.Result.{err_from_is_err_and}
use Rattle.subsetter_sfnt.specs.FontAt.{font_at}
use Rattle.subset_font.proofs.MakingLaws.Making.{plain_clean, plain_refused}
use Rattle.subset_font.proofs.making.subset.make_plain.Goals as goal

pub returns-in_err-subset-clause-err : goal.returns-in_err-subset-clause-err
returns-in_err-subset-clause-err c =
    let p = err_from_is_err_and c.from_residual-in_err-subset.result c.from_residual-in_err-subset.ensures.1 in
    rw (p.1, p.2) (plain_refused c.args.task.now.options.limits.bytes c.args.task.now.options.limits.tokens c.args.task.now.options.limits.depth (font_at c.args.font.now c.args.index c.args.task.now.options.extras) c.args.glyphs.now c.in_ok-mapper.mapper c.in_err-subset.field-0.0 c.in_ok-mapper.ensures.ok c.in_err-subset.ensures.promise.err)

pub returns-clause-clean : goal.returns-clause-clean
returns-clause-clean c = plain_clean c.args.task.now.options.limits.bytes c.args.task.now.options.limits.tokens c.args.task.now.options.limits.depth (font_at c.args.font.now c.args.index c.args.task.now.options.extras) c.args.glyphs.now c.in_ok-mapper.mapper c.in_ok-subset.subset.items c.in_ok-mapper.ensures.ok (c.in_ok-subset.ensures.promise.exact.subset, c.in_ok-subset.ensures.promise.exact.clean)

pub returns-clause-within : goal.returns-clause-within
returns-clause-within c = c.in_ok-subset.ensures.promise.within
