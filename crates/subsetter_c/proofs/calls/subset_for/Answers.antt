use Rattle.std.proofs.lemmas.Result.{err_from_is_err_and}
use Rattle.subsetter_sfnt.specs.Read.{Font}
use Rattle.subsetter_c.proofs.AnswersLaws.Bytes.{mapper_refused, subset_refused, subset_sound}
use Rattle.subsetter_c.proofs.calls.subset_for.Goals as goal

pub returns-in_err-mapper-clause-err : goal.returns-in_err-mapper-clause-err
returns-in_err-mapper-clause-err c =
    let p = err_from_is_err_and c.from_residual.result c.from_residual.ensures.1 in
    let font : Font = record { bytes = c.args.font.now; index = c.args.index; extras = c.args.options.now.extras } in
    rw (p.1, p.2) (mapper_refused c.args.options.now.limits.bytes c.args.options.now.limits.tokens c.args.options.now.limits.depth font c.args.glyphs.now c.in_err-mapper.field-0.0 c.in_err-mapper.ensures.err c.in_err-mapper.ensures.before_memory)

pub returns-clause-ok : goal.returns-clause-ok
returns-clause-ok c =
    let font : Font = record { bytes = c.args.font.now; index = c.args.index; extras = c.args.options.now.extras } in
    subset_sound c.args.options.now.limits.bytes c.args.options.now.limits.tokens c.args.options.now.limits.depth font c.args.glyphs.now c.in_ok-mapper.mapper c.subset_with_options.result c.in_ok-mapper.ensures.ok c.subset_with_options.ensures.promise

pub returns-clause-err : goal.returns-clause-err
returns-clause-err c =
    let font : Font = record { bytes = c.args.font.now; index = c.args.index; extras = c.args.options.now.extras } in
    subset_refused c.args.options.now.limits.bytes c.args.options.now.limits.tokens c.args.options.now.limits.depth font c.args.glyphs.now c.in_ok-mapper.mapper c.subset_with_options.result c.in_ok-mapper.ensures.ok c.subset_with_options.ensures.promise
