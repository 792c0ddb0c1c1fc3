use Rattle.std.proofs.Common.{ℕ, Vec, Global, ap}
use Rattle.std.specs.Option.{option_copied}
use Rattle.std.proofs.lemmas.Result.{err_from_is_err_and}
use Rattle.subset_font.proofs.MakingLaws.Making.{given_of, placed_of, untaken_by, unnumbered_at}
use Rattle.subset_font.proofs.making.subset.static_of.Goals as goal

pub returns-in_default-clause-ok : goal.returns-in_default-clause-ok
returns-in_default-clause-ok c = given_of c.args.task.now c.args.font.now c.args.glyphs.now c.in_default.not-Some

pub returns-in_err-mapper-clause-err : goal.returns-in_err-mapper-clause-err
returns-in_err-mapper-clause-err c =
    let p = err_from_is_err_and c.from_residual.result c.from_residual.ensures.1 in
    rw (p.1, p.2) (unnumbered_at c.args.task.now c.args.font.now c.args.glyphs.now c.in_err-mapper.field-0.0 c.in_err-mapper.ensures.err)

pub returns-clause-ok : goal.returns-clause-ok
returns-clause-ok c = placed_of c.args.task.now c.args.font.now {X = Vec ℕ Global} (λ v. v.items) c.in-Some.at.now c.in_ok-mapper.mapper c.args.glyphs.now (ap option_copied c.in-Some.is) c.in_ok-mapper.ensures.ok c.static_font.result c.static_font.ensures.ok

pub returns-clause-err : goal.returns-clause-err
returns-clause-err c = untaken_by c.args.task.now c.args.font.now c.in-Some.at.now c.in_ok-mapper.mapper c.args.glyphs.now (ap option_copied c.in-Some.is) c.in_ok-mapper.ensures.ok c.static_font.result c.static_font.ensures.err
