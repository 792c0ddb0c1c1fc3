use Rattle.std.proofs.Common.{◌≡◌, ◌⊎◌, inr, subst}
use Rattle.std.proofs.lemmas.Result.{err_from_is_err_and}
use Rattle.subsetter_base.specs.declared.error.Error.{Error}
use Rattle.subsetter_base.specs.declared.error.Error.TheVariants.{OutOfMemory}
use Rattle.subsetter_sfnt.specs.Read.{Font}
use Rattle.cid_embed.specs.Embed.{HasMapperFault, unopened}
use Rattle.cid_embed.proofs.Promises.{unnumbered}
use Rattle.cid_embed.proofs.embedding.mapper_for.Goals as goal

pub returns-in_err-check_opening-in-Err-clause-err : goal.returns-in_err-check_opening-in-Err-clause-err
returns-in_err-check_opening-in-Err-clause-err c =
    let p = err_from_is_err_and c.from_residual.result c.from_residual.ensures.1 in
    rw (p.1, p.2) (inr (unopened c.in_err-check_opening-in-Err.ensures.err))

pub returns-in-Err-OverflowError-clause-err : goal.returns-in-Err-OverflowError-clause-err
returns-in-Err-OverflowError-clause-err c =
    let font : Font = record { bytes = c.args.«data».now; index = c.args.index; extras = c.args.extras } in
    subst (λ (e : Error). (e ≡ OutOfMemory) ⊎ HasMapperFault font c.args.glyphs.now e) c.in-Err-OverflowError.field-0-is
    (unnumbered font c.args.glyphs.now c.in-Err-OverflowError.field-0 c.in-Err-OverflowError.ensures.err)
