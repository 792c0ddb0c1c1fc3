use Rattle.std.proofs.Common.{ℕ, Vec, Global, Err, sym, ap, subst, ◌∙◌}
use Rattle.std.specs.Prelude.{IfOk}
use Rattle.std.specs.Bool.{OnFalse}
use Rattle.std.proofs.lemmas.Result.{err_from_is_err_and}
use Rattle.subsetter_sfnt.specs.FontAt.{font_at}
use Rattle.subsetter_sfnt.specs.Read.{Font, as_font}
use Rattle.subsetter.specs.Glyf.BareOutlines.Instructions.{HasNoInstructions}
use Rattle.subsetter.specs.Promise.{IsPromised}
use Rattle.subsetter.proofs.Headline.{closed}
use Rattle.subsetter.proofs.subsetting.subset_with_options.Goals as goal

pub returns-in_err-opened-clause-promise : goal.returns-in_err-opened-clause-promise
returns-in_err-opened-clause-promise c =
    let limits = c.args.options.now.limits in
    let font : Font = font_at c.args.«data».now c.args.index c.args.options.now.extras in
    let p = err_from_is_err_and c.from_residual.result c.from_residual.ensures.1 in
    subst (λ r. IsPromised (λ v. v.items) limits.bytes limits.tokens limits.depth font c.args.mapper.now r) (sym (p.1 ∙ ap Err p.2))
    (closed {X = Vec ℕ Global} (λ v. v.items) limits.bytes limits.tokens limits.depth font c.args.mapper.now c.in_err-opened.field-0.0 c.in_err-opened.ensures.err)

pub returns-clause-promise : goal.returns-clause-promise
returns-clause-promise c =
    let limits = c.args.options.now.limits in
    subst (λ (f : Font). IsPromised (λ v. v.items) limits.bytes limits.tokens limits.depth f c.args.mapper.now c.subset_opened.result) c.in_ok-opened.ensures.font c.subset_opened.ensures.promise

pub returns-clause-bare : goal.returns-clause-bare
returns-clause-bare c =
    subst (λ (f : Font). IfOk c.subset_opened.result (λ out. OnFalse f.extras.hinting (HasNoInstructions (as_font out.items)))) c.in_ok-opened.ensures.font c.subset_opened.ensures.bare
