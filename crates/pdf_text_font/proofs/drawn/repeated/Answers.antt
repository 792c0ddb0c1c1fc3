use Rattle.std.proofs.Common.{refl, sym, subst, ◌∙◌, List, ℕ, Option, inr}
use Rattle.std.proofs.lemmas.Result.{err_from_is_err_and}
use Rattle.cff_repeats.specs.Laws.{HasFigures}
use Rattle.pdf_text_font.specs.Drawn.{moved}
use Rattle.pdf_text_font.proofs.DrawnSteps.{not_repeated, widths_read}
use Rattle.pdf_text_font.proofs.drawn.repeated.Goals as goal

pub returns-then-not-are_still-clause-err : goal.returns-then-not-are_still-clause-err
returns-then-not-are_still-clause-err c = inr (moved (sym c.are_still.ensures ∙ c.if-not-are_still.true))

pub returns-in_err-again-clause-err : goal.returns-in_err-again-clause-err
returns-in_err-again-clause-err c =
    let p = err_from_is_err_and c.from_residual-in_err-again.result c.from_residual-in_err-again.ensures.1 in
    rw (p.1, p.2) (not_repeated c.args.cff.now c.args.others.now c.args.drawings.now c.deref.result.now c.in_err-again.field-0.0 (c.deref.ensures.value ∙ c.in_ok-figures.ensures.ok) c.in_err-again.ensures.exact)

pub returns-clause-ok : goal.returns-clause-ok
returns-clause-ok c = record {
  still = sym c.are_still.ensures ∙ c.if-not-are_still.false;
  again = c.in_ok-again.again.items;
  figures = subst (λ (l : List (Option ℕ)). HasFigures l c.args.cff.now c.in_ok-again.again.items) (c.deref.ensures.value ∙ c.in_ok-figures.ensures.ok) c.in_ok-again.ensures.ok;
  exact = c.in_ok-program.ensures.ok;
  widths = widths_read c.args.cff.now c.deref.result.now c.args.advances.now c.in_ok-again.again.items c.in_ok-program.program.items c.in_ok-again.ensures.exact c.in_ok-program.ensures.ok;
  none = refl;
}
