use Rattle.std.proofs.Common.{[], refl, ap, sym, ◌∙◌, Ok}
use Rattle.std.proofs.lemmas.Result.{err_from_is_err_and}
use Rattle.subsetter_type2.specs.Runs.MachineView.{registers_of}
use Rattle.subsetter_type2.proofs.RunsLaws.Runs.{reached_start, reached_over, gives_fault}
use Rattle.subsetter_type2.proofs.RunsLaws.RecursionLemmas.{nothing_left}
use Rattle.subsetter_type2.proofs.runs.recursion.decompile.Goals as goal

pub returns-in_err-run : goal.returns-in_err-run
returns-in_err-run c =
    let p = err_from_is_err_and c.from_residual.result c.from_residual.ensures.1 in
    rw (p.1, p.2)
    (gives_fault _ _ (λ ne. c.in_err-run.ensures.run ne _ [] refl
    (reached_start _ _ _ _ _ _ _ refl
    (ap (registers_of (λ w. w)) c.new-2.ensures ∙ ap (λ w. record { operands = w.operands; stems = 0; mask_len = 0 }) c.new.ensures)
    (ap (λ m. m.output.settled) c.new-2.ensures ∙ ap (λ w. w.settled) c.new.ensures))))

pub returns : goal.returns
returns c =
    reached_over _ _ _ _ _ _
    (c.in_ok-run.ensures.run _ [] refl (reached_start _ _ _ _ _ _ _ refl
    (ap (registers_of (λ w. w)) c.new-2.ensures ∙ ap (λ w. record { operands = w.operands; stems = 0; mask_len = 0 }) c.new.ensures)
    (ap (λ m. m.output.settled) c.new-2.ensures ∙ ap (λ w. w.settled) c.new.ensures)))
    (nothing_left c.in_ok-run.field-0) ∙ ap Ok (sym c.finish.ensures)
