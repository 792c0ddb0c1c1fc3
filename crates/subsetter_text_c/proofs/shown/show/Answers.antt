use Rattle.std.proofs.Common.{ap, ◌∙◌}
use Rattle.std.proofs.lemmas.Result.{err_from_is_err_and}
use Rattle.subsetter_text_c.specs.Own.{owns_of, parts_of}
use Rattle.subsetter_text_c.specs.Shown.{lists_given}
use Rattle.subsetter_text_c.proofs.ShownSteps.{run_refused, run_shown}
use Rattle.subsetter_text_c.proofs.shown.show.Goals as goal

pub returns-in_err-operators-clause-err : goal.returns-in_err-operators-clause-err
returns-in_err-operators-clause-err c =
    let p = err_from_is_err_and c.from_residual-in_err-operators.result c.from_residual-in_err-operators.ensures.1 in
    let s = c.in_err-operators.ensures in
    rw (p.1, p.2) (run_refused c.args.font c.args.choice.now c.args.direction c.args.order (lists_given c.args.kept) c.in_ok-pairs.pairs c.show_own_run.new.pairs c.in_ok-own.own.list.items c.show_own_run.new.own.list.items c.args.items.now c.in_err-operators.field-0.0
    c.in_ok-pairs.ensures.ok c.in_ok-own.ensures.ok s.extends s.err)

pub returns-clause-ok : goal.returns-clause-ok
returns-clause-ok c =
    let s = c.in_ok-operators.ensures in
    run_shown c.args.font c.args.choice.now c.args.direction c.args.order c.args.size (lists_given c.args.kept) (record { pairs = c.in_ok-pairs-2.pairs.items; own = c.in_ok-own-2.own.items; parts = c.in_ok-parts.parts.items })
    c.in_ok-pairs.pairs c.show_own_run.new.pairs c.in_ok-own.own.list.items c.show_own_run.new.own.list.items c.args.items.now c.in_ok-operators.operators.items
    c.in_ok-pairs.ensures.ok c.in_ok-own.ensures.ok s.shown s.stay s.extends c.in_ok-pairs-2.ensures.ok (c.in_ok-parts.ensures.ok ∙ ap parts_of c.deref.ensures.value) (c.in_ok-own-2.ensures.ok ∙ ap (owns_of 0) c.deref-2.ensures.value)
