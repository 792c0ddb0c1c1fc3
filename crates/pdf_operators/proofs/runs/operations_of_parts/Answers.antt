use Rattle.std.proofs.Common.{rules, ◌≡◌, ℤ, true, subst, arith, to_z, of_z, w32}
use Rattle.std.proofs.lemmas.Int.{to_z-of_z}
use Rattle.std.proofs.lemmas.Result.{err_from_is_err_and}
use Rattle.pdf_runs.specs.Words.{groups}
use Rattle.pdf_operators.specs.Operators.{acts_of}
use Rattle.pdf_operators.specs.Runs.{acts_after, are_shown}
use Rattle.pdf_operators.proofs.RunSteps.{Refuses, end_is, end_refused, part_more, part_refused, parts_ended, shown_more}
use Rattle.pdf_operators.proofs.runs.operations_of_parts.Goals as goal

pub loop-part-preserved : goal.loop-part-preserved
loop-part-preserved c =
    let f = c.args.font in
    let d = c.args.direction in
    let k = c.loop-part.part-index in
    let s = c.loop-part.stop in
    let n = c.in_ok-stop.stop in
    record {
      acts = part_more f d _ c.args.parts.now k _ s n (acts_of c.loop-part.operations.items) (acts_of c.push_part.new.operations.items) _ c.loop-part-test.true c.in_ok-stop.ensures.next c.in_ok-stop.ensures.ok c.loop-part.invariant.acts;
      shown = shown_more f d _ c.args.parts.now k _ s n _ c.loop-part-test.true c.in_ok-stop.ensures.next c.in_ok-stop.ensures.valid c.loop-part.invariant.shown;
    }

pub returns-in_err-stop-clause-err : goal.returns-in_err-stop-clause-err
returns-in_err-stop-clause-err c =
    let p = err_from_is_err_and c.from_residual-in_err-stop.result c.from_residual-in_err-stop.ensures.1 in
    let same : to_z w32 (of_z w32 c.args.end) ≡ c.args.end = search (rules, to_z-of_z) in
    rw (p.1, p.2)
    (subst (λ (z : ℤ). Refuses (are_shown c.args.font c.args.direction z c.args.first (groups c.args.parts.now)) c.in_err-stop.field-0.0) same
    (part_refused c.args.font c.args.direction _ c.args.parts.now c.loop-part.part-index _ c.loop-part.stop _ c.in_err-stop.field-0.0 c.loop-part-test.true c.in_err-stop.ensures.err c.loop-part.invariant.shown))

pub returns-in_err-push_end-clause-err : goal.returns-in_err-push_end-clause-err
returns-in_err-push_end-clause-err c =
    let p = err_from_is_err_and c.from_residual-in_err-push_end.result c.from_residual-in_err-push_end.ensures.1 in
    let same : to_z w32 (of_z w32 c.args.end) ≡ c.args.end = search (rules, to_z-of_z) in
    rw (p.1, p.2)
    (subst (λ (z : ℤ). Refuses (are_shown c.args.font c.args.direction z c.args.first (groups c.args.parts.now)) c.in_err-push_end.field-0.0) same
    (end_refused c.args.font c.args.direction _ c.args.parts.now c.loop-part.part-index c.loop-part.stop _ c.in_err-push_end.field-0.0 (omega arith) c.in_err-push_end.ensures.err c.loop-part.invariant.shown))

pub returns-clause-ok : goal.returns-clause-ok
returns-clause-ok c =
    let same : to_z w32 (of_z w32 c.args.end) ≡ c.args.end = search (rules, to_z-of_z) in
    subst (λ (z : ℤ). acts_of c.push_end.new.operations.items ≡ acts_after c.args.font c.args.direction z c.args.first (groups c.args.parts.now)) same
    (parts_ended c.args.font c.args.direction _ c.args.parts.now c.loop-part.part-index c.loop-part.stop (acts_of c.loop-part.operations.items) (acts_of c.push_end.new.operations.items) _ (omega arith) c.in_ok-push_end.ensures.ok c.loop-part.invariant.acts)

pub returns-clause-valid : goal.returns-clause-valid
returns-clause-valid c =
    let same : to_z w32 (of_z w32 c.args.end) ≡ c.args.end = search (rules, to_z-of_z) in
    subst (λ (z : ℤ). are_shown c.args.font c.args.direction z c.args.first (groups c.args.parts.now) ≡ true) same
    (end_is c.args.font c.args.direction _ c.args.parts.now c.loop-part.part-index c.loop-part.stop true _ (omega arith) c.in_ok-push_end.ensures.valid c.loop-part.invariant.shown)
