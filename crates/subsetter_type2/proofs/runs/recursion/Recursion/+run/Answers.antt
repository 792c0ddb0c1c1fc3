use Rattle.std.proofs.Common.{◌≡◌, ◌<◌, ◌∷◌, length, arith, rules}
use Rattle.std.proofs.lemmas.Result.{err_from_is_err_and}
use Rattle.subsetter_type2.proofs.RunsLaws.RecursionLemmas.{reached_end, not_ended, act_out, act_fault, act_deep, act_leads}
use Rattle.subsetter_type2.proofs.runs.recursion.Recursion.+run.Goals as goal

pub returns-then-self-eq0-clause-run : goal.returns-then-self-eq0-clause-run
returns-then-self-eq0-clause-run t c =
    let some : 0 < length c.loop-rest.rest.now = search rules in
    λ ne o callers n h. act_out _ _ _ _ _ _ _ _ (c.loop-rest.invariant.came o callers n h) some c.if-self-eq0.true

pub returns-in_err-next-clause-run : goal.returns-in_err-next-clause-run
returns-in_err-next-clause-run t c =
    let some : 0 < length c.loop-rest.rest.now = search rules in
    let p = err_from_is_err_and c.from_residual.result c.from_residual.ensures.1 in
    rw (p.1, p.2)
    (λ ne o callers n h. act_fault _ _ _ _ _ _ _ _ (c.loop-rest.invariant.came o callers n h) some _ c.if-self-eq0.false (c.in_err-next.ensures ne))

pub loop-rest-preserved-in-GoesOn : goal.loop-rest-preserved-in-GoesOn
loop-rest-preserved-in-GoesOn t c =
    let some : 0 < length c.loop-rest.rest.now = search rules in
    let is = rw c.in-GoesOn.is at c.in_ok-next.ensures in
    record {
      came = λ o callers n h. act_leads _ _ _ _ _ _ _ _ (c.loop-rest.invariant.came o callers n h) some _ c.if-self-eq0.false is (omega arith);
      fewer = omega arith;
    }

pub returns-in-Returns-clause-run : goal.returns-in-Returns-clause-run
returns-in-Returns-clause-run t c =
    let some : 0 < length c.loop-rest.rest.now = search rules in
    let is = rw c.in-Returns.is at c.in_ok-next.ensures in
    λ o callers n h. act_leads _ _ _ _ _ _ _ _ (c.loop-rest.invariant.came o callers n h) some _ c.if-self-eq0.false is (omega arith)

pub returns-in-Ends-clause-run : goal.returns-in-Ends-clause-run
returns-in-Ends-clause-run t c =
    let some : 0 < length c.loop-rest.rest.now = search rules in
    let is = rw c.in-Ends.is at c.in_ok-next.ensures in
    λ o callers n h. act_leads _ _ _ _ _ _ _ _ (c.loop-rest.invariant.came o callers n h) some _ c.if-self-eq0.false is (omega arith)

pub returns-then-depth-limit-clause-run : goal.returns-then-depth-limit-clause-run
returns-then-depth-limit-clause-run t c =
    let some : 0 < length c.loop-rest.rest.now = search rules in
    let is = rw c.in-Calls.is at c.in_ok-next.ensures in
    λ ne o callers n h. act_deep _ _ _ _ _ _ _ _ (c.loop-rest.invariant.came o callers n h) some _ c.if-self-eq0.false is (omega arith)

pub returns-in_err-run-in-Calls-clause-run : goal.returns-in_err-run-in-Calls-clause-run
returns-in_err-run-in-Calls-clause-run t c =
    let some : 0 < length c.loop-rest.rest.now = search rules in
    let is = rw c.in-Calls.is at c.in_ok-next.ensures in
    let p = err_from_is_err_and c.from_residual-in_err-run-in-Calls.result c.from_residual-in_err-run-in-Calls.ensures.1 in
    rw (p.1, p.2)
    (λ ne o callers n h. c.in_err-run-in-Calls.ensures.run ne o (c.in-Calls.next.now ∷ callers) (omega arith)
    (act_leads _ _ _ _ _ _ _ _ (c.loop-rest.invariant.came o callers n h) some _ c.if-self-eq0.false is (omega arith)))

pub returns-in-EndChar-clause-run : goal.returns-in-EndChar-clause-run
returns-in-EndChar-clause-run t c =
    let some : 0 < length c.loop-rest.rest.now = search rules in
    let is = rw c.in-Calls.is at c.in_ok-next.ensures in
    let end = rw c.in-EndChar.is at c.in_ok-run-in-Calls.ensures.run in
    λ o callers n h. end o (c.in-Calls.next.now ∷ callers) (omega arith)
    (act_leads _ _ _ _ _ _ _ _ (c.loop-rest.invariant.came o callers n h) some _ c.if-self-eq0.false is (omega arith))

pub loop-rest-preserved : goal.loop-rest-preserved
loop-rest-preserved t c =
    let some : 0 < length c.loop-rest.rest.now = search rules in
    let is = rw c.in-Calls.is at c.in_ok-next.ensures in
    record {
      came = λ o callers n h.
          rw (← not_ended c.in_ok-run-in-Calls.field-0 (c.in-Calls.next.now ∷ callers) c.in_default.not-EndChar)
          (c.in_ok-run-in-Calls.ensures.run o (c.in-Calls.next.now ∷ callers) (omega arith)
          (act_leads _ _ _ _ _ _ _ _ (c.loop-rest.invariant.came o callers n h) some _ c.if-self-eq0.false is (omega arith)));
      fewer = omega arith;
    }

pub returns-clause-run : goal.returns-clause-run
returns-clause-run t c =
    let none : length c.loop-rest.rest.now ≡ 0 = search rules in
    λ o callers n h. reached_end _ _ _ _ _ _ _ _ (c.loop-rest.invariant.came o callers n h) none
