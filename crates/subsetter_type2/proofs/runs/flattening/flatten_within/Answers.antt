use Rattle.std.proofs.Common.{◌≡◌, ◌-◌, ◌<◌, ◌∷◌, suc, length, take, drop, ap, refl, sym, ◌∙◌, inl, inr, Ok, arith, rules}
use Rattle.std.proofs.lemmas.Result.{err_from_is_err_and}
use Rattle.subsetter_base.specs.Within.{is_past}
use Rattle.subsetter_type2.specs.View.{rests_of}
use Rattle.subsetter_type2.specs.Runs.MachineView.{registers_of}
use Rattle.subsetter_type2.proofs.RunsLaws.RecursionLemmas.{unended_front}
use Rattle.subsetter_type2.proofs.RunsLaws.Runs.{gives_fault}
use Rattle.subsetter_type2.proofs.StretchesLaws.Stretches.{after_stretch, fewer_tokens, length_rests}
use Rattle.subsetter_type2.proofs.RunsLaws.AfterRuns.{after_start, after_over, past_out, after_fault, after_more, after_same, after_deep, after_stops, after_fails, settled_past}
use Rattle.subsetter_type2.proofs.runs.flattening.flatten_within.Goals as goal

pub loop-current-init : goal.loop-current-init
loop-current-init g c =
    record {
      reached = after_start _ _ _ _ _ _ _ _ (ap (λ r. c.args.charstring.now ∷ rests_of r) c.clear.ensures)
          (ap (registers_of (λ w. w)) c.new-machine.ensures ∙ ap (λ w. record { operands = w.operands; stems = 0; mask_len = 0 }) c.following.ensures)
          (ap (λ m. m.output.settled) c.new-machine.ensures ∙ ap (λ w. w.settled) c.following.ensures);
      room = omega (arith, ap length c.clear.ensures);
    }

pub returns-then-tokens-eq0 : goal.returns-then-tokens-eq0
returns-then-tokens-eq0 g c =
    let s = c.in_ok-stretch.ensures in
    let room : length (rests_of c.innermost.new.rests) < c.args.limits.now.depth = omega (arith, c.in-Some.ensures.room, c.loop-current.invariant.room, length_rests c.innermost.new.rests) in
    let came = after_stretch _ _ _ _ _ _ _ _ _ _ _ _ _ _ c.loop-current.invariant.reached c.in-Some.ensures.rest s.leads room s.few in
    let rest = take (length c.in-Some.current.now - c.in_ok-stretch.stretch.len) (drop c.in_ok-stretch.stretch.len c.in-Some.current.now) in
    let some : 0 < length rest = search rules in
    inl (after_stops _ _ _ (past_out _ _ _ _ _ _ _ came rest (rests_of c.innermost.new.rests) c.if-tokens-eq0.true (unended_front rest (rests_of c.innermost.new.rests) some)))

pub returns-then-is_past : goal.returns-then-is_past
returns-then-is_past g c =
    let s = c.in_ok-stretch.ensures in
    let room : length (rests_of c.innermost.new.rests) < c.args.limits.now.depth = omega (arith, c.in-Some.ensures.room, c.loop-current.invariant.room, length_rests c.innermost.new.rests) in
    let came = after_stretch _ _ _ _ _ _ _ _ _ _ _ _ _ _ c.loop-current.invariant.reached c.in-Some.ensures.rest s.leads room s.few in
    inr (refl, settled_past c.args.limits.now.bytes _ _ _ _ _ _ _ came (ap (is_past c.args.limits.now.bytes) (sym c.settled_len.ensures) ∙ sym c.if-is_past.ensures))

pub returns-in_err-flow : goal.returns-in_err-flow
returns-in_err-flow g c =
    let s = c.in_ok-stretch.ensures in
    let room : length (rests_of c.innermost.new.rests) < c.args.limits.now.depth = omega (arith, c.in-Some.ensures.room, c.loop-current.invariant.room, length_rests c.innermost.new.rests) in
    let came = after_stretch _ _ _ _ _ _ _ _ _ _ _ _ _ _ c.loop-current.invariant.reached c.in-Some.ensures.rest s.leads room s.few in
    let p = err_from_is_err_and c.from_residual-in_err-flow.result c.from_residual-in_err-flow.ensures.1 in
    let left = c.loop-current.tokens - c.in_ok-stretch.stretch.tokens in
    let n : left ≡ suc (left - 1) = omega arith in
    rw (p.1, p.2)
    (inl (after_fails _ _ _ (gives_fault _ _ (λ ne. after_fault _ _ _ _ _ _ _ came _ _ _ n (unended_front _ _ (search rules)) _ (c.in_err-flow.ensures ne)))))

pub loop-current-preserved-then-not-is_empty : goal.loop-current-preserved-then-not-is_empty
loop-current-preserved-then-not-is_empty g c =
    let s = c.in_ok-stretch.ensures in
    let room : length (rests_of c.innermost.new.rests) < c.args.limits.now.depth = omega (arith, c.in-Some.ensures.room, c.loop-current.invariant.room, length_rests c.innermost.new.rests) in
    let came = after_stretch _ _ _ _ _ _ _ _ _ _ _ _ _ _ c.loop-current.invariant.reached c.in-Some.ensures.rest s.leads room s.few in
    let left = c.loop-current.tokens - c.in_ok-stretch.stretch.tokens in
    let n : left ≡ suc (left - 1) = omega arith in
    record {
      reached = after_same _ _ _ _ _ _ _ _ _
          (after_more _ _ _ _ _ _ _ came _ _ _ n (unended_front _ _ (search rules)) _ _ c.in_ok-flow.ensures refl c.in_ok-running.ensures.deep)
          (sym c.in_ok-running.ensures.ok);
      room = c.in_ok-running.ensures.room;
    }

pub returns-in_err-running : goal.returns-in_err-running
returns-in_err-running g c =
    let s = c.in_ok-stretch.ensures in
    let room : length (rests_of c.innermost.new.rests) < c.args.limits.now.depth = omega (arith, c.in-Some.ensures.room, c.loop-current.invariant.room, length_rests c.innermost.new.rests) in
    let came = after_stretch _ _ _ _ _ _ _ _ _ _ _ _ _ _ c.loop-current.invariant.reached c.in-Some.ensures.rest s.leads room s.few in
    let p = err_from_is_err_and c.from_residual-in_err-running.result c.from_residual-in_err-running.ensures.1 in
    let left = c.loop-current.tokens - c.in_ok-stretch.stretch.tokens in
    let n : left ≡ suc (left - 1) = omega arith in
    rw (p.1, p.2, c.in_err-running.ensures.err.0)
    (inl (after_stops _ _ _ (after_deep _ _ _ _ _ _ _ came _ _ _ n (unended_front _ _ (search rules)) _ c.in_ok-flow.ensures c.in_err-running.ensures.err.1)))

pub loop-current-smaller : goal.loop-current-smaller
loop-current-smaller g c =
    let s = c.in_ok-stretch.ensures in
    fewer_tokens (c.loop-current.running.now ∷ rests_of c.loop-current.rests) (rests_of c.innermost.new.rests) c.in-Some.current.now c.in_ok-stretch.stretch.len c.in_ok-stretch.stretch.tokens c.loop-current.tokens c.in-Some.ensures.rest s.moves s.few (search rules)

pub loop-current-preserved : goal.loop-current-preserved
loop-current-preserved g c =
    let s = c.in_ok-stretch.ensures in
    let room : length (rests_of c.innermost.new.rests) < c.args.limits.now.depth = omega (arith, c.in-Some.ensures.room, c.loop-current.invariant.room, length_rests c.innermost.new.rests) in
    record {
      reached = after_stretch _ _ _ _ _ _ _ _ _ _ _ _ _ _ c.loop-current.invariant.reached c.in-Some.ensures.rest s.leads room s.few;
      room = omega (arith, c.in-Some.ensures.room, c.loop-current.invariant.room);
    }

pub returns : goal.returns
returns g c =
    after_over _ _ _ _ _ _ _ c.loop-current.invariant.reached c.in_default.ensures.rest ∙ ap Ok (sym c.finish.ensures)
