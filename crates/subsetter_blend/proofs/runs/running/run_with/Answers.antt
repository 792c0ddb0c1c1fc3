use Rattle.std.proofs.Common.{◌≡◌, ◌-◌, ◌<◌, ◌≤◌, ◌∷◌, ℕ, List, suc, length, take, drop, ℤ, ap, sym, ◌∙◌, arith}
use Rattle.std.proofs.lemmas.List.{take_rest}
use Rattle.std.proofs.lemmas.Result.{err_from_is_err_and}
use Rattle.subsetter_type2.specs.Runs.Machine.{rests_after}
use Rattle.subsetter_type2.specs.View.{rests_of}
use Rattle.subsetter_blend.specs.Runs.Machine.{State, run}
use Rattle.subsetter_blend.specs.Runs.MachineView.{registers_of, setting_of, continuation_of}
use Rattle.subsetter_blend.specs.Runs.Small.{with_small}
use Rattle.subsetter_blend.proofs.RunsLaws.Smalls.{small_runs}
use Rattle.subsetter_blend.proofs.RunsLaws.Runs.{run_start, run_over, run_out, run_fault, run_deep, run_on, ended_none, ended_some}
use Rattle.subsetter_blend.proofs.runs.running.run_with.Goals as goal

pub loop-current-init : goal.loop-current-init
loop-current-init g c =
    record {
      same = run_start g.S.Takes.taken (setting_of c.args.subroutines.now (g.R.Regions.scalars c.args.regions.now)) c.args.limits.now.depth _ _ c.args.data_index c.args.charstring.now c.args.sink.now _ _
          (ap (λ r. c.args.charstring.now ∷ rests_of r) c.requires.none) c.requires.start c.tokens-tokens.ensures;
      room = omega (arith, ap length c.requires.none);
    }

pub returns-then-tokens-eq0 : goal.returns-then-tokens-eq0
returns-then-tokens-eq0 g c ne =
    let setting = setting_of c.args.subroutines.now (g.R.Regions.scalars c.args.regions.now) in
    let state : State = record { rests = c.loop-current.running.now ∷ rests_of c.loop-current.rests; registers = registers_of c.loop-current.machine } in
    c.loop-current.invariant.same
    ∙ ap (λ (t : ℕ). run g.S.Takes.taken setting c.args.limits.now.depth t c.loop-current.sink state) c.if-tokens-eq0.true
    ∙ run_out g.S.Takes.taken setting c.args.limits.now.depth c.loop-current.sink state c.in-Some.current.now (rests_of c.innermost.new.rests) c.in-Some.ensures.rest

pub returns-in_err-flow : goal.returns-in_err-flow
returns-in_err-flow g c =
    let setting = setting_of c.args.subroutines.now (g.R.Regions.scalars c.args.regions.now) in
    let state : State = record { rests = c.loop-current.running.now ∷ rests_of c.loop-current.rests; registers = registers_of c.loop-current.machine } in
    let n : c.loop-current.tokens ≡ suc (c.loop-current.tokens - 1) = omega arith in
    let p = err_from_is_err_and c.from_residual.result c.from_residual.ensures.1 in
    rw (p.1, p.2)
    (λ ne. c.loop-current.invariant.same
    ∙ run_fault g.S.Takes.taken setting c.args.limits.now.depth c.loop-current.tokens (c.loop-current.tokens - 1) c.loop-current.sink state c.in-Some.current.now (rests_of c.innermost.new.rests) _ n c.in-Some.ensures.rest (c.in_err-flow.ensures ne))

pub returns-in_err-next : goal.returns-in_err-next
returns-in_err-next g c =
    let setting = setting_of c.args.subroutines.now (g.R.Regions.scalars c.args.regions.now) in
    let state : State = record { rests = c.loop-current.running.now ∷ rests_of c.loop-current.rests; registers = registers_of c.loop-current.machine } in
    let n : c.loop-current.tokens ≡ suc (c.loop-current.tokens - 1) = omega arith in
    let p = err_from_is_err_and c.from_residual-in_err-next.result c.from_residual-in_err-next.ensures.1 in
    let deep : c.args.limits.now.depth < length (rests_after (continuation_of c.in_ok-flow.flow) (rests_of c.innermost.new.rests)) = omega (arith, c.in_err-next.ensures.err.1, c.depth.ensures.value) in
    rw (p.1, p.2, c.in_err-next.ensures.err.0)
    (λ ne. c.loop-current.invariant.same
    ∙ run_deep g.S.Takes.taken setting c.args.limits.now.depth c.loop-current.tokens (c.loop-current.tokens - 1) c.loop-current.sink state c.in-Some.current.now (rests_of c.innermost.new.rests) _ n c.in-Some.ensures.rest c.in_ok-flow.ensures deep)

pub loop-current-preserved : goal.loop-current-preserved
loop-current-preserved g c =
    let setting = setting_of c.args.subroutines.now (g.R.Regions.scalars c.args.regions.now) in
    let state : State = record { rests = c.loop-current.running.now ∷ rests_of c.loop-current.rests; registers = registers_of c.loop-current.machine } in
    let n : c.loop-current.tokens ≡ suc (c.loop-current.tokens - 1) = omega arith in
    let within : length (rests_after (continuation_of c.in_ok-flow.flow) (rests_of c.innermost.new.rests)) ≤ c.args.limits.now.depth = omega (arith, c.in_ok-next.ensures.deep, c.depth.ensures.value) in
    let next = c.in_ok-next.next.now in
    let count = c.push_all_small-count.result in
    let here : State = record { rests = next ∷ rests_of c.follow.new.rests; registers = registers_of c.act_at.new.self } in
    let room : length (rests_of c.follow.new.rests) < c.args.limits.now.depth = omega (arith, within, ap (λ (l : List (List ℕ)). length l) c.in_ok-next.ensures.ok) in
    let still : run g.S.Takes.taken setting c.args.limits.now.depth (c.loop-current.tokens - 1) c.act_at.new.sink here
    ≡ run g.S.Takes.taken setting c.args.limits.now.depth (c.loop-current.tokens - 1 - count) c.act_at.new.sink (record { rests = drop count next ∷ rests_of c.follow.new.rests; registers = with_small (take count next) (registers_of c.act_at.new.self) }) =
    small_runs g.S.Takes.taken setting c.args.limits.now.depth count (c.loop-current.tokens - 1) c.act_at.new.sink (registers_of c.act_at.new.self) next (rests_of c.follow.new.rests)
    c.push_all_small-count.ensures.most c.push_all_small-count.ensures.inside c.push_all_small-count.ensures.small c.push_all_small-count.ensures.room room in
    record {
      same = c.loop-current.invariant.same
          ∙ run_on g.S.Takes.taken setting c.args.limits.now.depth c.loop-current.tokens (c.loop-current.tokens - 1) c.loop-current.sink state c.in-Some.current.now (rests_of c.innermost.new.rests) _ n c.in-Some.ensures.rest c.in_ok-flow.ensures within
          ∙ ap (λ (rests : List (List ℕ)). run g.S.Takes.taken setting c.args.limits.now.depth (c.loop-current.tokens - 1) c.act_at.new.sink (record { rests = rests; registers = registers_of c.act_at.new.self })) (sym c.in_ok-next.ensures.ok)
          ∙ still
          ∙ ap (λ (operands : List ℤ). run g.S.Takes.taken setting c.args.limits.now.depth (c.loop-current.tokens - 1 - count) c.act_at.new.sink (record { rests = drop count next ∷ rests_of c.follow.new.rests; registers = record (registers_of c.act_at.new.self) { operands = operands } })) (sym c.push_all_small-count.ensures.pushed)
          ∙ ap (λ (bytes : List ℕ). run g.S.Takes.taken setting c.args.limits.now.depth (c.loop-current.tokens - 1 - count) c.act_at.new.sink (record { rests = bytes ∷ rests_of c.follow.new.rests; registers = record (registers_of c.act_at.new.self) { operands = c.push_all_small-count.new.self } })) (sym (take_rest next count));
      room = omega (arith, c.in_ok-next.ensures.room, c.depth.ensures.value);
    }

pub returns-then-len-ne0 : goal.returns-then-len-ne0
returns-then-len-ne0 g c ne =
    let setting = setting_of c.args.subroutines.now (g.R.Regions.scalars c.args.regions.now) in
    let state : State = record { rests = c.loop-current.running.now ∷ rests_of c.loop-current.rests; registers = registers_of c.loop-current.machine } in
    c.loop-current.invariant.same
    ∙ run_over g.S.Takes.taken setting c.args.limits.now.depth c.loop-current.tokens c.loop-current.sink state c.in_default.ensures.rest
    ∙ ended_some c.loop-current.sink c.loop-current.machine.operands (λ z. c.if-len-ne0.true (c.len.ensures.len ∙ z))

pub returns : goal.returns
returns g c =
    let setting = setting_of c.args.subroutines.now (g.R.Regions.scalars c.args.regions.now) in
    let state : State = record { rests = c.loop-current.running.now ∷ rests_of c.loop-current.rests; registers = registers_of c.loop-current.machine } in
    c.loop-current.invariant.same
    ∙ run_over g.S.Takes.taken setting c.args.limits.now.depth c.loop-current.tokens c.loop-current.sink state c.in_default.ensures.rest
    ∙ ended_none c.loop-current.sink c.loop-current.machine.operands (sym c.len.ensures.len ∙ c.if-len-ne0.false)
