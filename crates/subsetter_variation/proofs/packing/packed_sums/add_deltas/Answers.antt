use Rattle.std.proofs.Common.{◌≡◌, ℕ, ◌+◌, ◌-◌, ◌≤◌, ◌^◌, ◌+ℤ◌, ◌*ℤ◌, List, length, get_or, take, drop, arith, pos, ℤ, None, option_map, ap, sym, ◌∙◌, unsigned_abs, w64, to_z, of_z, inl, inr}
use Rattle.std.specs.Option.{option_copied}
use Rattle.std.proofs.lemmas.Bool.{cases_lt}
use Rattle.subsetter_variation.specs.Packing.Packed.{deltas, deltas_from, runs}
use Rattle.subsetter_variation.proofs.GlyphsLaws.Contours.{mid_below, mid_at, mid_above, part_at, length_part}
use Rattle.subsetter_variation.proofs.PackingLaws.DeltaRuns.{run_of, then_deltas}
use Rattle.subsetter_variation.proofs.PackingLaws.DeltasOn.{from_place, byte_is, length_read, after_run, in_run, run_read, cut_here, past_here, cut_run, of_none}
use Rattle.subsetter_variation.proofs.packing.packed_sums.add_deltas.Goals as goal

-- the run that the loop is at
past_of : goal.In_ok-rest → ℕ
past_of c = c.loop-at.at + c.from.result + 1

part_of : goal.In_ok-rest → List ℤ
part_of c = take (past_of c - c.loop-at.at) (drop c.loop-at.at c.loop-at.sums)

run_length : (c : goal.In_ok-rest) → length (part_of c) ≡ c.from.result + 1
unfolding past_of part_of
run_length c = length_part c.loop-at.sums c.loop-at.at (past_of c) (omega arith) (omega arith) ∙ omega arith

joined : (c : goal.In_ok-rest) → then_deltas (length c.args.sums.now - past_of c) (deltas_from (length (part_of c)) (run_of (length (part_of c)) c.in_ok-control.control c.in_ok-control.following.now)) ≡ option_map (from_place c.loop-at.at) (deltas_from (length c.args.sums.now) (runs c.args.bytes.now))
unfolding past_of
joined c =
    sym (ap (λ b. deltas_from (length c.args.sums.now - c.loop-at.at) (runs b)) (byte_is c.loop-at.rest.now c.in_ok-control.control c.in_ok-control.following.now c.in_ok-control.ensures) ∙ run_read (length c.args.sums.now) c.loop-at.at (length (part_of c)) (past_of c) c.in_ok-control.control c.in_ok-control.following.now (omega (arith, run_length c)) (omega (arith, c.loop-at.auto.sums)) (run_length c ∙ omega (arith, c.from.ensures)))
    ∙ c.loop-at.invariant.read

pub loop-at-preserved : goal.loop-at-preserved
unfolding past_of part_of
loop-at-preserved c =
    let n = length c.args.sums.now in
    let at = c.loop-at.at in
    let w = length (part_of c) in
    let run = deltas_from w (run_of w c.in_ok-control.control c.in_ok-control.following.now) in
    let long = run_length c in
    let u : at ≤ length c.loop-at.sums = omega arith in
    record {
      within = omega (arith, c.loop-at.auto.sums);
      read = after_run (n - past_of c) at w (past_of c) run _ c.in_ok-rest.rest.now (omega (arith, long)) (length_read w _) c.in_ok-rest.ensures.rest (joined c);
      added = λ d e j lt. elim (cases_lt j at) [
        | inl h ↦ mid_below at (past_of c - at) c.loop-at.sums c.add_run.new.sums j h u ∙ c.loop-at.invariant.added d e j h
        | inr h ↦
            mid_at at (past_of c - at) c.loop-at.sums c.add_run.new.sums j h (omega (arith, long, c.add_run.auto.sums)) u
            ∙ in_run (λ i x. get_or c.add_run.new.sums i (pos 0) ≡ get_or (part_of c) i (pos 0) +ℤ to_z w64 (of_z w64 c.args.scalar) *ℤ x) (n - past_of c) at w j run d c.in_ok-rest.rest.now h (omega (arith, long)) (length_read w _) c.in_ok-rest.ensures.rest (joined c ∙ ap (option_map (from_place at)) e) c.in_ok-rest.ensures.added
            ∙ ap (λ z. z +ℤ to_z w64 (of_z w64 c.args.scalar) *ℤ get_or d.0 j (pos 0)) (part_at c.loop-at.sums at (past_of c - at) j h (omega arith) ∙ c.loop-at.invariant.left j h)
      ];
      bound = λ d e j lt. elim (cases_lt j at) [ inl h ↦ c.loop-at.invariant.bound d e j h | inr h ↦ in_run (λ i x. unsigned_abs (to_z w64 (of_z w64 c.args.scalar) *ℤ x) ≤ 2 ^ 45) (n - past_of c) at w j run d c.in_ok-rest.rest.now h (omega (arith, long)) (length_read w _) c.in_ok-rest.ensures.rest (joined c ∙ ap (option_map (from_place at)) e) c.in_ok-rest.ensures.bound ];
      left = λ j h. mid_above at (past_of c - at) c.loop-at.sums c.add_run.new.sums j (c.add_run.auto.sums ∙ long ∙ omega arith) (omega arith) u ∙ c.loop-at.invariant.left j (omega arith);
    }

-- where a run has no first byte
no_first : (c : goal.After-from_residual) → deltas (length c.args.sums.now) c.args.bytes.now ≡ None
unfolding deltas
no_first c = cut_here (length c.args.sums.now) c.loop-at.at c.loop-at.rest.now _ (omega (arith, c.loop-at.auto.sums)) c.in_err-control.ensures c.loop-at.invariant.read

pub returns-in_err-control-clause-rest : goal.returns-in_err-control-clause-rest
returns-in_err-control-clause-rest c = ap option_copied c.from_residual.ensures ∙ sym (ap (option_map (λ d. d.1)) (no_first c))

pub returns-in_err-control-clause-added : goal.returns-in_err-control-clause-added
returns-in_err-control-clause-added c = of_none _ _ (no_first c)

pub returns-in_err-control-clause-bound : goal.returns-in_err-control-clause-bound
returns-in_err-control-clause-bound c = of_none _ _ (no_first c)

-- where it goes on past the last delta
goes_past : (c : goal.Then-past-sums) → deltas (length c.args.sums.now) c.args.bytes.now ≡ None
unfolding deltas
goes_past c = past_here (length c.args.sums.now) c.loop-at.at c.in_ok-control.control c.loop-at.rest.now c.in_ok-control.following.now _ (omega (arith, c.loop-at.auto.sums)) (omega (arith, c.from.ensures, c.loop-at.auto.sums)) c.in_ok-control.ensures c.loop-at.invariant.read

pub returns-then-past-sums-clause-rest : goal.returns-then-past-sums-clause-rest
returns-then-past-sums-clause-rest c = sym (ap (option_map (λ d. d.1)) (goes_past c))

pub returns-then-past-sums-clause-added : goal.returns-then-past-sums-clause-added
returns-then-past-sums-clause-added c = of_none _ _ (goes_past c)

pub returns-then-past-sums-clause-bound : goal.returns-then-past-sums-clause-bound
returns-then-past-sums-clause-bound c = of_none _ _ (goes_past c)

-- where it is cut
is_cut : (c : goal.After-from_residual-in_err-rest) → deltas (length c.args.sums.now) c.args.bytes.now ≡ None
unfolding deltas
is_cut c =
    let at = c.loop-at.at in
    let past = at + c.from.result + 1 in
    let w = length (take (past - at) (drop at c.loop-at.sums)) in
    let long : w ≡ c.from.result + 1 = length_part c.loop-at.sums at past (omega arith) (omega arith) ∙ omega arith in
    cut_run (length c.args.sums.now) at w past c.in_ok-control.control c.loop-at.rest.now c.in_ok-control.following.now _ (omega (arith, long)) (omega (arith, c.loop-at.auto.sums)) (long ∙ omega (arith, c.from.ensures)) c.in_ok-control.ensures c.in_err-rest.ensures.rest c.loop-at.invariant.read

pub returns-in_err-rest-clause-rest : goal.returns-in_err-rest-clause-rest
returns-in_err-rest-clause-rest c = ap option_copied c.from_residual-in_err-rest.ensures ∙ sym (ap (option_map (λ d. d.1)) (is_cut c))

pub returns-in_err-rest-clause-added : goal.returns-in_err-rest-clause-added
returns-in_err-rest-clause-added c = of_none _ _ (is_cut c)

pub returns-in_err-rest-clause-bound : goal.returns-in_err-rest-clause-bound
returns-in_err-rest-clause-bound c = of_none _ _ (is_cut c)
