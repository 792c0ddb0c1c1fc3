-- A charstring that is run to its end.
use Rattle.std.proofs.Common.{◌≡◌, ◌≢◌, ℕ, zero, suc, ◌-◌, ◌<◌, ◌≤◌, List, [], ◌∷◌, length, Ok, Err, refl, ◌∙◌, arith}
use Rattle.subsetter_base.specs.declared.error.Error.{Error}
use Rattle.subsetter_base.specs.declared.error.Error.TheVariants.{CFFError}
use Rattle.subsetter_type2.specs.declared.runs.recursion.CharStringEnd.{CharStringEnd}
use Rattle.subsetter_type2.specs.declared.runs.recursion.CharStringEnd.TheVariants.{Return, EndChar}
use Rattle.subsetter_type2.specs.Runs.Machine.{Library, Registers, Event, Outcome, Stops, unended, rests_after, act_at, run}
use Rattle.subsetter_type2.specs.Runs.Reached.{Reached}
use Rattle.subsetter_type2.specs.Runs.Recursion.{rests_at_end}
use Rattle.subsetter_type2.specs.View.{Done, done}
use Rattle.subsetter_type2.proofs.RunsLaws.Runs.{reached_more, reached_out, reached_fault, reached_deep}

pub unended_front : (rest : List ℕ) (callers : List (List ℕ)) → 0 < length rest → unended (rest ∷ callers) ≡ rest ∷ callers
unended_front [] callers h = absurd (omega arith)
unended_front (b ∷ bytes) callers h = refl

unended_past : (rest : List ℕ) (callers : List (List ℕ)) → length rest ≡ 0 → unended (rest ∷ callers) ≡ unended callers
unended_past [] callers h = refl
unended_past (b ∷ bytes) callers h = absurd (omega arith)

-- what the run does is a matter of the rests that are not at their end
run_same : (library : Library) (depth tokens : ℕ) (said : List Event) (a b : List (List ℕ)) (r : Registers) → unended a ≡ unended b → run library depth tokens said (record { rests = a; registers = r }) ≡ run library depth tokens said (record { rests = b; registers = r })
unfolding run
run_same library depth zero said a b r e = rw e
run_same library depth (suc tokens) said a b r e = rw e

-- the end of a charstring goes back to its caller
pub reached_end : (o : Outcome) (library : Library) (depth tokens : ℕ) (rest : List ℕ) (callers : List (List ℕ)) (r : Registers) (settled : List ℕ) → Reached o library depth tokens (record { rests = rest ∷ callers; registers = r }) settled → length rest ≡ 0 → Reached o library depth tokens (record { rests = callers; registers = r }) settled
reached_end o library depth tokens rest callers r settled h n = record {
  said = h.said;
  settled_is = h.settled_is;
  same = h.same ∙ run_same library depth tokens h.said _ _ r (unended_past rest callers n);
}

pub not_ended : (end : CharStringEnd) (callers : List (List ℕ)) → end ≢ EndChar → rests_at_end end callers ≡ callers
not_ended Return callers h = refl
not_ended EndChar callers h = absurd (h refl)

-- an act in the running charstring
module _ (o : Outcome) (library : Library) (depth tokens : ℕ) (rest : List ℕ) (callers : List (List ℕ)) (r : Registers) (settled : List ℕ) (h : Reached o library depth tokens (record { rests = rest ∷ callers; registers = r }) settled) (some : 0 < length rest) where
  pub act_out : tokens ≡ 0 → o ≡ Stops CFFError
  act_out n = reached_out o library depth tokens _ settled h rest callers n (unended_front rest callers some)

  pub act_fault : (error : Error) → (tokens ≡ 0 → ⊥) → done (act_at library rest r) settled ≡ Err error → o ≡ Stops error
  act_fault error n f =
      let m : tokens ≡ suc (tokens - 1) = omega arith in
      reached_fault o library depth tokens _ settled h rest callers (tokens - 1) m (unended_front rest callers some) error f

  pub act_deep : (d : Done) → (tokens ≡ 0 → ⊥) → done (act_at library rest r) settled ≡ Ok d → depth < length (rests_after d.lead callers) → o ≡ Stops CFFError
  act_deep d n f l =
      let m : tokens ≡ suc (tokens - 1) = omega arith in
      reached_deep o library depth tokens _ settled h rest callers (tokens - 1) m (unended_front rest callers some) d f l

  pub act_leads : (d : Done) → (tokens ≡ 0 → ⊥) → done (act_at library rest r) settled ≡ Ok d → length (rests_after d.lead callers) ≤ depth → Reached o library depth (tokens - 1) (record { rests = rests_after d.lead callers; registers = d.registers }) d.settled
  act_leads d n f l =
      let m : tokens ≡ suc (tokens - 1) = omega arith in
      reached_more o library depth tokens _ settled h rest callers (tokens - 1) m (unended_front rest callers some) d _ f refl l

-- at the glyph's own charstring every end is the end of the run
pub nothing_left : (end : CharStringEnd) → unended (rests_at_end end []) ≡ []
nothing_left Return = refl
nothing_left EndChar = refl
