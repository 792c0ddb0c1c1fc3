-- A charstring with another width has the same trace but for the width.
use Rattle.std.proofs.Common.{◌≡◌, ℕ, zero, suc, ◌+◌, ◌-◌, ◌/◌, ◌%◌, ◌<◌, ◌≤◌, Bool, true, false, eqb, List, [], ◌∷◌, ◌++◌, length, take, drop, Option, Some, None, option_map, ℤ, pos, negsuc, ◌+ℤ◌, ◌-ℤ◌, w16, FitsSigned, refl, sym, ap, ◌∙◌, subst, arith, inl, inr, append_assoc, append-nil, length-append}
use Rattle.std.specs.Prelude.{nat_le, nat_lt, if◌then◌else◌, ◌==◌, ◌&&◌, int_le}
use Rattle.std.proofs.lemmas.Int.{ints}
use Rattle.std.proofs.lemmas.Bool.{cases_Bool, le-leb, lt-ltb, ltb-true, eqb-true, eqb-false}
use Rattle.std.proofs.lemmas.Bool.Decides.{nat_tests, Decides-int_eq}
use Rattle.std.proofs.lemmas.Option.{none-some, same_Some}
use Rattle.subsetter_base.specs.declared.error.Error.{Error}
use Rattle.subsetter_base.specs.declared.error.Error.TheVariants.{CFFError, Unimplemented}
use Rattle.subsetter_cffdata.specs.declared.numerals.charstring_number.CharStringNumber.{CharStringNumber}
use Rattle.subsetter_cffdata.specs.declared.numerals.charstring_number.CharStringNumber.TheVariants.{Integer}
use Rattle.subsetter_cffdata.specs.Numerals.CharStringNumber.{number_at, whole_of, written, NumberFits}
use Rattle.subsetter_cffdata.proofs.NumeralsLaws.CharStringNumbers.{read_back}
use Rattle.subsetter_cffdata.proofs.Options.{step, unless, when}
use Rattle.subsetter_type2.specs.Token.{token_of, one_byte, one_byte_effect, effect_of}
use Rattle.subsetter_type2.specs.declared.token.Effect.{Effect}
use Rattle.subsetter_type2.specs.declared.token.Effect.TheVariants.{CountsStems, Draws, CallsLocal, CallsGlobal, Returns, Ends, Masks}
use Rattle.subsetter_type2.specs.Runs.Machine.{Library, Registers, State, Event, Trace, Act, Does, Fails, Step, Goes, Faults, Continuation, On, Over, Outcome, Finishes, Stops, unended, follow, with_event, act_at, operate, move, rests_after, run, outcome, trace_of}
use Rattle.subsetter_type2.proofs.RunsLaws.Runs.{run_more, run_over, run_out}
use Rattle.subsetter_type2.proofs.Replay.{one, token_number, act_push}
use Rattle.subsetter_type2.proofs.TraceLimits.{outcome_longer}
use Rattle.pdf_widths.specs.Change.{Change, advance_of, change_of, difference, has_room, is_advance, wanted, width_text}
use Rattle.pdf_widths.specs.Opening.{Opening, effect_parity, first_operator, here_or_after, opening_of, operator_at, parity}
use Rattle.pdf_widths.specs.declared.defaults.Defaults.{Defaults}
use Rattle.pdf_widths.specs.declared.opening.FirstOperator.{FirstOperator}
use Rattle.pdf_widths.specs.Laws.{ChangesWidth, DifferInWidth, TracesChangeWidths, number_list}

-- ---- the events so far stay in front
abbrev prepend : List Event → Outcome → Outcome
prepend said (Finishes t) = Finishes (record { events = said ++ t.events; left = t.left })
prepend said (Stops error) = Stops error

prepend_twice : (a b : List Event) (o : Outcome) → prepend a (prepend b o) ≡ prepend (a ++ b) o
prepend_twice a b (Finishes t) = ap (λ (es : List Event). Finishes (record { events = es; left = t.left })) (sym (append_assoc a b t.events))
prepend_twice a b (Stops error) = refl

said_with : (said : List Event) (event : Option Event) → with_event said event ≡ said ++ with_event [] event
said_with said None = sym (append-nil said)
said_with said (Some e) = refl

module _ (library : Library) (depth : ℕ) where
  over : (n : ℕ) (said : List Event) (s : State) → unended s.rests ≡ [] → run library depth n said s ≡ prepend said (run library depth n [] s)
  over n said s r =
      run_over library depth n said s r
      ∙ ap (λ (es : List Event). Finishes (record { events = es; left = s.registers.operands })) (sym (append-nil said))
      ∙ ap (prepend said) (sym (run_over library depth n [] s r))

  step_said : (n : ℕ) (said : List Event) (st : Step) → ((said' : List Event) (s' : State) → run library depth n said' s' ≡ prepend said' (run library depth n [] s'))
      → follow st said (run library depth n) ≡ prepend said (follow st [] (run library depth n))
  step_said n said (Faults error) ih = refl
  step_said n said (Goes event next) ih =
      ih (with_event said event) next
      ∙ ap (λ (es : List Event). prepend es (run library depth n [] next)) (said_with said event)
      ∙ sym (prepend_twice said (with_event [] event) (run library depth n [] next))
      ∙ ap (prepend said) (sym (ih (with_event [] event) next))

  by_rests : (n : ℕ) (said : List Event) (s : State) (rests : List (List ℕ)) → unended s.rests ≡ rests → run library depth n said s ≡ prepend said (run library depth n [] s)
  by_rests n said s [] r = over n said s r
  by_rests zero said s (bytes ∷ callers) r = run_out library depth said s bytes callers r ∙ ap (prepend said) (sym (run_out library depth [] s bytes callers r))
  by_rests (suc n) said s (bytes ∷ callers) r =
      run_more library depth n said s bytes callers r
      ∙ step_said n said (move depth callers (act_at library bytes s.registers)) (λ said' s'. by_rests n said' s' (unended s'.rests) refl)
      ∙ ap (prepend said) (sym (run_more library depth n [] s bytes callers r))

  said_before : (n : ℕ) (said : List Event) (s : State) → run library depth n said s ≡ prepend said (run library depth n [] s)
  said_before n said s = by_rests n said s (unended s.rests) refl

-- ---- an operator
abbrev registers : List CharStringNumber → Registers
registers operands = record { operands = operands; stems = 0; mask_len = 0 }

abbrev event : ℕ → List CharStringNumber → List ℕ → Event
event b operands mask = record { operator = one_byte b; operands = operands; mask = mask }

-- two runs that begin with one event each, which have these operands
record AreAlike (b : ℕ) (os ns : List CharStringNumber) (u : Trace) (o : Outcome) : Type 0 where
  mask : List ℕ
  events : List Event
  left : List CharStringNumber
  old : u ≡ record { events = event b os mask ∷ events; left = left }
  new : o ≡ Finishes (record { events = event b ns mask ∷ events; left = left })

same_trace : (t u : Trace) → Finishes t ≡ Finishes u → t ≡ u
same_trace t u e = cc

no_trace : {A : Type 0} (error : Error) (u : Trace) → Stops error ≡ Finishes u → A
no_trace error u e = absurd (cc)

alike_by : (b : ℕ) (os ns : List CharStringNumber) (mask : List ℕ) (u : Trace) (o : Outcome) → prepend (event b os mask ∷ []) o ≡ Finishes u → AreAlike b os ns u (prepend (event b ns mask ∷ []) o)
alike_by b os ns mask u (Finishes t) e = record { mask = mask; events = t.events; left = t.left; old = sym (same_trace _ u e); new = refl }
alike_by b os ns mask u (Stops error) e = no_trace error u e

module _ (library : Library) (depth m b : ℕ) (os ns : List CharStringNumber) (u : Trace) where
  abbrev goes : Act → Outcome
  goes a = follow (move depth [] a) [] (run library depth m)

  goes_on : (within : Bool) (mask : List ℕ) (next : State) → follow (if within then Goes (Some (event b os mask)) next else Faults CFFError) [] (run library depth m) ≡ Finishes u
      → AreAlike b os ns u (follow (if within then Goes (Some (event b ns mask)) next else Faults CFFError) [] (run library depth m))
  goes_on false mask next e = no_trace CFFError u e
  goes_on true mask next e =
      subst (AreAlike b os ns u) (sym (said_before library depth m (event b ns mask ∷ []) next))
      (alike_by b os ns mask u (run library depth m [] next) (sym (said_before library depth m (event b os mask ∷ []) next) ∙ e))

  emits : (mask : List ℕ) (r : Registers) (lead : Continuation) → goes (Does (Some (event b os mask)) r lead) ≡ Finishes u → AreAlike b os ns u (goes (Does (Some (event b ns mask)) r lead))
  emits mask r lead e = goes_on (nat_le (length (rests_after lead [])) depth) mask _ e

  -- one test for both
  either : (test : Bool) (mask : List ℕ) (r : Registers) (lead : Continuation) (error : Error) → goes (if test then Does (Some (event b os mask)) r lead else Fails error) ≡ Finishes u
      → AreAlike b os ns u (goes (if test then Does (Some (event b ns mask)) r lead else Fails error))
  either true mask r lead error e = emits mask r lead e
  either false mask r lead error e = no_trace error u e

  nested : (test inner : Bool) (mask : List ℕ) (r : Registers) (lead : Continuation) → goes (if test then (if inner then Does (Some (event b os mask)) r lead else Fails CFFError) else Fails CFFError) ≡ Finishes u
      → AreAlike b os ns u (goes (if test then (if inner then Does (Some (event b ns mask)) r lead else Fails CFFError) else Fails CFFError))
  nested true inner mask r lead e = either inner mask r lead CFFError e
  nested false inner mask r lead e = no_trace CFFError u e

  ends : (old_few new_few : Bool) → (old_few ≡ true → new_few ≡ true) → (r : Registers) → goes (if old_few then Does (Some (event b os [])) r Over else Fails Unimplemented) ≡ Finishes u
      → AreAlike b os ns u (goes (if new_few then Does (Some (event b ns [])) r Over else Fails Unimplemented))
  ends true new_few few r e = rw (few refl) (emits [] r Over e)
  ends false new_few few r e = no_trace Unimplemented u e

  -- with as many stems
  operated : (effect : Effect) (k : ℕ) (bytes : List ℕ) → effect_parity b (Some effect) ≡ Some k → (k ≡ 0 → length os / 2 ≡ length ns / 2) → (k ≡ 0 → nat_lt (length os) 4 ≡ true → nat_lt (length ns) 4 ≡ true)
      → goes (operate library (one_byte b) (Some effect) bytes (registers os)) ≡ Finishes u → AreAlike b os ns u (goes (operate library (one_byte b) (Some effect) bytes (registers ns)))
  operated CountsStems k bytes p half few e =
      let stems : List CharStringNumber → ℕ → Act = λ ops n. if nat_le (0 + n) 65535 then Does (Some (event b ops [])) (record { operands = []; stems = 0 + n; mask_len = 0 }) (On bytes) else Fails CFFError in
      subst (λ (n : ℕ). AreAlike b os ns u (goes (stems ns n))) (half (sym (same_Some 0 k p))) (either (nat_le (0 + length os / 2) 65535) [] _ (On bytes) CFFError e)
  operated Draws k bytes p half few e = emits [] _ (On bytes) e
  operated CallsLocal k bytes p half few e = absurd (none-some k p)
  operated CallsGlobal k bytes p half few e = absurd (none-some k p)
  operated Returns k bytes p half few e = absurd (none-some k p)
  operated Ends k bytes p half few e = ends (nat_lt (length os) 4) (nat_lt (length ns) 4) (few (sym (same_Some 0 k p))) _ e
  operated Masks k bytes p half few e =
      let size : ℕ → ℕ = λ n. (0 + n + 7) / 8 in
      let masks : List CharStringNumber → ℕ → Act = λ ops n.
      if nat_le (0 + n) 65535 then (if nat_le (size n) (length bytes) then Does (Some (event b ops (take (size n) bytes))) (record { operands = []; stems = 0 + n; mask_len = size n }) (On (drop (size n) bytes)) else Fails CFFError) else Fails CFFError in
      subst (λ (n : ℕ). AreAlike b os ns u (goes (masks ns n))) (half (sym (same_Some 0 k p)))
      (nested (nat_le (0 + length os / 2) 65535) (nat_le (size (length os / 2)) (length bytes)) (take (size (length os / 2)) bytes) _ (On (drop (size (length os / 2)) bytes)) e)

-- ---- one token
record IsOperator (b : ℕ) : Type 0 where
  short : eqb b 28 ≡ false
  low : nat_le 32 b ≡ false
  escape : eqb b 12 ≡ false

is_operator : (b : ℕ) (effect : Effect) → one_byte_effect b ≡ Some effect → IsOperator b
is_operator b effect e = record { short = grind (arith, nat_tests); low = grind (arith, nat_tests); escape = grind (arith, nat_tests) }

operator_acts : (library : Library) (b : ℕ) (bytes : List ℕ) (r : Registers) → IsOperator b → act_at library (b ∷ bytes) r ≡ operate library (one_byte b) (one_byte_effect b) bytes r
unfolding act_at token_of effect_of
operator_acts library b bytes r is = rw (is.short, is.low, is.escape) refl

number_first : (bytes : List ℕ) (x : CharStringNumber × List ℕ) → number_at bytes ≡ Some x → unended (bytes ∷ []) ≡ bytes ∷ []
unfolding number_at
number_first [] x e = absurd (none-some x e)
number_first (b ∷ bytes) x e = refl

module _ (library : Library) (depth : ℕ) (deep : 1 ≤ depth) where
  push_is : (m : ℕ) (bytes : List ℕ) (ops : List CharStringNumber) (x : CharStringNumber × List ℕ) → number_at bytes ≡ Some x → length ops < 48
      → run library depth (suc m) [] (one bytes (registers ops)) ≡ run library depth m [] (one x.1 (registers (ops ++ x.0 ∷ [])))
  push_is m bytes ops x e few =
      let moved : move depth [] (Does None (registers (ops ++ x.0 ∷ [])) (On x.1)) ≡ Goes None (one x.1 (registers (ops ++ x.0 ∷ []))) = rw (le-leb 1 depth deep) refl in
      run_more library depth m [] (one bytes (registers ops)) bytes [] (number_first bytes x e)
      ∙ ap (λ (st : Step). follow st [] (run library depth m)) (ap (move depth []) (act_push library bytes x.1 x.0 (registers ops) (token_number bytes x.0 x.1 e) few) ∙ moved)

  full_stops : (bytes : List ℕ) (ops : List CharStringNumber) (x : CharStringNumber × List ℕ) → number_at bytes ≡ Some x → nat_lt (length ops) 48 ≡ false → act_at library bytes (registers ops) ≡ Fails CFFError
  unfolding act_at
  full_stops bytes ops x e full = rw (token_number bytes x.0 x.1 e, full) refl

  record WasPushed (m : ℕ) (ops : List CharStringNumber) (x : CharStringNumber × List ℕ) (u : Trace) : Type 0 where
    left : ℕ
    one_less : m ≡ suc left
    few : length ops < 48
    goes_on : run library depth left [] (one x.1 (registers (ops ++ x.0 ∷ []))) ≡ Finishes u

  was_pushed : (m : ℕ) (bytes : List ℕ) (ops : List CharStringNumber) (x : CharStringNumber × List ℕ) (u : Trace) → number_at bytes ≡ Some x → run library depth m [] (one bytes (registers ops)) ≡ Finishes u → WasPushed m ops x u
  was_pushed zero bytes ops x u e r = no_trace CFFError u (sym (run_out library depth [] (one bytes (registers ops)) bytes [] (number_first bytes x e)) ∙ r)
  was_pushed (suc m) bytes ops x u e r =
      elim (cases_Bool (nat_lt (length ops) 48)) [
        | inl few ↦ (let lt = ltb-true (length ops) 48 few in record { left = m; one_less = refl; few = lt; goes_on = sym (push_is m bytes ops x e lt) ∙ r })
        | inr full ↦ no_trace CFFError u (
            ap (λ (a : Act). follow (move depth [] a) [] (run library depth m)) (sym (full_stops bytes ops x e full))
            ∙ sym (run_more library depth m [] (one bytes (registers ops)) bytes [] (number_first bytes x e)) ∙ r)
      ]

-- ---- the numbers before the first operator
record Grows (f n : ℕ) (first : FirstOperator) : Type 0 where
  more : n ≤ first.operands
  within : first.operands < n + f

grows_by : (f n : ℕ) (bytes : List ℕ) (first : FirstOperator) (o : Option (CharStringNumber × List ℕ)) → ((bytes' : List ℕ) → first_operator f (n + 1) bytes' ≡ Some first → Grows f (n + 1) first)
    → here_or_after (operator_at n bytes) (first_operator f (n + 1)) o ≡ Some first → Grows (suc f) n first
grows_by f n bytes first (Some x) ih e = let g = ih x.1 e in record { more = omega (arith, g.more); within = omega (arith, g.within) }
grows_by f n [] first None ih e = absurd (none-some first e)
grows_by f n (b ∷ bytes) first None ih e =
    let is : first.operands ≡ n = ap (λ (x : FirstOperator). x.operands) (sym (same_Some _ _ e)) in
    record { more = omega (arith, is); within = omega (arith, is) }

grows : (f n : ℕ) (bytes : List ℕ) (first : FirstOperator) → first_operator f n bytes ≡ Some first → Grows f n first
unfolding first_operator
grows zero n bytes first e = absurd (none-some first e)
grows (suc f) n bytes first e = grows_by f n bytes first (number_at bytes) (λ bytes' e'. grows f (n + 1) bytes' first e') e

module _ (library : Library) (depth : ℕ) (deep : 1 ≤ depth) (first : FirstOperator) (k base : ℕ) (old new : Option CharStringNumber)
    (takes : parity first.operator ≡ Some k) (even : (a : ℕ) → first.operands ≡ a + base → a % 2 ≡ k) (room : (a : ℕ) → a + base ≤ first.operands → length (number_list new) + a ≤ 48) where
  record Follows (m : ℕ) (bytes : List ℕ) (acc : List CharStringNumber) (u : Trace) : Type 0 where
    trace : Trace
    is : run library depth m [] (one bytes (registers (number_list new ++ acc))) ≡ Finishes trace
    differ : DifferInWidth old new u trace

  halves : (acc : List CharStringNumber) → length acc % 2 ≡ 0 → (o : Option CharStringNumber) → length (number_list o ++ acc) / 2 ≡ length acc / 2
  halves acc e None = refl
  halves acc e (Some x) = omega arith

  few : (acc : List CharStringNumber) → length acc % 2 ≡ 0 → (o p : Option CharStringNumber) → nat_lt (length (number_list o ++ acc)) 4 ≡ true → nat_lt (length (number_list p ++ acc)) 4 ≡ true
  few acc e None None h = h
  few acc e (Some x) (Some y) h = h
  few acc e (Some x) None h = lt-ltb (length acc) 4 (omega (arith, ltb-true (suc (length acc)) 4 h))
  few acc e None (Some y) h = lt-ltb (suc (length acc)) 4 (omega (arith, ltb-true (length acc) 4 h))

  -- at the first operator
  at_operator : (effect : Option Effect) (b m : ℕ) (bytes : List ℕ) (acc : List CharStringNumber) (u : Trace) → one_byte_effect b ≡ effect → effect_parity b effect ≡ Some k → length acc % 2 ≡ k → parity b ≡ Some (length acc % 2)
      → run library depth m [] (one (b ∷ bytes) (registers (number_list old ++ acc))) ≡ Finishes u → Follows m (b ∷ bytes) acc u
  at_operator None b m bytes acc u is p ev par r = absurd (none-some k p)
  at_operator (Some effect) b zero bytes acc u is p ev par r = no_trace CFFError u (sym (run_out library depth [] (one (b ∷ bytes) (registers (number_list old ++ acc))) (b ∷ bytes) [] refl) ∙ r)
  at_operator (Some effect) b (suc m) bytes acc u is p ev par r =
      let os = number_list old ++ acc in
      let ns = number_list new ++ acc in
      let acts : (ops : List CharStringNumber) → run library depth (suc m) [] (one (b ∷ bytes) (registers ops)) ≡ follow (move depth [] (operate library (one_byte b) (Some effect) bytes (registers ops))) [] (run library depth m) =
      λ ops. run_more library depth m [] (one (b ∷ bytes) (registers ops)) (b ∷ bytes) [] refl
      ∙ ap (λ (a : Act). follow (move depth [] a) [] (run library depth m)) (operator_acts library b bytes (registers ops) (is_operator b effect is) ∙ ap (λ (e : Option Effect). operate library (one_byte b) e bytes (registers ops)) is) in
      let alike = operated library depth m b os ns u effect k bytes p
      (λ z. halves acc (ev ∙ z) old ∙ sym (halves acc (ev ∙ z) new)) (λ z h. few acc (ev ∙ z) old new h) (sym (acts os) ∙ r) in
      record {
        trace = record { events = event b ns alike.mask ∷ alike.events; left = alike.left };
        is = acts ns ∙ alike.new;
        differ = record { first = b; operands = acc; mask = alike.mask; events = alike.events; left = alike.left; takes = par; one = alike.old; other = refl };
      }

  here : (n m : ℕ) (bytes : List ℕ) (acc : List CharStringNumber) (u : Trace) → operator_at n bytes ≡ Some first → n ≡ length acc + base → run library depth m [] (one bytes (registers (number_list old ++ acc))) ≡ Finishes u → Follows m bytes acc u
  unfolding parity
  here n m [] acc u e at r = absurd (none-some first e)
  here n m (b ∷ bytes) acc u e at r =
      let is : record { operands = n; operator = b } ≡ first = same_Some _ _ e in
      let count : first.operands ≡ length acc + base = sym (ap (λ (x : FirstOperator). x.operands) is) ∙ at in
      let same : first.operator ≡ b = sym (ap (λ (x : FirstOperator). x.operator) is) in
      let p : parity b ≡ Some k = sym (ap parity same) ∙ takes in
      let ev : length acc % 2 ≡ k = even (length acc) count in
      at_operator (one_byte_effect b) b m bytes acc u refl p ev (p ∙ ap Some (sym ev)) r

  following : (f n m : ℕ) (bytes : List ℕ) (acc : List CharStringNumber) (u : Trace) (x : CharStringNumber × List ℕ) → number_at bytes ≡ Some x → first_operator f (n + 1) x.1 ≡ Some first → n ≡ length acc + base
      → ((m' : ℕ) (acc' : List CharStringNumber) → n + 1 ≡ length acc' + base → run library depth m' [] (one x.1 (registers (number_list old ++ acc'))) ≡ Finishes u → Follows m' x.1 acc' u)
      → run library depth m [] (one bytes (registers (number_list old ++ acc))) ≡ Finishes u → Follows m bytes acc u
  following f n m bytes acc u x number e at ih r =
      let pushed = was_pushed library depth deep m bytes (number_list old ++ acc) x u number r in
      let count : n + 1 ≡ length (acc ++ x.0 ∷ []) + base = omega (arith, at, length-append acc (x.0 ∷ [])) in
      let go = ih pushed.left (acc ++ x.0 ∷ []) count
      (ap (λ (ops : List CharStringNumber). run library depth pushed.left [] (one x.1 (registers ops))) (sym (append_assoc (number_list old) acc (x.0 ∷ []))) ∙ pushed.goes_on) in
      let g = grows f (n + 1) x.1 first e in
      let space : length (number_list new ++ acc) < 48 = omega (arith, room (length acc + 1) (omega (arith, g.more, at)), length-append (number_list new) acc) in
      record {
        trace = go.trace;
        is =
            ap (λ (k' : ℕ). run library depth k' [] (one bytes (registers (number_list new ++ acc)))) pushed.one_less
            ∙ push_is library depth deep pushed.left bytes (number_list new ++ acc) x number space
            ∙ ap (λ (ops : List CharStringNumber). run library depth pushed.left [] (one x.1 (registers ops))) (append_assoc (number_list new) acc (x.0 ∷ []))
            ∙ go.is;
        differ = go.differ;
      }

  follows_by : (f n m : ℕ) (bytes : List ℕ) (acc : List CharStringNumber) (u : Trace) (o : Option (CharStringNumber × List ℕ)) → number_at bytes ≡ o → n ≡ length acc + base
      → ((bytes' : List ℕ) (m' : ℕ) (acc' : List CharStringNumber) → first_operator f (n + 1) bytes' ≡ Some first → n + 1 ≡ length acc' + base → run library depth m' [] (one bytes' (registers (number_list old ++ acc'))) ≡ Finishes u → Follows m' bytes' acc' u)
      → here_or_after (operator_at n bytes) (first_operator f (n + 1)) o ≡ Some first → run library depth m [] (one bytes (registers (number_list old ++ acc))) ≡ Finishes u → Follows m bytes acc u
  follows_by f n m bytes acc u None number at ih e r = here n m bytes acc u e at r
  follows_by f n m bytes acc u (Some x) number at ih e r = following f n m bytes acc u x number e at (λ m' acc' at' r'. ih x.1 m' acc' e at' r') r

  follows : (f n m : ℕ) (bytes : List ℕ) (acc : List CharStringNumber) (u : Trace) → first_operator f n bytes ≡ Some first → n ≡ length acc + base → run library depth m [] (one bytes (registers (number_list old ++ acc))) ≡ Finishes u → Follows m bytes acc u
  unfolding first_operator
  follows zero n m bytes acc u e at r = absurd (none-some first e)
  follows (suc f) n m bytes acc u e at r = follows_by f n m bytes acc u (number_at bytes) refl at (λ bytes' m' acc' e' at' r'. follows f (n + 1) m' bytes' acc' u e' at' r') e r

-- ---- the new width
short_range : (v : ℤ) → int_le (negsuc 32767) v && int_le v (pos 32767) ≡ true → FitsSigned w16 v
short_range (pos n) h = record { sfits = grind (arith, ints, nat_tests) }
short_range (negsuc n) h = record { sfits = grind (arith, ints, nat_tests) }

abbrev FitsWidth : Option CharStringNumber → Type 0
FitsWidth None = Unit {0}
FitsWidth (Some number) = NumberFits number

record IsWanted (d : Defaults) (advance : ℕ) (width : Option CharStringNumber) : Type 0 where
  says : advance_of d width ≡ Some (pos advance)
  fits : FitsWidth width

advance_is : (said : Option ℤ) (advance : ℕ) → is_advance said advance ≡ true → said ≡ Some (pos advance)
advance_is None advance h = absurd (cc)
advance_is (Some z) advance h = ap Some ((Decides-int_eq z (pos advance)).0 h)

nominal_says : (default : Option ℤ) (n : ℤ) (advance : ℕ) (width : Option CharStringNumber) (test : Bool) → int_le (negsuc 32767) (pos advance -ℤ n) && int_le (pos advance -ℤ n) (pos 32767) ≡ test
    → option_map Some (if test then Some (Integer (pos advance -ℤ n)) else None) ≡ Some width → IsWanted (record { default = default; nominal = Some n }) advance width
unfolding whole_of
nominal_says default n advance width false is e = absurd (none-some width e)
nominal_says default n advance width true is e =
    let sum : n +ℤ (pos advance -ℤ n) ≡ pos advance = omega (arith, ints) in
    subst (IsWanted (record { default = default; nominal = Some n }) advance) (same_Some _ _ e) (record { says = ap Some sum; fits = short_range (pos advance -ℤ n) is })

difference_says : (default nominal : Option ℤ) (advance : ℕ) (width : Option CharStringNumber) → option_map Some (difference nominal advance) ≡ Some width → IsWanted (record { default = default; nominal = nominal }) advance width
difference_says default None advance width e = absurd (none-some width e)
difference_says default (Some n) advance width e = nominal_says default n advance width _ refl e

wanted_by : (d : Defaults) (advance : ℕ) (width : Option CharStringNumber) (test : Bool) → is_advance d.default advance ≡ test → (if test then Some None else option_map Some (difference d.nominal advance)) ≡ Some width → IsWanted d advance width
wanted_by d advance width true is e = subst (IsWanted d advance) (same_Some _ _ e) (record { says = advance_is d.default advance is; fits = tt })
wanted_by d advance width false is e = difference_says d.default d.nominal advance width e

-- ---- how a charstring begins
-- without a width, or with the number before it as its width
data Begins (charstring : List ℕ) (o : Opening) : Type 0 where
  bare : (first : FirstOperator) (k : ℕ) → first_operator 49 0 charstring ≡ Some first → parity first.operator ≡ Some k → first.operands % 2 ≡ k
      → record { width = None; operands = first.operands; body = charstring } ≡ o → Begins charstring o
  wide : (first : FirstOperator) (k : ℕ) (x : CharStringNumber × List ℕ) → number_at charstring ≡ Some x → first_operator 48 1 x.1 ≡ Some first → parity first.operator ≡ Some k → (first.operands % 2 ≡ k → ⊥)
      → record { width = Some x.0; operands = first.operands - 1; body = x.1 } ≡ o → Begins charstring o

past_number : (charstring : List ℕ) (first : FirstOperator) (x : CharStringNumber × List ℕ) → number_at charstring ≡ Some x → first_operator 49 0 charstring ≡ Some first → first_operator 48 1 x.1 ≡ Some first
unfolding first_operator
past_number charstring first x number e = rw number at e

begins_wide : (charstring : List ℕ) (o : Opening) (first : FirstOperator) (k : ℕ) (n : Option (CharStringNumber × List ℕ)) → number_at charstring ≡ n → first_operator 49 0 charstring ≡ Some first → parity first.operator ≡ Some k → (first.operands % 2 ≡ k → ⊥)
    → option_map (λ (r : CharStringNumber × List ℕ). record { width = Some r.0; operands = first.operands - 1; body = r.1 }) n ≡ Some o → Begins charstring o
begins_wide charstring o first k None number e p odd is = absurd (none-some o is)
begins_wide charstring o first k (Some x) number e p odd is = wide first k x number (past_number charstring first x number e) p odd (same_Some _ _ is)

begins_by : (charstring : List ℕ) (o : Opening) (first : FirstOperator) (k : ℕ) (test : Bool) → (first.operands % 2 == k) ≡ test → first_operator 49 0 charstring ≡ Some first → parity first.operator ≡ Some k
    → (if test then Some (record { width = None; operands = first.operands; body = charstring }) else option_map (λ (r : CharStringNumber × List ℕ). record { width = Some r.0; operands = first.operands - 1; body = r.1 }) (number_at charstring)) ≡ Some o → Begins charstring o
begins_by charstring o first k true is e p h = bare first k e p (eqb-true (first.operands % 2) k is) (same_Some _ _ h)
begins_by charstring o first k false is e p h = begins_wide charstring o first k (number_at charstring) refl e p (eqb-false (first.operands % 2) k is) h

begins : (charstring : List ℕ) (o : Opening) → opening_of charstring ≡ Some o → Begins charstring o
unfolding opening_of
begins charstring o e =
    let a = step (first_operator 49 0 charstring) _ o e in
    let b = step (parity a.0.operator) _ o a.1.1 in
    begins_by charstring o a.0 b.0 (a.0.operands % 2 == b.0) refl a.1.0 b.1.0 b.1.1

move_below : (b k : ℕ) (first second : Bool) → (if first then Some 0 else if second then Some 1 else None) ≡ Some k → k < 2
move_below b k true second e = omega (arith, same_Some 0 k e)
move_below b k false true e = omega (arith, same_Some 1 k e)
move_below b k false false e = absurd (none-some k e)

below : (b k : ℕ) (effect : Option Effect) → effect_parity b effect ≡ Some k → k < 2
below b k None e = absurd (none-some k e)
below b k (Some CountsStems) e = omega (arith, same_Some 0 k e)
below b k (Some Draws) e = move_below b k _ _ e
below b k (Some CallsLocal) e = absurd (none-some k e)
below b k (Some CallsGlobal) e = absurd (none-some k e)
below b k (Some Returns) e = absurd (none-some k e)
below b k (Some Ends) e = omega (arith, same_Some 0 k e)
below b k (Some Masks) e = omega (arith, same_Some 0 k e)

parity_below : (b k : ℕ) → parity b ≡ Some k → k < 2
unfolding parity
parity_below b k e = below b k (one_byte_effect b) e

other_parity : (operands a k : ℕ) → operands ≡ a + 1 → k < 2 → (operands % 2 ≡ k → ⊥) → a % 2 ≡ k
other_parity operands a k at low odd =
    elim (cases_Bool (eqb (a % 2) k)) [
      | inl same ↦ eqb-true (a % 2) k same
      | inr other ↦ (let no = eqb-false (a % 2) k other in absurd (odd (omega (arith, at, low))))
    ]

-- ---- the whole
roomy : (width : Option CharStringNumber) (operands a : ℕ) → has_room width operands ≡ true → a ≤ operands → a ≤ 48 → length (number_list width) + a ≤ 48
roomy None operands a h within most = omega arith
roomy (Some x) operands a h within most = omega (arith, ltb-true operands 48 h, within)

module _ (library : Library) (tokens depth : ℕ) (deep : 1 ≤ depth) (d : Defaults) (advance : ℕ) (width : Option CharStringNumber) (says : IsWanted d advance width) where
  written_run : (w : Option CharStringNumber) → FitsWidth w → (m : ℕ) (body : List ℕ) (v : Trace) → run library depth m [] (one body (registers (number_list w ++ []))) ≡ Finishes v
      → outcome library (length (number_list w) + m) depth (width_text w ++ body) ≡ Finishes v
  unfolding outcome
  written_run None fits m body v e = let none : 0 + m ≡ m = omega arith in ap (λ (n : ℕ). outcome library n depth body) none ∙ e
  written_run (Some x) fits m body v e = let one_more : 1 + m ≡ suc m = omega arith in ap (λ (n : ℕ). outcome library n depth (written x ++ body)) one_more ∙ push_is library depth deep m (written x ++ body) [] (x, body) (read_back x body fits) (omega arith) ∙ e

  changes_by : (old : Option CharStringNumber) (m : ℕ) (body : List ℕ) (u v : Trace) → length (number_list width) + m ≤ suc tokens → run library depth m [] (one body (registers (number_list width ++ []))) ≡ Finishes v → DifferInWidth old width u v
      → ChangesWidth library tokens depth d advance (record { width = width; body = body }) u
  changes_by old m body u v enough e differ =
      let short = written_run width says.fits m body v e in
      let long = outcome_longer library (length (number_list width) + m) (suc tokens) depth depth (width_text width ++ body) v enough (omega arith) short in
      record { new = v; new_is = ap trace_of long; old_width = old; differ = differ; says = says.says }

  one_at_most : (w : Option CharStringNumber) → length (number_list w) ≤ 1
  one_at_most None = omega arith
  one_at_most (Some x) = omega arith

  changes : (charstring : List ℕ) (o : Opening) (u : Trace) → has_room width o.operands ≡ true → Begins charstring o → outcome library tokens depth charstring ≡ Finishes u → ChangesWidth library tokens depth d advance (record { width = width; body = o.body }) u
  unfolding outcome
  changes charstring o u space (bare first k e p even is) r =
      let g = grows 49 0 charstring first e in
      let operands : o.operands ≡ first.operands = sym (ap (λ (x : Opening). x.operands) is) in
      let body : o.body ≡ charstring = sym (ap (λ (x : Opening). x.body) is) in
      let even' : (a : ℕ) → first.operands ≡ a + 0 → a % 2 ≡ k = λ a at. (let same : a ≡ first.operands = omega (arith, at) in ap (λ (n : ℕ). n % 2) same ∙ even) in
      let room : (a : ℕ) → a + 0 ≤ first.operands → length (number_list width) + a ≤ 48 = λ a within. roomy width o.operands a space (omega (arith, operands)) (omega (arith, g.within)) in
      let go = follows library depth deep first k 0 None width p even' room 49 0 tokens charstring [] u e refl r in
      subst (λ (b : List ℕ). ChangesWidth library tokens depth d advance (record { width = width; body = b }) u) (sym body)
      (changes_by None tokens charstring u go.trace (omega (arith, one_at_most width)) go.is go.differ)
  changes charstring o u space (wide first k x number e p odd is) r =
      let g = grows 48 1 x.1 first e in
      let operands : o.operands ≡ first.operands - 1 = sym (ap (λ (y : Opening). y.operands) is) in
      let body : o.body ≡ x.1 = sym (ap (λ (y : Opening). y.body) is) in
      let low = parity_below first.operator k p in
      let even' : (a : ℕ) → first.operands ≡ a + 1 → a % 2 ≡ k = λ a at. other_parity first.operands a k at low odd in
      let room : (a : ℕ) → a + 1 ≤ first.operands → length (number_list width) + a ≤ 48 = λ a within. roomy width o.operands a space (omega (arith, operands)) (omega (arith, g.within)) in
      let pushed = was_pushed library depth deep tokens charstring [] x u number r in
      let go = follows library depth deep first k 1 (Some x.0) width p even' room 48 1 pushed.left x.1 [] u e refl pushed.goes_on in
      subst (λ (b : List ℕ). ChangesWidth library tokens depth d advance (record { width = width; body = b }) u) (sym body)
      (changes_by (Some x.0) pushed.left x.1 u go.trace (omega (arith, one_at_most width, pushed.one_less)) go.is go.differ)

finishes : (o : Outcome) (u : Trace) → trace_of o ≡ Some u → o ≡ Finishes u
finishes (Finishes t) u e = ap Finishes (same_Some t u e)
finishes (Stops error) u e = absurd (none-some u e)

pub traces_change : TracesChangeWidths
unfolding change_of
traces_change library tokens depth d advance charstring c u deep e t =
    let a = step (opening_of charstring) _ c e in
    let b = unless (is_advance (advance_of d a.0.width) advance) _ c a.1.1 in
    let w = step (wanted d advance) _ c b.1 in
    let x = when (has_room w.0 a.0.operands) (Some (record { width = w.0; body = a.0.body })) c w.1.1 in
    subst (λ (y : Change). ChangesWidth library tokens depth d advance y u) (same_Some _ _ x.1)
    (changes library tokens depth deep d advance w.0 (wanted_by d advance w.0 (is_advance d.default advance) refl w.1.0) charstring a.0 u x.0 (begins charstring a.0 a.1.0) (finishes (outcome library tokens depth charstring) u t))
