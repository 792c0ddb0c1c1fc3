-- Whole events, run by the machine of Type 2 charstrings.
use Rattle.std.proofs.Common.{◌≡◌, ℕ, zero, suc, ◌+◌, ◌/◌, ◌%◌, ◌<◌, ◌≤◌, ℤ, true, List, [], ◌∷◌, ◌++◌, length, Option, Some, None, Ok, Err, refl, sym, ap, subst, ◌∙◌, arith, append_assoc, append-nil}
use Rattle.std.specs.Prelude.{Result, ◌-◌, ◌*◌, Bool, false, nat_le, if◌then◌else◌}
use Rattle.std.proofs.lemmas.Bool.{le-leb, leb-true, false≢true}
use Rattle.std.proofs.lemmas.List.{length-take-le}
use Rattle.subsetter_base.specs.declared.error.Error.{Error}
use Rattle.subsetter_base.specs.declared.error.Error.TheVariants.{CFFError}
use Rattle.subsetter_cffdata.specs.declared.numerals.charstring_number.CharStringNumber.{CharStringNumber}
use Rattle.subsetter_cffdata.specs.declared.dicts.operator.Operator.{Operator}
use Rattle.subsetter_cffdata.specs.declared.dicts.operator.OperatorType.{OperatorType}
use Rattle.subsetter_cffdata.specs.declared.dicts.operator.OperatorType.TheVariants.{OneByteOperator, TwoByteOperator}
use Rattle.subsetter_cffdata.specs.Views.{operator_of}
use Rattle.subsetter_type2.specs.declared.token.Effect.TheVariants as effect
use Rattle.subsetter_type2.specs.Runs.Machine as type2
use Rattle.subsetter_type2.specs.Flat.{flat_operands, flat_event, flat_events}
use Rattle.subsetter_type2.specs.Runs.OutputView.{AllFit}
use Rattle.subsetter_type2.specs.Token.{token_of, effect_of}
use Rattle.subsetter_type2.proofs.RunsLaws.Acts.{act_operator}
use Rattle.subsetter_type2.proofs.RunsLaws.RecursionLemmas.{unended_front}
use Rattle.subsetter_type2.proofs.Replay.{one, operands_run}
use Rattle.subsetter_type2.proofs.RunsLaws.Runs as type2_runs
use Rattle.subsetter_blend.specs.Drawing.{IsAccepted}
use Rattle.subsetter_blend.specs.Writing.Flex.{opened, opened_operator, opened_operands}
use Rattle.subsetter_blend.specs.Hint.{is_hint}
use Rattle.subsetter_blend.specs.Laws.{cost}
use Rattle.subsetter_blend.specs.Runs.Machine.{Setting, Registers, State, Act, Does, Fails, done_with, done, act_at, follow, ended, run}
use Rattle.subsetter_blend.specs.Writing.Split.{front_of, rest_of, next_cut, pieces, split}
use Rattle.subsetter_blend.specs.Writing.Taking.{Event, and_then, all_taken}
use Rattle.subsetter_blend.specs.Writing.Written.{Pen, Inked, width, may_begin, whole_piece, Whole, also_ink, whole_also_piece, whole_also, endchar}
use Rattle.subsetter_blend.proofs.RunsLaws.Runs.{run_over, run_out, run_more}
use Rattle.subsetter_blend.proofs.WritingLaws.FittingLaws.Simulated.{within_depth}
use Rattle.subsetter_blend.proofs.WritingLaws.FittingLaws.Replayed.{at, IsCounted, Loud, Class, even_hint, stems_done, class_at}
use Rattle.subsetter_blend.proofs.WritingLaws.FittingLaws.Inked.{IsInk, ink_piece}
use Rattle.subsetter_blend.proofs.WritingLaws.FittingLaws.Opening.{is_opened}
use Rattle.subsetter_blend.proofs.WritingLaws.SplitLaws.Alike.{many_of, rest_few}
use Rattle.subsetter_blend.proofs.WritingLaws.SplitLaws.Cuts.{hint_effect, cut_in_two}
use Rattle.subsetter_blend.proofs.WritingLaws.SplitLaws.Pieces.{is_cut, length_rest}

-- ---- one event
some_bytes : (library : type2.Library) (bytes : List ℕ) (r next : type2.Registers) (said : Option type2.Event) (lead : type2.Continuation) → type2.act_at library bytes r ≡ type2.Does said next lead → 0 < length bytes
unfolding type2.act_at token_of
some_bytes library [] r next said lead e = absurd (cc)
some_bytes library (b ∷ bytes) r next said lead e = omega arith

event_bytes : (e : type2.Event) (x : List ℕ) → flat_event e ++ x ≡ flat_operands e.operands ++ (operator_of e.operator ++ (e.mask ++ x))
event_bytes e x = append_assoc (flat_operands e.operands) (operator_of e.operator ++ e.mask) x ∙ ap (λ (y : List ℕ). flat_operands e.operands ++ y) (append_assoc (operator_of e.operator) e.mask x)

-- its operands and its operator
event_run : (library : type2.Library) (depth m stems mask_len : ℕ) (said : List type2.Event) (e : type2.Event) (next : type2.Registers) (lead : type2.Continuation) (x : List ℕ) → 1 ≤ depth → length e.operands ≤ 48 → AllFit e.operands
    → type2.act_at library (operator_of e.operator ++ (e.mask ++ x)) (at stems mask_len e.operands) ≡ type2.Does (Some e) next lead
    → type2.run library depth (length e.operands + suc m) said (one (flat_event e ++ x) (at stems mask_len [])) ≡ type2.follow (type2.move depth [] (type2.Does (Some e) next lead)) said (type2.run library depth m)
event_run library depth m stems mask_len said e next lead x d few fit act =
    let rest = operator_of e.operator ++ (e.mask ++ x) in
    ap (λ (y : List ℕ). type2.run library depth (length e.operands + suc m) said (one y (at stems mask_len []))) (event_bytes e x)
    ∙ operands_run library depth (suc m) said e.operands rest (at stems mask_len []) d fit (omega (arith, few))
    ∙ type2_runs.run_more library depth m said (one rest (at stems mask_len e.operands)) rest [] (unended_front rest [] (some_bytes library rest _ next (Some e) lead act))
    ∙ ap (λ (a : type2.Act). type2.follow (type2.move depth [] a) said (type2.run library depth m)) act

on_within : (depth : ℕ) (e : type2.Event) (next : type2.Registers) (x : List ℕ) → 1 ≤ depth → type2.move depth [] (type2.Does (Some e) next (type2.On x)) ≡ type2.Goes (Some e) (one x next)
on_within depth e next x d = rw (le-leb 1 depth d) refl

over_within : (depth : ℕ) (e : type2.Event) (next : type2.Registers) → type2.move depth [] (type2.Does (Some e) next type2.Over) ≡ type2.Goes (Some e) (record { rests = []; registers = next })
over_within depth e next = let z : 0 ≤ depth = omega arith in rw (le-leb 0 depth z) refl

-- ---- the events of a run
-- whole events are said from here on, and bring the plain machine from these stems and this length of a mask to others
pub record Plays (stems mask_len : ℕ) (es : List type2.Event) (stems_then mask_then : ℕ) : Type 0 where
  pub by : (library : type2.Library) (depth m : ℕ) (said : List type2.Event) (y : List ℕ) → 1 ≤ depth
      → type2.run library depth (cost es + m) said (one (flat_events es ++ y) (at stems mask_len [])) ≡ type2.run library depth m (said ++ es) (one y (at stems_then mask_then []))

pub record Ahead (w now : Whole) (stems mask_len : ℕ) : Type 0 where
  pub es : List type2.Event
  pub events_are : now.events ≡ w.events ++ es
  pub stems_then : ℕ
  pub mask_then : ℕ
  pub plays : Plays stems mask_len es stems_then mask_then
  pub fits : AllFit (width now.pen.advance)

plays_none : (stems mask_len : ℕ) → Plays stems mask_len [] stems mask_len
plays_none stems mask_len = record {
  by = λ library depth m said y d.
      let z : 0 + m ≡ m = omega arith in
      ap (λ (k : ℕ). type2.run library depth k said (one y (at stems mask_len []))) z ∙ ap (λ (es : List type2.Event). type2.run library depth m es (one y (at stems mask_len []))) (sym (append-nil said));
}

plays_more : (stems mask_len stems_next mask_next stems_then mask_then : ℕ) (e : type2.Event) (es : List type2.Event) → length e.operands ≤ 48 → AllFit e.operands
    → ((library : type2.Library) (x : List ℕ) → type2.act_at library (operator_of e.operator ++ (e.mask ++ x)) (at stems mask_len e.operands) ≡ type2.Does (Some e) (at stems_next mask_next []) (type2.On x))
    → Plays stems_next mask_next es stems_then mask_then → Plays stems mask_len (e ∷ es) stems_then mask_then
plays_more stems mask_len stems_next mask_next stems_then mask_then e es few fit act p = record {
  by = λ library depth m said y d.
      let x = flat_events es ++ y in
      let k : length e.operands + (1 + cost es) + m ≡ length e.operands + suc (cost es + m) = omega arith in
      ap (λ (n : ℕ). type2.run library depth n said (one (flat_events (e ∷ es) ++ y) (at stems mask_len []))) k
      ∙ ap (λ (b : List ℕ). type2.run library depth (length e.operands + suc (cost es + m)) said (one b (at stems mask_len []))) (append_assoc (flat_event e) (flat_events es) y)
      ∙ event_run library depth (cost es + m) stems mask_len said e (at stems_next mask_next []) (type2.On x) x d few fit (act library x)
      ∙ ap (λ (s : type2.Step). type2.follow s said (type2.run library depth (cost es + m))) (on_within depth e (at stems_next mask_next []) x d)
      ∙ p.by library depth m (said ++ e ∷ []) y d
      ∙ ap (λ (l : List type2.Event). type2.run library depth m l (one y (at stems_then mask_then []))) (append_assoc said (e ∷ []) es);
}

-- a width before the operands of stems counts no stem
half_same : (w n : ℕ) → w ≤ 1 → n % 2 ≡ 0 → (w + n) / 2 ≡ n / 2
half_same w n h e = omega arith

width_few : (a : Option ℤ) → length (width a) ≤ 1
width_few None = omega arith
width_few (Some v) = omega arith

same_operands : (e : Event) → (opened e).mask ≡ e.mask
unfolding opened
same_operands e = refl

hint_operands : (t : OperatorType) (operands : List ℤ) → is_hint t ≡ true → opened_operands t operands ≡ operands
hint_operands (OneByteOperator code) operands h = refl
hint_operands (TwoByteOperator code) operands h = absurd (cc)

opened_count : (e : Event) → is_hint e.operator.0 ≡ true → (opened e).operands ≡ e.operands
unfolding opened
opened_count e h = hint_operands e.operator.0 e.operands h

event_same : (v : type2.Event) (operator : Operator) (mask : List ℕ) → v.operator ≡ operator → v.mask ≡ mask → v ≡ record { operator = operator; operands = v.operands; mask = mask }
event_same v operator mask e f =
    let by_operator : Operator → type2.Event = λ (op : Operator). record { operator = op; operands = v.operands; mask = v.mask } in
    let by_mask : List ℕ → type2.Event = λ (m : List ℕ). record { operator = operator; operands = v.operands; mask = m } in
    ap by_operator e ∙ ap by_mask f

type_same_hint : (t : OperatorType) → is_hint (opened_operator t) ≡ is_hint t
type_same_hint (OneByteOperator code) = refl
type_same_hint (TwoByteOperator code) = refl

same_hint : (e : Event) → is_hint (opened e).operator.0 ≡ is_hint e.operator.0
unfolding opened
same_hint e = type_same_hint e.operator.0

-- ---- the pieces of an event
-- from these stems on, what is left of the event is these operands
pub record Counts (r : Registers) (e x : Event) (stems : ℕ) : Type 0 where
  pub operator : x.operator ≡ (opened e).operator
  pub mask : x.mask ≡ e.mask
  pub hint : is_hint e.operator.0 ≡ true → stems + length x.operands / 2 ≡ r.stems + length e.operands / 2
  pub even : is_hint e.operator.0 ≡ true → length x.operands % 2 ≡ 0
  pub path : is_hint e.operator.0 ≡ false → stems ≡ r.stems
  pub none : length e.operands ≡ 0 → stems ≡ r.stems

-- the last one
last_act : (r next : Registers) (e x : Event) (stems : ℕ) (pen : Pen) (i : Inked) → Loud r e next → Counts r e x stems → IsInk x pen i
    → (library : type2.Library) (y : List ℕ) → type2.act_at library (operator_of i.event.operator ++ (i.event.mask ++ y)) (at stems r.mask_len i.event.operands) ≡ type2.Does (Some i.event) (at next.stems next.mask_len []) (type2.On y)
last_act r next e x stems pen i loud c ink library y =
    let counted : IsCounted r e stems (length i.event.operands) = record {
      hint = λ h. ap (λ (n : ℕ). stems + n) (ap (λ (n : ℕ). n / 2) ink.many ∙ half_same (length (width pen.advance)) (length x.operands) (width_few pen.advance) (c.even h)) ∙ c.hint h;
      path = c.path;
      none = c.none;
    } in
    let event : i.event ≡ record { operator = (opened e).operator; operands = i.event.operands; mask = e.mask } =
    event_same i.event (opened e).operator e.mask (ink.operator ∙ c.operator) (ink.mask ∙ c.mask) in
    subst (λ (v : type2.Event). type2.act_at library (operator_of v.operator ++ (v.mask ++ y)) (at stems r.mask_len i.event.operands) ≡ type2.Does (Some v) (at next.stems next.mask_len []) (type2.On y)) (sym event) (loud.again library y stems i.event.operands counted)

-- one that others follow
abbrev stems_past : Bool → ℕ → ℕ → ℕ
stems_past true stems n = stems + n / 2
stems_past false stems n = stems

front_event : (operator : Operator) (numbers : List CharStringNumber) (hint : Bool) (stems mask_len : ℕ) → effect_of operator ≡ hint_effect hint → (hint ≡ true → stems + length numbers / 2 ≤ 65535)
    → (library : type2.Library) (y : List ℕ) → type2.act_at library (operator_of operator ++ ([] ++ y)) (at stems mask_len numbers) ≡ type2.Does (Some (record { operator = operator; operands = numbers; mask = [] })) (at (stems_past hint stems (length numbers)) mask_len []) (type2.On y)
front_event operator numbers true stems mask_len e few library y =
    act_operator library operator effect.CountsStems y (at stems mask_len numbers) e
    ∙ stems_done operator y numbers stems mask_len (stems + length numbers / 2) refl (le-leb (stems + length numbers / 2) 65535 (few refl))
front_event operator numbers false stems mask_len e few library y = act_operator library operator effect.Draws y (at stems mask_len numbers) e

front_act : (x : Event) (hint : Bool) (stems mask_len : ℕ) (pen : Pen) (i : Inked) → IsInk x pen i → x.mask ≡ [] → effect_of x.operator ≡ hint_effect hint → (hint ≡ true → stems + length i.event.operands / 2 ≤ 65535)
    → (library : type2.Library) (y : List ℕ) → type2.act_at library (operator_of i.event.operator ++ (i.event.mask ++ y)) (at stems mask_len i.event.operands) ≡ type2.Does (Some i.event) (at (stems_past hint stems (length i.event.operands)) mask_len []) (type2.On y)
front_act x hint stems mask_len pen i ink none e few library y =
    let event : i.event ≡ record { operator = x.operator; operands = i.event.operands; mask = [] } = event_same i.event x.operator [] ink.operator (ink.mask ∙ none) in
    subst (λ (v : type2.Event). type2.act_at library (operator_of v.operator ++ (v.mask ++ y)) (at stems mask_len i.event.operands) ≡ type2.Does (Some v) (at (stems_past hint stems (length i.event.operands)) mask_len []) (type2.On y)) (sym event) (front_event x.operator i.event.operands hint stems mask_len e few library y)

counted_on : (stems w k n total : ℕ) → w ≤ 1 → k % 2 ≡ 0 → n % 2 ≡ 0 → k ≤ n → stems + n / 2 ≡ total → stems + (w + k) / 2 + (n - k) / 2 ≡ total
counted_on stems w k n total w1 k2 n2 less e = omega (arith, w1, k2, n2, less, e)

few_counted : (stems w k n total : ℕ) → w ≤ 1 → k % 2 ≡ 0 → k ≤ n → stems + n / 2 ≡ total → total ≤ 65535 → stems + (w + k) / 2 ≤ 65535
few_counted stems w k n total w1 k2 less e few = omega (arith, w1, k2, less, e, few)

some_operands : (stems before n m : ℕ) → 48 ≤ n → stems + n / 2 ≡ before + m / 2 → (m ≡ 0 → stems ≡ before) → m ≡ 0 → ⊥
some_operands stems before n m long e none z = let s = none z in absurd (omega (arith, long, e, z, s))

even_less : (n k : ℕ) → n % 2 ≡ 0 → k % 2 ≡ 0 → k ≤ n → (n - k) % 2 ≡ 0
even_less n k a b less = omega (arith, a, b, less)

-- what is left after a piece
rest_counts : (r : Registers) (e x : Event) (stems w l k : ℕ) (hint : Bool) → is_hint e.operator.0 ≡ hint → Counts r e x stems → w ≤ 1 → l ≡ w + k → 48 ≤ length x.operands → k ≤ 47 → (hint ≡ true → k % 2 ≡ 0)
    → Counts r e (rest_of k x) (stems_past hint stems l)
rest_counts r e x stems w l k true is c w1 l_is long high even = record {
  operator = c.operator;
  mask = c.mask;
  hint = λ h.
      ap (λ (n : ℕ). stems + l / 2 + n / 2) (length_rest k x) ∙ ap (λ (n : ℕ). stems + n / 2 + (length x.operands - k) / 2) l_is
      ∙ counted_on stems w k (length x.operands) _ w1 (even refl) (c.even is) (omega (arith, long, high)) (c.hint is);
  even = λ h. ap (λ (n : ℕ). n % 2) (length_rest k x) ∙ even_less (length x.operands) k (c.even is) (even refl) (omega (arith, long, high));
  path = λ h. absurd (false≢true (sym h ∙ is));
  none = λ z. absurd (some_operands stems r.stems (length x.operands) (length e.operands) long (c.hint is) c.none z);
}
rest_counts r e x stems w l k false is c w1 l_is long high even = record {
  operator = c.operator;
  mask = c.mask;
  hint = λ h. absurd (false≢true (sym is ∙ h));
  even = λ h. absurd (false≢true (sym is ∙ h));
  path = c.path;
  none = c.none;
}

one_more : (w now v : Whole) (stems mask_len stems_next mask_next : ℕ) (i : Inked) → ◌≡◌ {A = Whole} (record { events = w.events ++ i.event ∷ []; pen = i.pen }) v → length i.event.operands ≤ 48 → AllFit i.event.operands
    → ((library : type2.Library) (y : List ℕ) → type2.act_at library (operator_of i.event.operator ++ (i.event.mask ++ y)) (at stems mask_len i.event.operands) ≡ type2.Does (Some i.event) (at stems_next mask_next []) (type2.On y))
    → Ahead v now stems_next mask_next → Ahead w now stems mask_len
one_more w now v stems mask_len stems_next mask_next i same few fit act a = record {
  es = i.event ∷ a.es;
  events_are = a.events_are ∙ ap (λ (x : Whole). x.events ++ a.es) (sym same) ∙ append_assoc w.events (i.event ∷ []) a.es;
  stems_then = a.stems_then;
  mask_then = a.mask_then;
  plays = plays_more stems mask_len stems_next mask_next a.stems_then a.mask_then i.event a.es few fit act a.plays;
  fits = a.fits;
}

module _ (r next : Registers) (e : Event) (loud : Loud r e next) (now : Whole) where
  last_ahead : (x : Event) (stems : ℕ) (w v : Whole) (o : Result Inked Error) → whole_piece x w.pen ≡ o → Counts r e x stems → length (width w.pen.advance) + length x.operands ≤ 48 → AllFit (width w.pen.advance)
      → and_then (also_ink w.events o) (all_taken whole_also_piece []) ≡ Ok v → (AllFit (width v.pen.advance) → Ahead v now next.stems next.mask_len) → Ahead w now stems r.mask_len
  last_ahead x stems w v (Err y) i c few fit h more = absurd (cc)
  last_ahead x stems w v (Ok ink) i c few fit h more =
      let k = ink_piece x w.pen ink i in
      let same : ◌≡◌ {A = Whole} (record { events = w.events ++ ink.event ∷ []; pen = ink.pen }) v = cc in
      let none : AllFit (width v.pen.advance) = subst (λ (y : Whole). AllFit (width y.pen.advance)) same (subst (λ (a : Option ℤ). AllFit (width a)) (sym k.advance) tt) in
      one_more w now v stems r.mask_len next.stems next.mask_len ink same (omega (arith, k.many, few)) (k.fit fit) (last_act r next e x stems w.pen ink loud c k) (more none)

  front_ahead : (x : Event) (xs : List Event) (hint : Bool) (stems : ℕ) (w v : Whole) (o : Result Inked Error) → whole_piece (front_of (next_cut x) x) w.pen ≡ o → is_hint e.operator.0 ≡ hint → IsAccepted x → Counts r e x stems
      → 48 < length (width w.pen.advance) + length x.operands → AllFit (width w.pen.advance)
      → and_then (also_ink w.events o) (all_taken whole_also_piece xs) ≡ Ok v
      → ((u : Whole) (stems : ℕ) → u.pen.advance ≡ None → Counts r e (rest_of (next_cut x) x) stems → IsAccepted (rest_of (next_cut x) x) → all_taken whole_also_piece xs u ≡ Ok v → Ahead u now stems r.mask_len)
      → Ahead w now stems r.mask_len
  front_ahead x xs hint stems w v (Err y) i is a c many fit h more = absurd (cc)
  front_ahead x xs hint stems w v (Ok ink) i is a c many fit h more =
      let k = next_cut x in
      let front = front_of k x in
      let u : Whole = record { events = w.events ++ ink.event ∷ []; pen = ink.pen } in
      let n = length (width w.pen.advance) in
      let one = width_few w.pen.advance in
      let long : 48 ≤ length x.operands = omega (arith, one, many) in
      let two = cut_in_two x long a in
      let high = (is_cut x.operator.0 (length x.operands)).high in
      let ink_is = ink_piece front w.pen ink i in
      let same : is_hint x.operator.0 ≡ hint = ap (λ (op : Operator). is_hint op.0) c.operator ∙ same_hint e ∙ is in
      let l : length ink.event.operands ≡ n + k = ink_is.many ∙ ap (λ (m : ℕ). n + m) (length-take-le k x.operands (omega (arith, long, high))) in
      let even : hint ≡ true → k % 2 ≡ 0 = λ t. two.even (same ∙ t) in
      let few : hint ≡ true → stems + length ink.event.operands / 2 ≤ 65535 = λ t.
      subst (λ (m : ℕ). stems + m / 2 ≤ 65535) (sym l)
      (few_counted stems n k (length x.operands) _ one (even t) (omega (arith, long, high)) (c.hint (is ∙ t)) (loud.few (is ∙ t) (some_operands stems r.stems (length x.operands) (length e.operands) long (c.hint (is ∙ t)) c.none))) in
      one_more w now u stems r.mask_len (stems_past hint stems (length ink.event.operands)) r.mask_len ink refl (omega (arith, l, one, high)) (ink_is.fit fit)
      (front_act front hint stems r.mask_len w.pen ink ink_is refl (two.effect ∙ ap hint_effect same) few)
      (more u (stems_past hint stems (length ink.event.operands)) ink_is.advance (rest_counts r e x stems n (length ink.event.operands) k hint is c one l long high even) two.rest h)

  by_fit : (b : Bool) (x : Event) (xs : List Event) (stems : ℕ) (w v : Whole) → nat_le (length (width w.pen.advance) + length x.operands) 48 ≡ b → IsAccepted x → Counts r e x stems → AllFit (width w.pen.advance)
      → all_taken whole_also_piece (if b then x ∷ [] else front_of (next_cut x) x ∷ xs) w ≡ Ok v → (AllFit (width v.pen.advance) → Ahead v now next.stems next.mask_len)
      → (48 < length (width w.pen.advance) + length x.operands → (u : Whole) (stems : ℕ) → u.pen.advance ≡ None → Counts r e (rest_of (next_cut x) x) stems → IsAccepted (rest_of (next_cut x) x) → all_taken whole_also_piece xs u ≡ Ok v → Ahead u now stems r.mask_len)
      → Ahead w now stems r.mask_len
  by_fit true x xs stems w v t a c fit h over more = last_ahead x stems w v (whole_piece x w.pen) refl c (leb-true (length (width w.pen.advance) + length x.operands) 48 t) fit h over
  by_fit false x xs stems w v t a c fit h over more =
      let many = many_of (length (width w.pen.advance) + length x.operands) t in
      front_ahead x xs (is_hint e.operator.0) stems w v (whole_piece (front_of (next_cut x) x) w.pen) refl refl a c many fit h (more many)

  no_width : (a : Option ℤ) → a ≡ None → length (width a) ≡ 0
  no_width a z = ap (λ (b : Option ℤ). length (width b)) z

  pub pieces_ahead : (f width_len : ℕ) (x : Event) (stems : ℕ) (w v : Whole) → length (width w.pen.advance) ≡ width_len → width_len + length x.operands ≤ 48 + 40 * f → IsAccepted x → Counts r e x stems → AllFit (width w.pen.advance)
      → all_taken whole_also_piece (pieces f width_len x) w ≡ Ok v → (AllFit (width v.pen.advance) → Ahead v now next.stems next.mask_len) → Ahead w now stems r.mask_len
  unfolding pieces
  pieces_ahead zero width_len x stems w v z enough a c fit h over = last_ahead x stems w v (whole_piece x w.pen) refl c (omega (arith, z, enough)) fit h over
  pieces_ahead (suc f) width_len x stems w v z enough a c fit h over =
      by_fit (nat_le (width_len + length x.operands) 48) x (pieces f 0 (rest_of (next_cut x) x)) stems w v (ap (λ (n : ℕ). nat_le (n + length x.operands) 48) z) a c fit h over
      (λ many u s none counts accepted k.
      pieces_ahead f 0 (rest_of (next_cut x) x) s u v (no_width u.pen.advance none)
      (rest_few (length x.operands) f (next_cut x) (length (rest_of (next_cut x) x).operands) width_len (is_cut x.operator.0 (length x.operands)).low (length_rest (next_cut x) x) enough)
      accepted counts (subst (λ (o : Option ℤ). AllFit (width o)) (sym none) tt) k over)

if_stands : (b : Bool) (o : Result Whole Error) (v : Whole) → (if b then o else Err CFFError) ≡ Ok v → o ≡ Ok v
if_stands true o v h = h
if_stands false o v h = absurd (cc)

start_counts : (r next : Registers) (e : Event) → Loud r e next → Counts r e (opened e) r.stems
start_counts r next e loud = record {
  operator = refl;
  mask = same_operands e;
  hint = λ h. ap (λ (l : List ℤ). r.stems + length l / 2) (opened_count e h);
  even = λ h. ap (λ (l : List ℤ). length l % 2) (opened_count e h) ∙ even_hint e.operator (length e.operands) h loud.accepted;
  path = λ h. refl;
  none = λ h. refl;
}

module _ (setting : Setting) (depth : ℕ) where
  over_ahead : (w now : Whole) (r : Registers) (operands : List ℤ) → AllFit (width w.pen.advance) → ended w operands ≡ Ok now → Ahead w now r.stems r.mask_len
  over_ahead w now r [] fit h =
      let p : ◌≡◌ {A = Whole} w now = cc in
      subst (λ (x : Whole). Ahead w x r.stems r.mask_len) p (record { es = []; events_are = sym (append-nil w.events); stems_then = r.stems; mask_then = r.mask_len; plays = plays_none r.stems r.mask_len; fits = fit })
  over_ahead w now r (z ∷ zs) fit h = absurd (cc)

  module _ (n : ℕ) (ih : (w now : Whole) (state : State) → AllFit (width w.pen.advance) → run whole_also setting depth n w state ≡ Ok now → Ahead w now state.registers.stems state.registers.mask_len) where
    said_ahead : (r next : Registers) (e : Event) (lead : type2.Continuation) (callers : List (List ℕ)) (w now : Whole) (o : Result Whole Error) → whole_also e w ≡ o → Loud r e next → AllFit (width w.pen.advance)
        → follow depth callers (done_with next lead o) (run whole_also setting depth n) ≡ Ok now → Ahead w now r.stems r.mask_len
    said_ahead r next e lead callers w now (Err x) i loud fit h = absurd (cc)
    said_ahead r next e lead callers w now (Ok v) i loud fit h =
        let state : State = record { rests = type2.rests_after lead callers; registers = next } in
        let go = (within_depth (nat_le (length (type2.rests_after lead callers)) depth) (run whole_also setting depth n v state) now h).1 in
        let one = width_few w.pen.advance in
        pieces_ahead r next e loud now (length (opened e).operands) (length (width w.pen.advance)) (opened e) r.stems w v refl (omega (arith, one)) (is_opened e loud.accepted).accepted (start_counts r next e loud) fit
        (if_stands (may_begin w.pen.advance e.operator.0) (all_taken whole_also_piece (split (length (width w.pen.advance)) (opened e)) w) v i) (λ fits. ih v now state fits go)

    act_ahead : (r : Registers) (a : Act) (callers : List (List ℕ)) (w now : Whole) → Class r a → AllFit (width w.pen.advance) → follow depth callers (done whole_also a w) (run whole_also setting depth n) ≡ Ok now → Ahead w now r.stems r.mask_len
    act_ahead r (Fails error) callers w now c fit h = absurd (cc)
    act_ahead r (Does None next lead) callers w now c fit h =
        let state : State = record { rests = type2.rests_after lead callers; registers = next } in
        let a = ih w now state fit (within_depth (nat_le (length (type2.rests_after lead callers)) depth) (run whole_also setting depth n w state) now h).1 in
        subst (λ (s : ℕ). Ahead w now s r.mask_len) c.0 (subst (λ (k : ℕ). Ahead w now next.stems k) c.1 a)
    act_ahead r (Does (Some e) next lead) callers w now c fit h = said_ahead r next e lead callers w now (whole_also e w) refl c fit h

    suc_ahead : (w now : Whole) (state : State) (rests : List (List ℕ)) → type2.unended state.rests ≡ rests → AllFit (width w.pen.advance) → run whole_also setting depth (suc n) w state ≡ Ok now → Ahead w now state.registers.stems state.registers.mask_len
    suc_ahead w now state [] e fit h = over_ahead w now state.registers state.registers.operands fit (sym (run_over whole_also setting depth (suc n) w state e) ∙ h)
    suc_ahead w now state (bytes ∷ callers) e fit h =
        act_ahead state.registers (act_at setting bytes state.registers) callers w now (class_at setting bytes state.registers) fit (sym (run_more whole_also setting depth n w state bytes callers e) ∙ h)

  zero_ahead : (w now : Whole) (state : State) (rests : List (List ℕ)) → type2.unended state.rests ≡ rests → AllFit (width w.pen.advance) → run whole_also setting depth zero w state ≡ Ok now → Ahead w now state.registers.stems state.registers.mask_len
  zero_ahead w now state [] e fit h = over_ahead w now state.registers state.registers.operands fit (sym (run_over whole_also setting depth zero w state e) ∙ h)
  zero_ahead w now state (bytes ∷ callers) e fit h =
      let f : Err CFFError ≡ Ok now = sym (run_out whole_also setting depth w state bytes callers e) ∙ h in
      absurd (cc)

  pub ahead : (n : ℕ) (w now : Whole) (state : State) → AllFit (width w.pen.advance) → run whole_also setting depth n w state ≡ Ok now → Ahead w now state.registers.stems state.registers.mask_len
  ahead zero w now state fit h = zero_ahead w now state (type2.unended state.rests) refl fit h
  ahead (suc n) w now state fit h = suc_ahead n (λ w' now' state' fit' h'. ahead n w' now' state' fit' h') w now state (type2.unended state.rests) refl fit h

-- ---- the last one
end_act : (library : type2.Library) (advance : Option ℤ) (stems mask_len : ℕ) (numbers : List CharStringNumber) → numbers ≡ width advance
    → type2.act_at library (operator_of (endchar advance).operator ++ ([] ++ [])) (at stems mask_len numbers) ≡ type2.Does (Some (record { operator = (endchar advance).operator; operands = numbers; mask = [] })) (at stems mask_len []) type2.Over
unfolding effect_of
end_act library None stems mask_len numbers e = act_operator library (endchar None).operator effect.Ends [] (at stems mask_len numbers) refl ∙ rw e refl
end_act library (Some v) stems mask_len numbers e = act_operator library (endchar (Some v)).operator effect.Ends [] (at stems mask_len numbers) refl ∙ rw e refl

pub end_run : (library : type2.Library) (depth m stems mask_len : ℕ) (said : List type2.Event) (advance : Option ℤ) → 1 ≤ depth → AllFit (width advance)
    → type2.run library depth (length (width advance) + suc m) said (one (flat_event (endchar advance)) (at stems mask_len [])) ≡ type2.Finishes (record { events = said ++ endchar advance ∷ []; left = [] })
end_run library depth m stems mask_len said advance d fit =
    ap (λ (b : List ℕ). type2.run library depth (length (width advance) + suc m) said (one b (at stems mask_len []))) (sym (append-nil (flat_event (endchar advance))))
    ∙ event_run library depth m stems mask_len said (endchar advance) (at stems mask_len []) type2.Over [] d (omega (arith, width_few advance)) fit (end_act library advance stems mask_len (width advance) refl)
    ∙ ap (λ (s : type2.Step). type2.follow s said (type2.run library depth m)) (over_within depth (endchar advance) (at stems mask_len []))
    ∙ type2_runs.run_over library depth m (said ++ endchar advance ∷ []) (record { rests = []; registers = at stems mask_len [] }) refl
