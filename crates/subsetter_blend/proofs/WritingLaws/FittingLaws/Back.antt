-- The charstring that is written has the rounded events of the run.
use Rattle.std.proofs.Common.{◌≡◌, ℕ, suc, ◌+◌, ◌-◌, ◌≤◌, ℤ, FitsSigned, w16, List, [], ◌∷◌, ◌++◌, length, Ok, Err, refl, sym, ap, ◌∙◌, arith, append-nil}
use Rattle.std.specs.Prelude.{Result}
use Rattle.std.proofs.lemmas.Grind.{flat_map-append}
use Rattle.subsetter_base.specs.declared.error.Error.{Error}
use Rattle.subsetter_type2.specs.Runs.Machine as type2
use Rattle.subsetter_type2.specs.Flat.{flat_operands, flat_event, flat_events, flat}
use Rattle.subsetter_type2.proofs.Replay.{one}
use Rattle.subsetter_blend.specs.Laws.{cost, IsWritten, FittingPlaysBack}
use Rattle.subsetter_blend.specs.Runs.Machine.{Setting, State, start, also, run_all, events}
use Rattle.subsetter_blend.specs.Resolved.{all_finished, resolved}
use Rattle.subsetter_blend.specs.Writing.Written.{Pen, width, Fitted, fitted, fitted_start, finished, Whole, whole_also, whole_start, endchar, written_events}
use Rattle.subsetter_blend.proofs.WritingLaws.FittingLaws.Simulated.{run_too}
use Rattle.subsetter_blend.proofs.WritingLaws.FittingLaws.Wholes.{AreSame, fitted_too, AreTaken, also_too}
use Rattle.subsetter_blend.proofs.WritingLaws.FittingLaws.Replayed.{at}
use Rattle.subsetter_blend.proofs.WritingLaws.FittingLaws.Played.{Ahead, ahead, end_run}

record Finished (o : Result Fitted Error) (bytes : List ℕ) : Type 0 where
  now : Fitted
  is : o ≡ Ok now
  bytes_are : finished now ≡ bytes

finished_of : (o : Result Fitted Error) (bytes : List ℕ) → all_finished o ≡ Ok bytes → Finished o bytes
finished_of (Ok f) bytes e = let p : finished f ≡ bytes = cc in record { now = f; is = refl; bytes_are = p }
finished_of (Err x) bytes e = absurd (cc)

cost_more : (es : List type2.Event) (e : type2.Event) → cost (es ++ e ∷ []) ≡ cost es + (length e.operands + 1)
cost_more [] e = omega arith
cost_more (d ∷ es) e = let h = cost_more es e in omega (arith, h)

-- the bytes, as those of events
finished_flat : (f : Fitted) (w : Whole) → AreSame f w → finished f ≡ flat_events w.events ++ flat_event (endchar w.pen.advance)
finished_flat f w s =
    ap (λ (b : List ℕ). b ++ (flat_operands (width f.pen.advance) ++ 14 ∷ [])) s.bytes
    ∙ ap (λ (p : Pen). flat_events w.events ++ (flat_operands (width p.advance) ++ 14 ∷ [])) s.pen

flat_written : (w : Whole) → flat_events w.events ++ flat_event (endchar w.pen.advance) ≡ flat (record { events = written_events w; left = [] })
flat_written w =
    ap (λ (b : List ℕ). flat_events w.events ++ b) (sym (append-nil (flat_event (endchar w.pen.advance))))
    ∙ sym (flat_map-append flat_event w.events (endchar w.pen.advance ∷ []))
    ∙ sym (append-nil (flat_events (written_events w)))

played : (w : Whole) (advance : ℤ) (a : Ahead (whole_start advance) w 0 0) (library : type2.Library) (n depth : ℕ) → 1 ≤ depth → cost (written_events w) ≤ n
    → type2.outcome library n depth (flat_events w.events ++ flat_event (endchar w.pen.advance)) ≡ type2.Finishes (record { events = written_events w; left = [] })
unfolding type2.outcome
played w advance a library n depth d enough =
    let last = flat_event (endchar w.pen.advance) in
    let m : ℕ = n - cost w.events - (length (width w.pen.advance) + 1) in
    let k : n ≡ cost w.events + (length (width w.pen.advance) + suc m) = omega (arith, cost_more w.events (endchar w.pen.advance)) in
    let same : w.events ≡ a.es = a.events_are in
    ap (λ (t : ℕ). type2.run library depth t [] (one (flat_events w.events ++ last) (at 0 0 []))) k
    ∙ ap (λ (es : List type2.Event). type2.run library depth (cost es + (length (width w.pen.advance) + suc m)) [] (one (flat_events es ++ last) (at 0 0 []))) same
    ∙ a.plays.by library depth (length (width w.pen.advance) + suc m) [] last d
    ∙ end_run library depth m a.stems_then a.mask_then a.es w.pen.advance d a.fits
    ∙ ap (λ (es : List type2.Event). type2.Finishes (record { events = es ++ endchar w.pen.advance ∷ []; left = [] })) (sym same)

written : (setting : Setting) (tokens depth data_index : ℕ) (advance : ℤ) (charstring bytes : List ℕ) (f : Fitted) → FitsSigned w16 advance
    → run_all fitted setting tokens depth data_index charstring (fitted_start advance) ≡ Ok f → finished f ≡ bytes → IsWritten setting tokens depth data_index advance charstring bytes
unfolding run_all events
written setting tokens depth data_index advance charstring bytes f fit ran bytes_are =
    let state : State = start data_index charstring in
    let w = run_too fitted whole_also AreSame fitted_too setting depth tokens (fitted_start advance) f (whole_start advance) state (record { bytes = refl; pen = refl }) ran in
    let es = run_too whole_also also (AreTaken whole_also (whole_start advance)) (also_too whole_also (whole_start advance)) setting depth tokens (whole_start advance) w.now [] state (record { taken = refl; accepted = tt }) w.is in
    let a = ahead setting depth tokens (whole_start advance) w.now state (fit, tt) w.is in
    let flat_is = sym bytes_are ∙ finished_flat f w.now w.holds in
    record {
      exact = es.now;
      whole = w.now;
      ran = es.is;
      rounded = es.holds.taken;
      accepted = es.holds.accepted;
      flat_is = flat_is ∙ flat_written w.now;
      plays = λ library n other_depth d enough.
          ap (λ (b : List ℕ). type2.trace library n other_depth b) flat_is ∙ ap type2.trace_of (played w.now advance a library n other_depth d enough);
    }

pub fitting_plays_back : FittingPlaysBack
unfolding resolved
fitting_plays_back setting tokens depth data_index advance charstring bytes fit h =
    let o = finished_of (run_all fitted setting tokens depth data_index charstring (fitted_start advance)) bytes h in
    written setting tokens depth data_index advance charstring bytes o.now fit o.is o.bytes_are
