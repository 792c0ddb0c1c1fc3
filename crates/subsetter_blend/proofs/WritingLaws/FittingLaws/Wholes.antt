-- Whole events as bytes, and the exact events that they are of.
use Rattle.std.proofs.Common.{◌≡◌, ℕ, Bool, true, false, length, List, [], ◌∷◌, ◌++◌, Ok, Err, refl, sym, ap, subst, ◌∙◌, append-nil}
use Rattle.std.specs.Prelude.{Result, if◌then◌else◌}
use Rattle.std.proofs.lemmas.Grind.{flat_map-append}
use Rattle.subsetter_base.specs.declared.error.Error.{Error}
use Rattle.subsetter_base.specs.declared.error.Error.TheVariants.{CFFError}
use Rattle.subsetter_type2.specs.Runs.Machine as type2
use Rattle.subsetter_type2.specs.Flat.{flat_event, flat_events}
use Rattle.subsetter_blend.specs.Drawing.{IsAccepted, AreAccepted}
use Rattle.subsetter_blend.specs.Writing.Flex.{opened}
use Rattle.subsetter_blend.specs.Runs.Machine.{also}
use Rattle.subsetter_blend.specs.Writing.Split.{split}
use Rattle.subsetter_blend.specs.Writing.Taking.{Event, and_then, all_taken}
use Rattle.subsetter_blend.specs.Writing.Written.{Pen, Inked, width, may_begin, whole_piece, in_pieces, Fitted, with_ink, fitted_piece, fitted, Whole, also_ink, whole_also_piece, whole_also}
use Rattle.subsetter_blend.proofs.WritingLaws.FittingLaws.Simulated.{Too}

-- the bytes are those of the whole events
pub record AreSame (f : Fitted) (w : Whole) : Type 0 where
  pub bytes : f.bytes ≡ flat_events w.events
  pub pen : f.pen ≡ w.pen

flat_more : (events : List type2.Event) (e : type2.Event) → flat_events events ++ flat_event e ≡ flat_events (events ++ e ∷ [])
flat_more events e = ap (λ (b : List ℕ). flat_events events ++ b) (sym (append-nil (flat_event e))) ∙ sym (flat_map-append flat_event events (e ∷ []))

ink_too : (x : Event) (f now : Fitted) (w : Whole) (o : Result Inked Error) → whole_piece x f.pen ≡ o → AreSame f w → with_ink f.bytes o ≡ Ok now → Too (whole_also_piece x w) (AreSame now)
ink_too x f now w (Err e) i r h = absurd (cc)
ink_too x f now w (Ok ink) i r h =
    let p : ◌≡◌ {A = Fitted} (record { bytes = f.bytes ++ flat_event ink.event; pen = ink.pen }) now = cc in
    let inked : whole_piece x w.pen ≡ Ok ink = ap (whole_piece x) (sym r.pen) ∙ i in
    let bytes : f.bytes ++ flat_event ink.event ≡ flat_events (w.events ++ ink.event ∷ []) = ap (λ (b : List ℕ). b ++ flat_event ink.event) r.bytes ∙ flat_more w.events ink.event in
    record {
      now = record { events = w.events ++ ink.event ∷ []; pen = ink.pen };
      is = ap (also_ink w.events) inked;
      holds = subst (λ (y : Fitted). AreSame y (record { events = w.events ++ ink.event ∷ []; pen = ink.pen })) p (record { bytes = bytes; pen = refl });
    }

-- pieces, one after the other
then_too : (xs : List Event) (now : Fitted) (o : Result Fitted Error) (p : Result Whole Error) → ((g : Fitted) → o ≡ Ok g → Too p (AreSame g))
    → ((g : Fitted) (v : Whole) → AreSame g v → all_taken fitted_piece xs g ≡ Ok now → Too (all_taken whole_also_piece xs v) (AreSame now))
    → and_then o (all_taken fitted_piece xs) ≡ Ok now → Too (and_then p (all_taken whole_also_piece xs)) (AreSame now)
then_too xs now (Err e) p one ih h = absurd (cc)
then_too xs now (Ok g) p one ih h =
    let first = one g refl in
    let rest = ih g first.now first.holds h in
    record { now = rest.now; is = ap (λ (q : Result Whole Error). and_then q (all_taken whole_also_piece xs)) first.is ∙ rest.is; holds = rest.holds }

pieces_too : (xs : List Event) (f now : Fitted) (w : Whole) → AreSame f w → all_taken fitted_piece xs f ≡ Ok now → Too (all_taken whole_also_piece xs w) (AreSame now)
pieces_too [] f now w r h =
    let p : ◌≡◌ {A = Fitted} f now = cc in
    record { now = w; is = refl; holds = subst (λ (y : Fitted). AreSame y w) p r }
pieces_too (x ∷ xs) f now w r h =
    then_too xs now (fitted_piece x f) (whole_also_piece x w) (λ g e. ink_too x f g w (whole_piece x f.pen) refl r e) (λ g v s k. pieces_too xs g now v s k) h

if_too : (b : Bool) (xs : List Event) (f now : Fitted) (w : Whole) → AreSame f w → (if b then all_taken fitted_piece xs f else Err CFFError) ≡ Ok now → Too (if b then all_taken whole_also_piece xs w else Err CFFError) (AreSame now)
if_too true xs f now w r h = pieces_too xs f now w r h
if_too false xs f now w r h = absurd (cc)

pub fitted_too : (e : Event) (f now : Fitted) (w : Whole) → IsAccepted e → AreSame f w → fitted e f ≡ Ok now → Too (whole_also e w) (AreSame now)
fitted_too e f now w a r h =
    subst (λ (p : Pen). Too (in_pieces whole_also_piece p e w) (AreSame now)) r.pen
    (if_too (may_begin f.pen.advance e.operator.0) (split (length (width f.pen.advance)) (opened e)) f now w r h)

accepted_more : (es : List Event) (e : Event) → AreAccepted es → IsAccepted e → AreAccepted (es ++ e ∷ [])
accepted_more [] e all a = (a, tt)
accepted_more (d ∷ es) e all a = (all.0, accepted_more es e all.1 a)

module _ {S : Type 0} (take : Event → S → Result S Error) (start : S) where
  -- accepted events lead there
  pub record AreTaken (s : S) (es : List Event) : Type 0 where
    pub taken : all_taken take es start ≡ Ok s
    pub accepted : AreAccepted es

  and_none : (o : Result S Error) → and_then o (all_taken take []) ≡ o
  and_none (Ok s) = refl
  and_none (Err x) = refl

  then_more : (es : List Event) (e : Event) → ((s : S) → all_taken take (es ++ e ∷ []) s ≡ and_then (all_taken take es s) (take e))
      → (o : Result S Error) → and_then o (all_taken take (es ++ e ∷ [])) ≡ and_then (and_then o (all_taken take es)) (take e)
  then_more es e ih (Ok s) = ih s
  then_more es e ih (Err x) = refl

  taken_more : (es : List Event) (e : Event) (s : S) → all_taken take (es ++ e ∷ []) s ≡ and_then (all_taken take es s) (take e)
  taken_more [] e s = and_none (take e s)
  taken_more (d ∷ es) e s = then_more es e (λ t. taken_more es e t) (take d s)

  pub also_too : (e : Event) (s now : S) (es : List Event) → IsAccepted e → AreTaken s es → take e s ≡ Ok now → Too (also e es) (AreTaken now)
  also_too e s now es a r h =
      record {
        now = es ++ e ∷ [];
        is = refl;
        holds = record { taken = taken_more es e start ∙ ap (λ (o : Result S Error). and_then o (take e)) r.taken ∙ h; accepted = accepted_more es e r.accepted a };
      }
