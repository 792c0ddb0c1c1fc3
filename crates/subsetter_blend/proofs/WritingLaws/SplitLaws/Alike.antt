-- An operator that is split draws the same, and has the same stems.
use Rattle.std.proofs.Common.{◌≡◌, ℕ, zero, suc, ◌+◌, ◌-◌, ◌*◌, ◌<◌, ◌≤◌, ℤ, Bool, true, false, List, [], ◌∷◌, ◌++◌, length, take, refl, sym, ap, ◌∙◌, arith, append-nil, length-take}
use Rattle.std.specs.Prelude.{nat_le, if◌then◌else◌}
use Rattle.std.proofs.lemmas.Bool.{leb-true}
use Rattle.std.proofs.lemmas.Bool.Decides.{nat_tests}
use Rattle.subsetter_blend.specs.declared.writing.placing.Position.{Position}
use Rattle.subsetter_blend.specs.Drawing.{IsAccepted, AreAccepted, event_drawn, events_drawn}
use Rattle.subsetter_blend.specs.Drawn.{Segment, point_after}
use Rattle.subsetter_blend.specs.Laws.{SplitsAlike}
use Rattle.subsetter_blend.specs.Writing.Marks.{Mark, event_marks, all_marks}
use Rattle.subsetter_blend.specs.Writing.Split.{front_of, rest_of, next_cut, pieces}
use Rattle.subsetter_blend.specs.Writing.Stems.{AreFew, stems_of, all_stems}
use Rattle.subsetter_blend.specs.Writing.Taking.{Event}
use Rattle.subsetter_blend.proofs.WritingLaws.SplitLaws.Cuts.{cut_in_two}
use Rattle.subsetter_blend.proofs.WritingLaws.SplitLaws.Pieces.{is_cut, length_rest}
use Rattle.subsetter_blend.proofs.WritingLaws.SplitLaws.Said.{says_parted}
use Rattle.subsetter_blend.proofs.WritingLaws.SplitLaws.Stemmed.{stems_parted}

-- these events are the one in pieces
pub record ArePieces (width : ℕ) (e : Event) (es : List Event) : Type 0 where
  pub few : AreFew width es
  pub accepted : AreAccepted es
  pub draws : (at : Position) → events_drawn at es ≡ event_drawn e at
  pub stems : (vertical : Bool) → all_stems vertical es ≡ stems_of vertical e
  pub says : (at : Position) → all_marks at es ≡ event_marks e at

one_piece : (width : ℕ) (e : Event) → width + length e.operands ≤ 48 → IsAccepted e → ArePieces width e (e ∷ [])
one_piece width e few a = record {
  few = (few, tt);
  accepted = (a, tt);
  draws = λ at. append-nil (event_drawn e at);
  stems = λ vertical. append-nil (stems_of vertical e);
  says = λ at. append-nil (event_marks e at);
}

pub many_of : (n : ℕ) → nat_le n 48 ≡ false → 48 < n
many_of n h = grind (arith, nat_tests)

long_of : (width n : ℕ) → width ≤ 1 → 48 < width + n → 48 ≤ n
long_of width n w h = omega (arith, w, h)

front_few : (width k l : ℕ) → width ≤ 1 → k ≤ 47 → l ≤ k → width + l ≤ 48
front_few width k l w h f = omega (arith, w, h, f)

by_fit : (b : Bool) (width : ℕ) (e : Event) (es : List Event) → nat_le (width + length e.operands) 48 ≡ b → width ≤ 1 → IsAccepted e
    → (48 < width + length e.operands → ArePieces 0 (rest_of (next_cut e) e) es) → ArePieces width e (if b then e ∷ [] else front_of (next_cut e) e ∷ es)
by_fit true width e es h w a more = one_piece width e (leb-true (width + length e.operands) 48 h) a
by_fit false width e es h w a more =
    let many = many_of (width + length e.operands) h in
    let c = cut_in_two e (long_of width (length e.operands) w many) a in
    let k = next_cut e in
    let m = more many in
    record {
      few = (front_few width k (length (take k e.operands)) w (is_cut e.operator.0 (length e.operands)).high (omega (arith, length-take k e.operands)), m.few);
      accepted = (c.front, m.accepted);
      draws = λ at. ap (λ (s : List Segment). event_drawn (front_of k e) at ++ s) (m.draws (point_after at (event_drawn (front_of k e) at))) ∙ sym (c.draws at);
      stems = λ vertical. ap (λ (s : List ℤ). stems_of vertical (front_of k e) ++ s) (m.stems vertical) ∙ sym (stems_parted vertical k e);
      says = λ at. ap (λ (l : List Mark). event_marks (front_of k e) at ++ l) (m.says (point_after at (event_drawn (front_of k e) at))) ∙ says_parted k e at (λ h. c.still h at) (c.draws at);
    }

pub rest_few : (n m k r : ℕ) (width : ℕ) → 40 ≤ k → r ≡ n - k → width + n ≤ 48 + 40 * suc m → 0 + r ≤ 48 + 40 * m
rest_few n m k r width low e h = omega (arith, low, e, h)

rest_accepted : (width : ℕ) (e : Event) → width ≤ 1 → 48 < width + length e.operands → IsAccepted e → IsAccepted (rest_of (next_cut e) e)
rest_accepted width e w many a = (cut_in_two e (long_of width (length e.operands) w many) a).rest

pub are_pieces : (f width : ℕ) (e : Event) → width ≤ 1 → width + length e.operands ≤ 48 + 40 * f → IsAccepted e → ArePieces width e (pieces f width e)
unfolding pieces
are_pieces zero width e w enough a = one_piece width e (omega (arith, enough)) a
are_pieces (suc f) width e w enough a =
    by_fit (nat_le (width + length e.operands) 48) width e (pieces f 0 (rest_of (next_cut e) e)) refl w a
    (λ many. are_pieces f 0 (rest_of (next_cut e) e) (omega arith) (rest_few (length e.operands) f (next_cut e) (length (rest_of (next_cut e) e).operands) width (is_cut e.operator.0 (length e.operands)).low (length_rest (next_cut e) e) enough) (rest_accepted width e w many a))

pub splits_alike : SplitsAlike
splits_alike width e w a =
    let p = are_pieces (length e.operands) width e w (omega (arith, w)) a in
    record { few = p.few; accepted = p.accepted; draws = p.draws; stems = p.stems; says = p.says }
