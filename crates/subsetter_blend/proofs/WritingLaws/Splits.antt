-- The pieces of an operator, as they are written.
use Rattle.std.proofs.Common.{◌≡◌, ℕ, ◌+◌, ◌-◌, ◌<◌, ◌≤◌, ℤ, pos, ◌+ℤ◌, List, [], ◌∷◌, ◌++◌, length, get_or, take, drop, All, Option, None, Ok, Err, refl, sym, ap, ◌∙◌, subst, arith, append_assoc, length-drop}
use Rattle.std.specs.Prelude.{Result}
use Rattle.std.proofs.lemmas.Int.{ints}
use Rattle.std.proofs.lemmas.List.{drop_more, drop-drop, take_more}
use Rattle.std.proofs.lemmas.List.Elements.{All-append, All-cons}
use Rattle.subsetter_base.specs.declared.error.Error.{Error}
use Rattle.subsetter_cffdata.specs.declared.dicts.operator.Operator.{Operator}
use Rattle.subsetter_blend.specs.Hint.{is_hint}
use Rattle.subsetter_blend.specs.Writing.Split.{cut, piece_type, sum_of, moved_by, sum_before, front_of, rest_of, next_cut, pieces, split}
use Rattle.subsetter_blend.specs.Writing.Taking.{Event, Did, and_then, all_taken}
use Rattle.subsetter_blend.specs.Writing.Written.{width, Fitted, fitted_piece}
use Rattle.subsetter_blend.proofs.WritingLaws.SplitLaws.Pieces.{is_cut, length_moved, moved_drop, moved_take, split_more, split_last}

pub did_from : {S A : Type 0} (f g : S → Result S Error) (a b new : S) (r : Result A Error) → f a ≡ g b → Did f a new r → Did g b new r
did_from f g a b new (Ok x) e h = sym e ∙ h
did_from f g a b new (Err x) e h = λ ne. sym e ∙ h ne

regrouped : (a b c : ℤ) → a +ℤ b +ℤ c ≡ a +ℤ (b +ℤ c)
regrouped a b c = omega (arith, ints)

-- one term more
pub sum_more : (vs : List ℤ) (i : ℕ) (s n : ℤ) → i < length vs → n ≡ s +ℤ get_or vs i (pos 0) → n +ℤ sum_of (drop (i + 1) vs) ≡ s +ℤ sum_of (drop i vs)
sum_more vs i s n h e =
    ap (λ (z : ℤ). z +ℤ sum_of (drop (i + 1) vs)) e ∙ regrouped s (get_or vs i (pos 0)) (sum_of (drop (i + 1) vs))
    ∙ ap (λ (l : List ℤ). s +ℤ sum_of l) (sym (drop_more vs i (pos 0) h))

-- the sum with what comes before
pub sum_moved : (before : ℤ) (vs : List ℤ) → 1 ≤ length vs → before +ℤ sum_of vs ≡ sum_of (moved_by before vs)
sum_moved before [] h = absurd (omega (arith, h))
sum_moved before (v ∷ vs) h = sym (regrouped before v (sum_of vs))

-- one operand more
pub all_more : (P : ℤ → Type 0) (part new : List ℤ) (v : ℤ) → All P part → P v → new ≡ part ++ v ∷ [] → All P new
all_more P part new v all h e = subst (λ (l : List ℤ). All P l) (sym e) (All-append P part (v ∷ []) all (All-cons P v [] h (λ k d less. absurd (omega arith))))

pub part_more : (part initial rest new : List ℤ) (i : ℕ) (v : ℤ) → i < length rest → part ≡ initial ++ take i rest → v ≡ get_or rest i (pos 0) → new ≡ part ++ v ∷ [] → new ≡ initial ++ take (i + 1) rest
part_more part initial rest new i v h e f g =
    g ∙ ap (λ (l : List ℤ). l ++ v ∷ []) e ∙ append_assoc initial (take i rest) (v ∷ []) ∙ ap (λ (l : List ℤ). initial ++ l) (ap (λ (z : ℤ). take i rest ++ z ∷ []) f ∙ sym (take_more rest i (pos 0) h))

and_none : (o : Result Fitted Error) → and_then o (all_taken fitted_piece []) ≡ o
and_none (Ok f) = refl
and_none (Err e) = refl

-- an event of few operands stays as it is
pub piece_alone : (e : Event) (f : Fitted) → length (width f.pen.advance) + length e.operands ≤ 48 → all_taken fitted_piece (split (length (width f.pen.advance)) e) f ≡ fitted_piece e f
piece_alone e f h = ap (λ (l : List Event). all_taken fitted_piece l f) (split_last e (length (width f.pen.advance)) (length e.operands) h) ∙ and_none (fitted_piece e f)

module _ (operator : Operator) (mask : List ℕ) (operands : List ℤ) (start len : ℕ) (before next : ℤ) (f : Fitted) where
  abbrev left : ℕ → ℤ → Event
  left at z = record { operator = operator; operands = moved_by z (drop at operands); mask = mask }

  abbrev wide : ℕ
  wide = length (width f.pen.advance)

  count_is : length operands - start ≡ length (moved_by before (drop start operands))
  count_is = sym (length_moved before (drop start operands) ∙ length-drop start operands)

  -- what is left may stay as it is
  pub piece_last : wide + (length operands - start) ≤ 48 → all_taken fitted_piece (pieces (length operands - start) wide (left start before)) f ≡ fitted_piece (left start before) f
  piece_last h =
      ap (λ (l : List Event). all_taken fitted_piece l f) (split_last (left start before) wide (length operands - start) (omega (arith, h, count_is)))
      ∙ and_none (fitted_piece (left start before) f)

  module _ (op : Operator) (vs : List ℤ) (few : wide ≤ 1) (many : 48 < wide + (length operands - start)) (len_is : len ≡ cut operator.0 (length operands - start))
      (op_is : op ≡ record { 0 = piece_type operator.0 }) (vs_is : vs ≡ moved_by before (take len (drop start operands))) (next_is : next ≡ sum_before (is_hint operator.0) (moved_by before (take len (drop start operands)))) where
    abbrev front : Event
    front = record { operator = op; operands = vs; mask = [] }

    some : 1 ≤ len
    some = let low = (is_cut operator.0 (length operands - start)).low in omega (arith, len_is, low)

    cut_is : next_cut (left start before) ≡ len
    cut_is = ap (cut operator.0) (sym count_is) ∙ sym len_is

    front_is : front_of len (left start before) ≡ front
    front_is =
        ap (λ (l : List ℤ). record { operator = record { 0 = piece_type operator.0 }; operands = l; mask = [] }) (moved_take len before (drop start operands) some ∙ sym vs_is)
        ∙ ap (λ (o : Operator). record { operator = o; operands = vs; mask = [] }) (sym op_is)

    rest_is : rest_of len (left start before) ≡ left (start + len) next
    rest_is =
        ap (λ (l : List ℤ). record { operator = operator; operands = moved_by (sum_before (is_hint operator.0) l) (drop len (moved_by before (drop start operands))); mask = mask }) (moved_take len before (drop start operands) some)
        ∙ ap (λ (z : ℤ). record { operator = operator; operands = moved_by z (drop len (moved_by before (drop start operands))); mask = mask }) (sym next_is)
        ∙ ap (λ (l : List ℤ). record { operator = operator; operands = moved_by next l; mask = mask }) (moved_drop len before (drop start operands) some ∙ drop-drop len start operands)

    left_over : length operands - start - len ≡ length operands - (start + len)
    left_over = omega arith

    more_is : all_taken fitted_piece (pieces (length operands - start) wide (left start before)) f ≡ and_then (fitted_piece front f) (all_taken fitted_piece (pieces (length operands - (start + len)) 0 (left (start + len) next)))
    more_is =
        ap (λ (l : List Event). all_taken fitted_piece l f) (split_more (left start before) wide (length operands - start) count_is few many)
        ∙ ap (λ (k : ℕ). and_then (fitted_piece (front_of k (left start before)) f) (all_taken fitted_piece (pieces (length operands - start - k) 0 (rest_of k (left start before))))) cut_is
        ∙ ap (λ (x : Event). and_then (fitted_piece x f) (all_taken fitted_piece (pieces (length operands - start - len) 0 (rest_of len (left start before))))) front_is
        ∙ ap (λ (x : Event). and_then (fitted_piece front f) (all_taken fitted_piece (pieces (length operands - start - len) 0 x))) rest_is
        ∙ ap (λ (n : ℕ). and_then (fitted_piece front f) (all_taken fitted_piece (pieces n 0 (left (start + len) next)))) left_over

    pub piece_fails : (e : Error) → fitted_piece front f ≡ Err e → all_taken fitted_piece (pieces (length operands - start) wide (left start before)) f ≡ Err e
    piece_fails e h = more_is ∙ ap (λ (o : Result Fitted Error). and_then o (all_taken fitted_piece (pieces (length operands - (start + len)) 0 (left (start + len) next)))) h

    pub piece_on : (g : Fitted) → fitted_piece front f ≡ Ok g → g.pen.advance ≡ None
        → all_taken fitted_piece (pieces (length operands - (start + len)) (length (width g.pen.advance)) (left (start + len) next)) g ≡ all_taken fitted_piece (pieces (length operands - start) wide (left start before)) f
    piece_on g h none =
        ap (λ (a : Option ℤ). all_taken fitted_piece (pieces (length operands - (start + len)) (length (width a)) (left (start + len) next)) g) none
        ∙ sym (ap (λ (o : Result Fitted Error). and_then o (all_taken fitted_piece (pieces (length operands - (start + len)) 0 (left (start + len) next)))) h)
        ∙ sym more_is
