-- An operator in two parts draws the same, and takes as many operands as it may.
use Rattle.std.proofs.Common.{◌≡◌, ℕ, ◌+◌, ◌-◌, ◌%◌, ◌≤◌, ℤ, pos, Bool, true, false, List, [], ◌∷◌, ◌++◌, length, take, drop, Option, Some, None, refl, sym, ap, subst, ◌∙◌, arith, length-drop}
use Rattle.std.specs.Prelude.{◌==◌, ◌&&◌, nat_le, nat_lt}
use Rattle.std.proofs.lemmas.Bool.{eqb-true, false≢true}
use Rattle.std.proofs.lemmas.Bool.Decides.{nat_tests}
use Rattle.std.proofs.lemmas.List.{take-append-drop, length-take-le}
use Rattle.subsetter_cffdata.specs.declared.dicts.operator.OperatorType.{OperatorType}
use Rattle.subsetter_cffdata.specs.declared.dicts.operator.OperatorType.TheVariants.{OneByteOperator, TwoByteOperator}
use Rattle.subsetter_type2.specs.declared.token.Effect.{Effect}
use Rattle.subsetter_type2.specs.declared.token.Effect.TheVariants as effect
use Rattle.subsetter_type2.specs.Token.{one_byte_effect, effect_of}
use Rattle.subsetter_blend.specs.declared.writing.placing.Position.{Position}
use Rattle.subsetter_blend.specs.Drawing.{path_of, path_drawn, event_drawn, IsAccepted}
use Rattle.subsetter_blend.specs.Drawn.{Segment, Path, lines, alternating_lines, curves, curves_line, lines_curve, horizontal_curves, vertical_curves, odd_horizontal, odd_vertical, alternating_curves, point_after}
use Rattle.subsetter_blend.specs.Hint.{is_hint}
use Rattle.subsetter_blend.specs.Runs.Kind.{one_byte_accepts, two_byte_accepts, type_accepts, accepts}
use Rattle.subsetter_blend.specs.Writing.Split.{one_byte_cut, one_byte_piece, moved_by, sum_before, front_of, rest_of, next_cut}
use Rattle.subsetter_blend.specs.Writing.Taking.{Event}
use Rattle.subsetter_blend.proofs.WritingLaws.SplitLaws.Paths.{lines_split, turning_lines_split, curves_split, curves_line_split, lines_curve_split, odd_horizontal_split, odd_vertical_split, turning_split}
use Rattle.subsetter_blend.proofs.WritingLaws.SplitLaws.Pieces.{one_byte_is_cut, length_moved, moved_none}

-- stems are counted, and others draw
abbrev pub hint_effect : Bool → Option Effect
hint_effect true = Some effect.CountsStems
hint_effect false = Some effect.Draws

-- of an operator of one byte
pub record IsParted (vs : List ℤ) (b : ℕ) : Type 0 where
  pub draws : (at : Position) → path_drawn (path_of b) at vs
      ≡ path_drawn (path_of (one_byte_piece b)) at (take (one_byte_cut b (length vs)) vs)
      ++ path_drawn (path_of b) (point_after at (path_drawn (path_of (one_byte_piece b)) at (take (one_byte_cut b (length vs)) vs))) (moved_by (sum_before (is_hint (OneByteOperator (b ∷ []))) (take (one_byte_cut b (length vs)) vs)) (drop (one_byte_cut b (length vs)) vs))
  pub front : one_byte_accepts (one_byte_piece b) (one_byte_cut b (length vs)) ≡ true
  pub rest : one_byte_accepts b (length vs - one_byte_cut b (length vs)) ≡ true
  pub effect_is : one_byte_effect (one_byte_piece b) ≡ hint_effect (is_hint (OneByteOperator (b ∷ [])))
  pub even : is_hint (OneByteOperator (b ∷ [])) ≡ true → one_byte_cut b (length vs) % 2 ≡ 0
  pub still : is_hint (OneByteOperator (b ∷ [])) ≡ true → path_of (one_byte_piece b) ≡ None

-- two parts, of which the first has k operands
parted : (f g h : Position → List ℤ → List Segment) (at : Position) (vs : List ℤ) (k : ℕ) → f at (take k vs ++ drop k vs) ≡ g at (take k vs) ++ h (point_after at (g at (take k vs))) (drop k vs)
    → f at vs ≡ g at (take k vs) ++ h (point_after at (g at (take k vs))) (moved_by (pos 0) (drop k vs))
parted f g h at vs k e =
    ap (f at) (sym (take-append-drop k vs)) ∙ e ∙ ap (λ (l : List ℤ). g at (take k vs) ++ h (point_after at (g at (take k vs))) l) (sym (moved_none (drop k vs)))

module _ (vs : List ℤ) (long : 48 ≤ length vs) where
  taken : (k : ℕ) → k ≤ 47 → length (take k vs) ≡ k
  taken k h = length-take-le k vs (omega (arith, h, long))

  left : (k : ℕ) → length (drop k vs) ≡ length vs - k
  left k = length-drop k vs

  -- stems and masks draw nothing
  hint_parted : (b : ℕ) → path_of b ≡ None → path_of (one_byte_piece b) ≡ None → one_byte_accepts (one_byte_piece b) (one_byte_cut b (length vs)) ≡ true → one_byte_accepts b (length vs - one_byte_cut b (length vs)) ≡ true
      → one_byte_effect (one_byte_piece b) ≡ hint_effect (is_hint (OneByteOperator (b ∷ []))) → one_byte_cut b (length vs) % 2 ≡ 0 → IsParted vs b
  hint_parted b e f front rest effect_is even = record { draws = λ at. rw (e, f) refl; front = front; rest = rest; effect_is = effect_is; even = λ h. even; still = λ h. f }

  even_left : (n : ℕ) → 48 ≤ n → (nat_le 2 n && n % 2 == 0) ≡ true → (nat_le 2 (n - 46) && (n - 46) % 2 == 0) ≡ true
  even_left n l h = grind (arith, nat_tests)

  even_mask : (n : ℕ) → 48 ≤ n → (n % 2 == 0) ≡ true → ((n - 46) % 2 == 0) ≡ true
  even_mask n l h = grind (arith, nat_tests)

  parted_1 : one_byte_accepts 1 (length vs) ≡ true → IsParted vs 1
  parted_1 a = hint_parted 1 refl refl refl (even_left (length vs) long a) refl refl

  parted_3 : one_byte_accepts 3 (length vs) ≡ true → IsParted vs 3
  parted_3 a = hint_parted 3 refl refl refl (even_left (length vs) long a) refl refl

  parted_18 : one_byte_accepts 18 (length vs) ≡ true → IsParted vs 18
  parted_18 a = hint_parted 18 refl refl refl (even_left (length vs) long a) refl refl

  parted_23 : one_byte_accepts 23 (length vs) ≡ true → IsParted vs 23
  parted_23 a = hint_parted 23 refl refl refl (even_left (length vs) long a) refl refl

  parted_19 : one_byte_accepts 19 (length vs) ≡ true → IsParted vs 19
  parted_19 a = hint_parted 19 refl refl refl (even_mask (length vs) long a) refl refl

  parted_20 : one_byte_accepts 20 (length vs) ≡ true → IsParted vs 20
  parted_20 a = hint_parted 20 refl refl refl (even_mask (length vs) long a) refl refl

  even_46 : length (take 46 vs) % 2 ≡ 0
  even_46 = ap (λ (n : ℕ). n % 2) (taken 46 (omega arith))

  parted_5 : one_byte_accepts 5 (length vs) ≡ true → IsParted vs 5
  parted_5 a = record { draws = λ at. parted lines lines lines at vs 46 (lines_split at (take 46 vs) (drop 46 vs) even_46); front = refl; rest = even_left (length vs) long a; effect_is = refl; even = λ h. absurd (false≢true h); still = λ h. absurd (false≢true h) }

  some_left : (n : ℕ) → 48 ≤ n → nat_le 1 (n - 46) ≡ true
  some_left n l = grind (arith, nat_tests)

  parted_6 : one_byte_accepts 6 (length vs) ≡ true → IsParted vs 6
  parted_6 a = record { draws = λ at. parted (alternating_lines false) (alternating_lines false) (alternating_lines false) at vs 46 (turning_lines_split false at (take 46 vs) (drop 46 vs) even_46); front = refl; rest = some_left (length vs) long; effect_is = refl; even = λ h. absurd (false≢true h); still = λ h. absurd (false≢true h) }

  parted_7 : one_byte_accepts 7 (length vs) ≡ true → IsParted vs 7
  parted_7 a = record { draws = λ at. parted (alternating_lines true) (alternating_lines true) (alternating_lines true) at vs 46 (turning_lines_split true at (take 46 vs) (drop 46 vs) even_46); front = refl; rest = some_left (length vs) long; effect_is = refl; even = λ h. absurd (false≢true h); still = λ h. absurd (false≢true h) }

  six_42 : length (take 42 vs) % 6 ≡ 0
  six_42 = ap (λ (n : ℕ). n % 6) (taken 42 (omega arith))

  curves_left : (n : ℕ) → 48 ≤ n → (nat_le 6 n && n % 6 == 0) ≡ true → (nat_le 6 (n - 42) && (n - 42) % 6 == 0) ≡ true
  curves_left n l h = grind (arith, nat_tests)

  parted_8 : one_byte_accepts 8 (length vs) ≡ true → IsParted vs 8
  parted_8 a = record { draws = λ at. parted curves curves curves at vs 42 (curves_split at (take 42 vs) (drop 42 vs) six_42); front = refl; rest = curves_left (length vs) long a; effect_is = refl; even = λ h. absurd (false≢true h); still = λ h. absurd (false≢true h) }

  line_left : (n : ℕ) → 48 ≤ n → (nat_le 8 n && n % 6 == 2) ≡ true → (nat_le 8 (n - 42) && (n - 42) % 6 == 2) ≡ true
  line_left n l h = grind (arith, nat_tests)

  parted_24 : one_byte_accepts 24 (length vs) ≡ true → IsParted vs 24
  parted_24 a = record { draws = λ at. parted curves_line curves curves_line at vs 42 (curves_line_split at (take 42 vs) (drop 42 vs) six_42); front = refl; rest = line_left (length vs) long a; effect_is = refl; even = λ h. absurd (false≢true h); still = λ h. absurd (false≢true h) }

  even_40 : length (take 40 vs) % 2 ≡ 0
  even_40 = ap (λ (n : ℕ). n % 2) (taken 40 (omega arith))

  curve_left : (n : ℕ) → 48 ≤ n → (nat_le 8 n && n % 2 == 0) ≡ true → (nat_le 8 (n - 40) && (n - 40) % 2 == 0) ≡ true
  curve_left n l h = grind (arith, nat_tests)

  parted_25 : one_byte_accepts 25 (length vs) ≡ true → IsParted vs 25
  parted_25 a = record { draws = λ at. parted lines_curve lines lines_curve at vs 40 (lines_curve_split at (take 40 vs) (drop 40 vs) even_40 (omega (arith, left 40, long))); front = refl; rest = curve_left (length vs) long a; effect_is = refl; even = λ h. absurd (false≢true h); still = λ h. absurd (false≢true h) }

  turn_left : (n : ℕ) → 48 ≤ n → (nat_le 4 n && nat_lt (n % 4) 2) ≡ true → (nat_le 4 (n - 40) && nat_lt ((n - 40) % 4) 2) ≡ true
  turn_left n l h = grind (arith, nat_tests)

  eight_40 : length (take 40 vs) % 8 ≡ 0
  eight_40 = ap (λ (n : ℕ). n % 8) (taken 40 (omega arith))

  more_left : length (drop 40 vs) ≡ 1 → ⊥
  more_left e = absurd (omega (arith, e, left 40, long))

  parted_30 : one_byte_accepts 30 (length vs) ≡ true → IsParted vs 30
  parted_30 a = record { draws = λ at. parted (alternating_curves true) (alternating_curves true) (alternating_curves true) at vs 40 (turning_split true at (take 40 vs) (drop 40 vs) eight_40 more_left); front = refl; rest = turn_left (length vs) long a; effect_is = refl; even = λ h. absurd (false≢true h); still = λ h. absurd (false≢true h) }

  parted_31 : one_byte_accepts 31 (length vs) ≡ true → IsParted vs 31
  parted_31 a = record { draws = λ at. parted (alternating_curves false) (alternating_curves false) (alternating_curves false) at vs 40 (turning_split false at (take 40 vs) (drop 40 vs) eight_40 more_left); front = refl; rest = turn_left (length vs) long a; effect_is = refl; even = λ h. absurd (false≢true h); still = λ h. absurd (false≢true h) }

  -- ---- an odd operand before the first part
  abbrev odd : ℕ
  odd = length vs % 4 + 44

  taken_odd : length (take odd vs) ≡ odd
  taken_odd = taken odd (omega arith)

  same_odd : (n : ℕ) → (n % 4 + 44) % 4 ≡ n % 4
  same_odd n = omega arith

  front_odd : (length (take odd vs) % 4 == 1) ≡ (length vs % 4 == 1)
  front_odd = ap (λ (n : ℕ). n % 4 == 1) taken_odd ∙ ap (λ (n : ℕ). n == 1) (same_odd (length vs))

  after_even : (n : ℕ) → 48 ≤ n → (n - (n % 4 + 44)) % 4 ≡ 0
  after_even n l = omega (arith, l)

  after_odd : (length (moved_by (pos 0) (drop odd vs)) % 4 == 1) ≡ false
  after_odd = ap (λ (n : ℕ). n % 4 == 1) (length_moved (pos 0) (drop odd vs) ∙ left odd) ∙ ap (λ (n : ℕ). n == 1) (after_even (length vs) long)

  odd_is : (length vs % 4 == 1) ≡ true → length (take odd vs) % 4 ≡ 1
  odd_is h = ap (λ (n : ℕ). n % 4) taken_odd ∙ same_odd (length vs) ∙ eqb-true (length vs % 4) 1 h

  count_even : (n : ℕ) → (nat_le 4 n && nat_lt (n % 4) 2) ≡ true → (n % 4 == 1) ≡ false → n % 4 ≡ 0
  count_even n a b = grind (arith, nat_tests)

  even_is : (nat_le 4 (length vs) && nat_lt (length vs % 4) 2) ≡ true → (length vs % 4 == 1) ≡ false → length (take odd vs) % 4 ≡ 0
  even_is a h = ap (λ (n : ℕ). n % 4) taken_odd ∙ same_odd (length vs) ∙ count_even (length vs) a h

  front_accepts : (n : ℕ) → (nat_le 4 n && nat_lt (n % 4) 2) ≡ true → (nat_le 4 (n % 4 + 44) && nat_lt ((n % 4 + 44) % 4) 2) ≡ true
  front_accepts n a = grind (arith, nat_tests)

  after_accepts : (n : ℕ) → 48 ≤ n → (nat_le 4 n && nat_lt (n % 4) 2) ≡ true → (nat_le 4 (n - (n % 4 + 44)) && nat_lt ((n - (n % 4 + 44)) % 4) 2) ≡ true
  after_accepts n l a = grind (arith, nat_tests)

  some_taken : 4 ≤ length (take odd vs)
  some_taken = omega (arith, taken_odd)

  abbrev following : List ℤ
  following = moved_by (pos 0) (drop odd vs)

  parted_27 : one_byte_accepts 27 (length vs) ≡ true → IsParted vs 27
  parted_27 a = record {
    draws = λ at.
        let b = length vs % 4 == 1 in
        parted (odd_horizontal b) (odd_horizontal b) horizontal_curves at vs odd (odd_horizontal_split b at (take odd vs) (drop odd vs) odd_is (even_is a) some_taken)
        ∙ ap (λ (c : Bool). odd_horizontal c at (take odd vs) ++ odd_horizontal false (point_after at (odd_horizontal c at (take odd vs))) following) (sym front_odd)
        ∙ ap (λ (c : Bool). odd_horizontal (length (take odd vs) % 4 == 1) at (take odd vs) ++ odd_horizontal c (point_after at (odd_horizontal (length (take odd vs) % 4 == 1) at (take odd vs))) following) (sym after_odd);
    front = front_accepts (length vs) a;
    rest = after_accepts (length vs) long a;
    effect_is = refl;
    even = λ h. absurd (false≢true h);
    still = λ h. absurd (false≢true h);
  }

  parted_26 : one_byte_accepts 26 (length vs) ≡ true → IsParted vs 26
  parted_26 a = record {
    draws = λ at.
        let b = length vs % 4 == 1 in
        parted (odd_vertical b) (odd_vertical b) vertical_curves at vs odd (odd_vertical_split b at (take odd vs) (drop odd vs) odd_is (even_is a) some_taken)
        ∙ ap (λ (c : Bool). odd_vertical c at (take odd vs) ++ odd_vertical false (point_after at (odd_vertical c at (take odd vs))) following) (sym front_odd)
        ∙ ap (λ (c : Bool). odd_vertical (length (take odd vs) % 4 == 1) at (take odd vs) ++ odd_vertical c (point_after at (odd_vertical (length (take odd vs) % 4 == 1) at (take odd vs))) following) (sym after_odd);
    front = front_accepts (length vs) a;
    rest = after_accepts (length vs) long a;
    effect_is = refl;
    even = λ h. absurd (false≢true h);
    still = λ h. absurd (false≢true h);
  }

  -- ---- each operator of one byte
  abbrev Parts : ℕ → Type 0
  Parts b = one_byte_accepts b (length vs) ≡ true → IsParted vs b

  few_operands : (n k : ℕ) → 48 ≤ n → k ≤ 2 → (n == k) ≡ true → ⊥
  few_operands n k l h e = let is : n ≡ k = eqb-true n k e in absurd (omega (arith, l, h, is))

  by_test : (b k : ℕ) (t : Bool) → (b == k) ≡ t → Parts k → ((b == k) ≡ false → Parts b) → Parts b
  by_test b k true e here there = subst (λ (n : ℕ). Parts n) (sym (eqb-true b k e)) here
  by_test b k false e here there = there e

  or_else : (b k : ℕ) → Parts k → ((b == k) ≡ false → Parts b) → Parts b
  or_else b k here there = by_test b k (b == k) refl here there

  pub one_parted : (b : ℕ) → Parts b
  one_parted b =
      or_else b 1 parted_1 (λ h1. or_else b 3 parted_3 (λ h3. or_else b 5 parted_5 (λ h5. or_else b 18 parted_18 (λ h18. or_else b 23 parted_23 (λ h23.
      or_else b 19 parted_19 (λ h19. or_else b 20 parted_20 (λ h20.
      or_else b 4 (λ a. absurd (few_operands (length vs) 1 long (omega arith) a)) (λ h4. or_else b 22 (λ a. absurd (few_operands (length vs) 1 long (omega arith) a)) (λ h22.
      or_else b 21 (λ a. absurd (few_operands (length vs) 2 long (omega arith) a)) (λ h21.
      or_else b 6 parted_6 (λ h6. or_else b 7 parted_7 (λ h7. or_else b 8 parted_8 (λ h8. or_else b 24 parted_24 (λ h24. or_else b 25 parted_25 (λ h25.
      or_else b 26 parted_26 (λ h26. or_else b 27 parted_27 (λ h27. or_else b 30 parted_30 (λ h30. or_else b 31 parted_31 (λ h31.
      λ a. let none = rw (h1, h3, h5, h18, h23, h19, h20, h4, h22, h21, h6, h7, h8, h24, h25, h26, h27, h30, h31) at a in absurd (cc)
      )))))))))))))))))))

-- an event in two parts
pub record IsCutInTwo (e : Event) : Type 0 where
  pub draws : (at : Position) → event_drawn e at ≡ event_drawn (front_of (next_cut e) e) at ++ event_drawn (rest_of (next_cut e) e) (point_after at (event_drawn (front_of (next_cut e) e) at))
  pub front : IsAccepted (front_of (next_cut e) e)
  pub rest : IsAccepted (rest_of (next_cut e) e)
  pub effect : effect_of (front_of (next_cut e) e).operator ≡ hint_effect (is_hint e.operator.0)
  pub even : is_hint e.operator.0 ≡ true → next_cut e % 2 ≡ 0
  pub still : is_hint e.operator.0 ≡ true → (at : Position) → event_drawn (front_of (next_cut e) e) at ≡ []

two_few : (b n : ℕ) → 48 ≤ n → two_byte_accepts b n ≡ true → ⊥
two_few b n l a = grind (arith, nat_tests)

type_cut : (t : OperatorType) (vs : List ℤ) (mask : List ℕ) → 48 ≤ length vs → type_accepts t (length vs) ≡ true → IsCutInTwo (record { operator = record { 0 = t }; operands = vs; mask = mask })
unfolding accepts effect_of
type_cut (OneByteOperator []) vs mask l a = absurd (cc)
type_cut (OneByteOperator (b ∷ [])) vs mask l a =
    let p = one_parted vs l b a in
    let k = one_byte_cut b (length vs) in
    let bound = one_byte_is_cut b (length vs) in
    let taken : length (take k vs) ≡ k = length-take-le k vs (omega (arith, l, bound.high)) in
    let following : length (moved_by (sum_before (is_hint (OneByteOperator (b ∷ []))) (take k vs)) (drop k vs)) ≡ length vs - k = length_moved (sum_before (is_hint (OneByteOperator (b ∷ []))) (take k vs)) (drop k vs) ∙ length-drop k vs in
    record {
      draws = p.draws;
      front = ap (λ (n : ℕ). one_byte_accepts (one_byte_piece b) n) taken ∙ p.front;
      rest = ap (λ (n : ℕ). one_byte_accepts b n) following ∙ p.rest;
      effect = p.effect_is;
      even = p.even;
      still = λ h at. ap (λ (o : Option Path). path_drawn o at (take k vs)) (p.still h);
    }
type_cut (OneByteOperator (c ∷ b ∷ bytes)) vs mask l a = absurd (cc)
type_cut (TwoByteOperator []) vs mask l a = absurd (cc)
type_cut (TwoByteOperator (c ∷ [])) vs mask l a = absurd (cc)
type_cut (TwoByteOperator (mark ∷ second ∷ [])) vs mask l a = absurd (two_few second (length vs) l a)
type_cut (TwoByteOperator (c ∷ b ∷ d ∷ bytes)) vs mask l a = absurd (cc)

pub cut_in_two : (e : Event) → 48 ≤ length e.operands → IsAccepted e → IsCutInTwo e
unfolding accepts effect_of
cut_in_two e l a = type_cut e.operator.0 e.operands e.mask l a
