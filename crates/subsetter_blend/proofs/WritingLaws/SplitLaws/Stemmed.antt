-- The stems of an operator in two parts.
use Rattle.std.proofs.Common.{◌≡◌, ℕ, ℤ, pos, ◌+ℤ◌, Bool, true, false, List, [], ◌∷◌, ◌++◌, take, drop, refl, sym, ap, ◌∙◌, arith}
use Rattle.std.specs.Prelude.{◌==◌, ◌||◌, if◌then◌else◌}
use Rattle.std.proofs.lemmas.Int.{ints}
use Rattle.std.proofs.lemmas.List.{take-append-drop}
use Rattle.std.proofs.lemmas.Bool.{eqb-true}
use Rattle.std.proofs.lemmas.Bool.Decides.{nat_tests}
use Rattle.subsetter_cffdata.specs.declared.dicts.operator.OperatorType.{OperatorType}
use Rattle.subsetter_cffdata.specs.declared.dicts.operator.OperatorType.TheVariants.{OneByteOperator, TwoByteOperator}
use Rattle.subsetter_blend.specs.Hint.{is_hint}
use Rattle.subsetter_blend.specs.Writing.Split.{one_byte_piece, sum_of, moved_by, sum_before, front_of, rest_of, piece_type}
use Rattle.subsetter_blend.specs.Writing.Stems.{edges_from, has_stems, type_stems, stems_of}
use Rattle.subsetter_blend.specs.Writing.Taking.{Event}

regrouped : (a b c : ℤ) → a +ℤ b +ℤ c ≡ a +ℤ (b +ℤ c)
regrouped a b c = omega (arith, ints)

no_more : (a : ℤ) → a +ℤ pos 0 ≡ a
no_more a = omega (arith, ints)

none_before : (a : ℤ) → pos 0 +ℤ a ≡ a
none_before a = omega (arith, ints)

edges_append : (at : ℤ) (xs ys : List ℤ) → edges_from at (xs ++ ys) ≡ edges_from at xs ++ edges_from (at +ℤ sum_of xs) ys
edges_append at [] ys = ap (λ (z : ℤ). edges_from z ys) (sym (no_more at))
edges_append at (x ∷ xs) ys = ap (λ (l : List ℤ). (at +ℤ x) ∷ l) (edges_append (at +ℤ x) xs ys ∙ ap (λ (z : ℤ). edges_from (at +ℤ x) xs ++ edges_from z ys) (regrouped at x (sum_of xs)))

edges_moved : (s : ℤ) (ys : List ℤ) → edges_from s ys ≡ edges_from (pos 0) (moved_by s ys)
edges_moved s [] = refl
edges_moved s (y ∷ ys) = ap (λ (z : ℤ). z ∷ edges_from z ys) (sym (none_before (s +ℤ y)))

edges_parted : (k : ℕ) (vs : List ℤ) → edges_from (pos 0) vs ≡ edges_from (pos 0) (take k vs) ++ edges_from (pos 0) (moved_by (sum_of (take k vs)) (drop k vs))
edges_parted k vs =
    ap (edges_from (pos 0)) (sym (take-append-drop k vs)) ∙ edges_append (pos 0) (take k vs) (drop k vs)
    ∙ ap (λ (z : ℤ). edges_from (pos 0) (take k vs) ++ edges_from z (drop k vs)) (none_before (sum_of (take k vs)))
    ∙ ap (λ (l : List ℤ). edges_from (pos 0) (take k vs) ++ l) (edges_moved (sum_of (take k vs)) (drop k vs))

-- by the operator of the first part
by_code : (b : ℕ) (p q r s : Bool) → (b == 19) ≡ p → (b == 20) ≡ q → (b == 24) ≡ r → (b == 25) ≡ s → (P : ℕ → Bool) → ((b == 19) ≡ true → P 23 ≡ P b) → ((b == 20) ≡ true → P 23 ≡ P b) → ((b == 24) ≡ true → P 8 ≡ P b) → ((b == 25) ≡ true → P 5 ≡ P b)
    → P (if p || q then 23 else if r then 8 else if s then 5 else b) ≡ P b
by_code b true q r s e f g h P i j k l = i e
by_code b false true r s e f g h P i j k l = j f
by_code b false false true s e f g h P i j k l = k g
by_code b false false false true e f g h P i j k l = l h
by_code b false false false false e f g h P i j k l = refl

says_true : (b : ℕ) → has_stems true (one_byte_piece b) ≡ has_stems true b
says_true b = by_code b (b == 19) (b == 20) (b == 24) (b == 25) refl refl refl refl (has_stems true)
    (λ e. ap (has_stems true) (sym (eqb-true b 19 e))) (λ e. ap (has_stems true) (sym (eqb-true b 20 e))) (λ e. ap (has_stems true) (sym (eqb-true b 24 e))) (λ e. ap (has_stems true) (sym (eqb-true b 25 e)))

says_false : (b : ℕ) → has_stems false (one_byte_piece b) ≡ has_stems false b
says_false b = by_code b (b == 19) (b == 20) (b == 24) (b == 25) refl refl refl refl (has_stems false)
    (λ e. ap (has_stems false) (sym (eqb-true b 19 e))) (λ e. ap (has_stems false) (sym (eqb-true b 20 e))) (λ e. ap (has_stems false) (sym (eqb-true b 24 e))) (λ e. ap (has_stems false) (sym (eqb-true b 25 e)))

pub same_says : (vertical : Bool) (b : ℕ) → has_stems vertical (one_byte_piece b) ≡ has_stems vertical b
same_says true b = says_true b
same_says false b = says_false b

pub hint_says : (vertical : Bool) (b : ℕ) → has_stems vertical b ≡ true → is_hint (OneByteOperator (b ∷ [])) ≡ true
hint_says true b h = grind (arith, nat_tests)
hint_says false b h = grind (arith, nat_tests)

one_parted : (vertical says : Bool) (b k : ℕ) (vs : List ℤ) → has_stems vertical b ≡ says → has_stems vertical (one_byte_piece b) ≡ says
    → (if says then edges_from (pos 0) vs else [])
    ≡ (if has_stems vertical (one_byte_piece b) then edges_from (pos 0) (take k vs) else [])
    ++ (if says then edges_from (pos 0) (moved_by (sum_before (is_hint (OneByteOperator (b ∷ []))) (take k vs)) (drop k vs)) else [])
one_parted vertical true b k vs e f =
    edges_parted k vs
    ∙ ap (λ (h : Bool). edges_from (pos 0) (take k vs) ++ edges_from (pos 0) (moved_by (sum_before h (take k vs)) (drop k vs))) (sym (hint_says vertical b e))
    ∙ ap (λ (s : Bool). (if s then edges_from (pos 0) (take k vs) else []) ++ edges_from (pos 0) (moved_by (sum_before (is_hint (OneByteOperator (b ∷ []))) (take k vs)) (drop k vs))) (sym f)
one_parted vertical false b k vs e f = ap (λ (s : Bool). (if s then edges_from (pos 0) (take k vs) else []) ++ []) (sym f)

pub type_parted : (vertical : Bool) (t : OperatorType) (k : ℕ) (vs : List ℤ) → type_stems vertical t vs ≡ type_stems vertical (piece_type t) (take k vs) ++ type_stems vertical t (moved_by (sum_before (is_hint t) (take k vs)) (drop k vs))
type_parted vertical (OneByteOperator []) k vs = refl
type_parted vertical (OneByteOperator (b ∷ [])) k vs =
    one_parted vertical (has_stems vertical b) b k vs refl (same_says vertical b)
type_parted vertical (OneByteOperator (c ∷ b ∷ bytes)) k vs = refl
type_parted vertical (TwoByteOperator code) k vs = refl

pub stems_parted : (vertical : Bool) (k : ℕ) (e : Event) → stems_of vertical e ≡ stems_of vertical (front_of k e) ++ stems_of vertical (rest_of k e)
stems_parted vertical k e = type_parted vertical e.operator.0 k e.operands
