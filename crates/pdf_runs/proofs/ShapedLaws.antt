-- Items of glyphs that have cluster numbers, one after the other.
use Rattle.std.proofs.Common.{◌≡◌, ℕ, zero, suc, ◌+◌, ◌-◌, ◌<◌, ◌≤◌, min, Bool, true, false, not, ◌&&◌, nat_le, nat_lt, if◌then◌else◌, List, [], ◌∷◌, ◌++◌, length, map, get_or, take, drop, Option, Some, None, refl, sym, ap, ◌∙◌, subst, append_assoc, append-nil, arith, length-drop, inl, inr, le-leb, lt-ltb, slice_get, ◌==◌}
use Rattle.std.specs.Prelude.{◌⊎◌}
use Rattle.std.proofs.lemmas.Bool.{cases_lt}
use Rattle.std.proofs.lemmas.Bool.Decides.{Decides-eqb, nat_tests}
use Rattle.std.proofs.lemmas.List.Sums.{prefix_len_is}
use Rattle.std.specs.List.Sorted.{IsNonDecreasing}
use Rattle.std.proofs.lemmas.List.{drop_all, drop_more, map-append, take_all, take_rest}
use Rattle.pdf_runs.specs.declared.items.Direction.{Direction}
use Rattle.pdf_runs.specs.declared.items.Item.{Item}
use Rattle.pdf_runs.specs.declared.shaped.Shaped.{Shaped}
use Rattle.pdf_runs.specs.declared.shaped.Unit.{Unit as Counted}
use Rattle.pdf_runs.specs.Shaped.{Labelled, all_labelled, is_at, label, labelled, place_in, seen, starts, text_seen, width}
use Rattle.pdf_runs.proofs.MarkLaws.{ascends, rises}

-- ---- where characters begin

ascend_by : (b : Bool) (low at : ℕ) (more : Bool) → nat_le low at ≡ b → b ≡ true → more ≡ true → (nat_le low at && more) ≡ true
ascend_by b low at more e t h = rw (e, t) h

starts_ascend : (u : Counted) (low at : ℕ) (cs : List ℕ) → low ≤ at → ascends low (starts u at cs) ≡ true
starts_ascend u low at [] l = refl
starts_ascend u low at (c ∷ cs) l = ascend_by (nat_le low at) low at (ascends at (starts u (at + width u c) cs)) refl (le-leb low at l) (starts_ascend u at (at + width u c) cs (omega arith))

pub starts_rise : (u : Counted) (cs : List ℕ) → IsNonDecreasing (starts u 0 cs)
starts_rise u cs = rises 0 (starts u 0 cs) (starts_ascend u 0 0 cs (omega arith))

pub rise_is : (u : Counted) (cs ss : List ℕ) → ss ≡ starts u 0 cs → IsNonDecreasing ss
rise_is u cs ss e = subst IsNonDecreasing (sym e) (starts_rise u cs)

pub starts_all : (u : Counted) (cs found : List ℕ) (k at : ℕ) → length cs ≤ k → found ++ starts u at (drop k cs) ≡ starts u 0 cs → found ≡ starts u 0 cs
starts_all u cs found k at l h = sym (append-nil found) ∙ sym (ap (λ (l : List ℕ). found ++ starts u at l) (drop_all k cs l)) ∙ h

at_is : (ss : List ℕ) (k n : ℕ) → is_at (slice_get ss k) n ≡ true → (k < length ss) × (get_or ss k 0 ≡ n)
at_is [] k n e = absurd cc
at_is (s ∷ ss) zero n e = (omega arith, (Decides-eqb s n).0 e)
at_is (s ∷ ss) (suc k) n e = let more = at_is ss k n e in (omega (arith, more.0), more.1)

not_less : (m n : ℕ) → m ≡ n → nat_lt m n ≡ false
not_less m n e = grind (arith, nat_tests)

-- the place of the first character, where it begins at a number
pub first_is_place : (ss : List ℕ) (k n : ℕ) → k ≡ 0 → is_at (slice_get ss k) n ≡ true → place_in ss n ≡ k
first_is_place ss k n e h =
    let here = at_is ss k n h in
    prefix_len_is (λ s. nat_lt s n) ss k 0 (omega (arith, here.0)) (λ j l. absurd (omega arith)) (λ l. not_less (get_or ss k 0) n here.1)

-- and of another one, where the one before it begins before
pub later_is_place : (ss : List ℕ) (k n : ℕ) → IsNonDecreasing ss → get_or ss (k - 1) 0 < n → is_at (slice_get ss k) n ≡ true → place_in ss n ≡ k
later_is_place ss k n up before h =
    let here = at_is ss k n h in
    prefix_len_is (λ s. nat_lt s n) ss k 0 (omega (arith, here.0))
    (λ j l. lt-ltb (get_or ss j 0) n (omega (arith, up j (k - 1) 0 (omega arith) (omega (arith, here.0)))))
    (λ l. not_less (get_or ss k 0) n here.1)

-- ---- the characters from a place to another

some_by : (cs : List ℕ) (s e m : ℕ) → m ≡ min e (length cs) → (e < length cs) ⊎ (length cs ≤ e) → take (m - s) (drop s cs) ≡ take (e - s) (drop s cs)
some_by cs s e m is (inl l) = ap (λ (n : ℕ). take (n - s) (drop s cs)) (omega arith)
some_by cs s e m is (inr l) =
    let all : m ≡ length cs = omega arith in
    ap (λ (n : ℕ). take (n - s) (drop s cs)) all ∙ take_rest cs s ∙ sym (take_all (e - s) (drop s cs) (omega (arith, length-drop s cs)))

pub between_some : (cs : List ℕ) (s e m : ℕ) → m ≡ min e (length cs) → take (m - s) (drop s cs) ≡ take (e - s) (drop s cs)
between_some cs s e m is = some_by cs s e m is (cases_lt e (length cs))

take_none : (n : ℕ) → [] ≡ take {A = ℕ} n []
take_none zero = refl
take_none (suc n) = refl

none_by : (cs : List ℕ) (s e m : ℕ) → m ≡ min e (length cs) → m ≤ s → (e < length cs) ⊎ (length cs ≤ e) → [] ≡ take (e - s) (drop s cs)
none_by cs s e m is l (inl h) = let none : 0 ≡ e - s = omega arith in ap (λ (n : ℕ). take n (drop s cs)) none
none_by cs s e m is l (inr h) = take_none (e - s) ∙ sym (ap (take (e - s)) (drop_all s cs (omega arith)))

pub between_none : (cs : List ℕ) (s e m : ℕ) → m ≡ min e (length cs) → m ≤ s → [] ≡ take (e - s) (drop s cs)
between_none cs s e m is l = none_by cs s e m is l (cases_lt e (length cs))

-- ---- items

-- with one item more, they and those of the rest are still all
pub labelled_more : (d : Direction) (cs ps : List ℕ) (gs : List Shaped) (k p : ℕ) (e : Shaped) (before : Option ℕ) (i : Item) (so_far new : List Item) (total : List Labelled) → k < length ps → k < length gs → p ≡ get_or ps k 0
    → seen i ≡ labelled (get_or gs k e) (label d cs before p (drop (k + 1) ps)) → new ≡ so_far ++ i ∷ [] → map seen so_far ++ all_labelled d cs before (drop k ps) (drop k gs) ≡ total
    → map seen new ++ all_labelled d cs (Some p) (drop (k + 1) ps) (drop (k + 1) gs) ≡ total
labelled_more d cs ps gs k p e before i so_far new total l m is one more h =
    let g : Shaped = get_or gs k e in
    let qs : List ℕ = drop (k + 1) ps in
    let hs : List Shaped = drop (k + 1) gs in
    let rest : List Labelled = all_labelled d cs (Some p) qs hs in
    let first : all_labelled d cs before (drop k ps) (drop k gs) ≡ labelled g (label d cs before p qs) ∷ rest =
    ap (λ (l : List ℕ). all_labelled d cs before l (drop k gs)) (drop_more ps k 0 l ∙ ap (λ (q : ℕ). q ∷ qs) (sym is))
    ∙ ap (λ (l : List Shaped). all_labelled d cs before (p ∷ qs) l) (drop_more gs k e m)
    in
    ap (λ (l : List Item). map seen l ++ rest) more
    ∙ ap (λ (l : List Labelled). l ++ rest) (map-append seen so_far (i ∷ []))
    ∙ append_assoc (map seen so_far) (seen i ∷ []) rest
    ∙ ap (λ (j : Labelled). map seen so_far ++ j ∷ rest) one
    ∙ sym (ap (λ (l : List Labelled). map seen so_far ++ l) first)
    ∙ h
