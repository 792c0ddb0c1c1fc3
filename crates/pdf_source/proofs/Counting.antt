-- How often widths are there, and the most frequent of them.
use Rattle.std.proofs.Common.{◌≡◌, ℕ, ◌+◌, ◌<◌, ◌≤◌, ◌^◌, eqb, ltb, cond, Bool, true, false, List, length, take, get_or, set, replicate, Option, Some, None, refl, sym, ap, subst, ◌∙◌, inl, inr, arith}
use Rattle.std.specs.Prelude.{slice_index}
use Rattle.std.specs.Option.{unwrap_or}
use Rattle.std.proofs.lemmas.Bool.{eqb-true, eqb-false, ltb-true, lt-ltb, le-ltb, cases_lt}
use Rattle.std.proofs.lemmas.List.{length-take, length-set, length-replicate, get_or-replicate, get_or-set_same, get_or-set_other}
use Rattle.std.proofs.lemmas.List.Sums.{count_by_more_no, count_by_more_yes, count_by-le-length}
use Rattle.pdf_source.specs.Counted.{counted}
use Rattle.pdf_source.specs.Frequent.{IsMostFrequent, count_of}

-- a count of so few fits
pub counted_few : (ws : List ℕ) (i n w : ℕ) → i < length ws → length ws < 2 ^ 32 → n ≡ count_of (take i ws) w → n + 1 < 2 ^ 32
counted_few ws i n w lt few e = omega (arith, count_by-le-length (λ u. eqb u w) (take i ws), length-take i ws)

-- no width was counted
pub none_counted : (placed : List ℕ) (n w : ℕ) (mapped : ℕ → Option ℕ) → placed ≡ replicate n 0 → mapped w ≡ None → counted placed mapped w ≡ 0
none_counted placed n w mapped e none = by (ltb w (length placed)) refl
  where
    by : (t : Bool) → ltb w (length placed) ≡ t → counted placed mapped w ≡ 0
    by true h = ap (λ (t : Bool). cond t (get_or placed w 0) (unwrap_or (mapped w) 0)) h ∙ ap (λ (l : List ℕ). get_or l w 0) e ∙ get_or-replicate n w 0 0 (let lt = ltb-true w (length placed) h in omega (arith, ap length e, length-replicate {A = ℕ} n 0))
    by false h = ap (λ (t : Bool). cond t (get_or placed w 0) (unwrap_or (mapped w) 0)) h ∙ ap (λ (o : Option ℕ). unwrap_or o 0) none

-- a width is counted once more, at its place or in the map
pub placed_once : (placed after : List ℕ) (mapped : ℕ → Option ℕ) (k n w : ℕ) → k < length placed → after ≡ set placed k n → counted after mapped w ≡ cond (eqb k w) n (counted placed mapped w)
placed_once placed after mapped k n w lt e = by (eqb k w) refl
  where
    by : (t : Bool) → eqb k w ≡ t → counted after mapped w ≡ cond (eqb k w) n (counted placed mapped w)
    by true h =
        let same : k ≡ w = eqb-true k w h in
        sym (ap (counted after mapped) same)
        ∙ ap (λ (l : List ℕ). counted l mapped k) e
        ∙ ap (λ (m : ℕ). cond (ltb k m) (get_or (set placed k n) k 0) (unwrap_or (mapped k) 0)) (length-set placed k n)
        ∙ ap (λ (t : Bool). cond t (get_or (set placed k n) k 0) (unwrap_or (mapped k) 0)) (lt-ltb k (length placed) lt)
        ∙ get_or-set_same placed k n 0 lt
        ∙ sym (ap (λ (t : Bool). cond t n (counted placed mapped w)) h)
    by false h =
        ap (λ (l : List ℕ). counted l mapped w) e
        ∙ ap (λ (m : ℕ). cond (ltb w m) (get_or (set placed k n) w 0) (unwrap_or (mapped w) 0)) (length-set placed k n)
        ∙ ap (λ (x : ℕ). cond (ltb w (length placed)) x (unwrap_or (mapped w) 0)) (get_or-set_other placed k w n 0 (λ s. eqb-false k w h (sym s)))
        ∙ sym (ap (λ (t : Bool). cond t n (counted placed mapped w)) h)

pub mapped_once : (placed : List ℕ) (before after : ℕ → Option ℕ) (k n w : ℕ) → length placed ≤ k → after w ≡ cond (eqb k w) (Some n) (before w) → counted placed after w ≡ cond (eqb k w) n (counted placed before w)
mapped_once placed before after k n w ge e = by (eqb k w) refl
  where
    by : (t : Bool) → eqb k w ≡ t → counted placed after w ≡ cond (eqb k w) n (counted placed before w)
    by true h =
        let same : k ≡ w = eqb-true k w h in
        ap (λ (t : Bool). cond t (get_or placed w 0) (unwrap_or (after w) 0)) (le-ltb w (length placed) (omega arith))
        ∙ ap (λ (o : Option ℕ). unwrap_or o 0) (e ∙ ap (λ (t : Bool). cond t (Some n) (before w)) h)
        ∙ sym (ap (λ (t : Bool). cond t n (counted placed before w)) h)
    by false h =
        ap (λ (o : Option ℕ). cond (ltb w (length placed)) (get_or placed w 0) (unwrap_or o 0)) (e ∙ ap (λ (t : Bool). cond t (Some n) (before w)) h)
        ∙ sym (ap (λ (t : Bool). cond t n (counted placed before w)) h)

-- one width more is counted
pub one_counted : (ws : List ℕ) (i w key n before after : ℕ) → i < length ws → key ≡ get_or ws i 0 → after ≡ cond (eqb key w) (n + 1) before → n ≡ count_of (take i ws) key → before ≡ count_of (take i ws) w → after ≡ count_of (take (i + 1) ws) w
one_counted ws i w key n before after lt k a c b = by (eqb key w) refl
  where
    by : (t : Bool) → eqb key w ≡ t → after ≡ count_of (take (i + 1) ws) w
    by true e =
        let same : key ≡ w = eqb-true key w e in
        let hit : eqb (get_or ws i 0) w ≡ true = ap (λ (x : ℕ). eqb x w) (sym k) ∙ e in
        let here : after ≡ n + 1 = a ∙ ap (λ (t : Bool). cond t (n + 1) before) e in
        let so_far : n ≡ count_of (take i ws) w = c ∙ ap (count_of (take i ws)) same in
        here ∙ ap (λ (x : ℕ). x + 1) so_far ∙ sym (count_by_more_yes (λ u. eqb u w) ws i 0 lt hit)
    by false e =
        let miss : eqb (get_or ws i 0) w ≡ false = ap (λ (x : ℕ). eqb x w) (sym k) ∙ e in
        let here : after ≡ before = a ∙ ap (λ (t : Bool). cond t (n + 1) before) e in
        here ∙ b ∙ sym (count_by_more_no (λ u. eqb u w) ws i 0 lt miss)

-- ---- the greatest of the first i of n numbers, of several the first
pub record IsBest (f : ℕ → ℕ) (n i best : ℕ) : Type 0 where
  pub within : best < n
  pub most : (j : ℕ) → j < i → f j ≤ f best
  pub earliest : (j : ℕ) → j < best → f j < f best
  pub seen : best ≤ i

pub best_start : (f : ℕ → ℕ) (n : ℕ) → 0 < n → IsBest f n 0 0
best_start f n some = record { within = some; most = λ j lt. absurd (omega arith); earliest = λ j lt. absurd (omega arith); seen = omega arith }

not_less : (x y : ℕ) → ltb x y ≡ false → y ≤ x
not_less x y h = elim (cases_lt x y) [ inl less ↦ absurd (let yes = lt-ltb x y less in cc) | inr ge ↦ ge ]

pub best_step : (f : ℕ → ℕ) (n i best next : ℕ) → i < n → IsBest f n i best → next ≡ cond (ltb (f best) (f i)) i best → IsBest f n (i + 1) next
best_step f n i best next lt b e = by (ltb (f best) (f i)) refl
  where
    by : (t : Bool) → ltb (f best) (f i) ≡ t → IsBest f n (i + 1) next
    by true h =
        let more : f best < f i = ltb-true (f best) (f i) h in
        let is : i ≡ next = sym (e ∙ ap (λ (t : Bool). cond t i best) h) in
        let found : IsBest f n (i + 1) i = record {
          within = lt;
          most = λ j l. elim (cases_lt j i) [ inl less ↦ (let m = b.most j less in omega arith) | inr ge ↦ (let same : j ≡ i = omega arith in subst (λ (x : ℕ). f x ≤ f i) (sym same) (omega arith)) ];
          earliest = λ j l. let m = b.most j l in omega arith;
          seen = omega arith;
        } in
        subst (IsBest f n (i + 1)) is found
    by false h =
        let less : f i ≤ f best = not_less (f best) (f i) h in
        let is : best ≡ next = sym (e ∙ ap (λ (t : Bool). cond t i best) h) in
        let found : IsBest f n (i + 1) best = record {
          within = b.within;
          most = λ j l. elim (cases_lt j i) [ inl below ↦ b.most j below | inr ge ↦ (let same : j ≡ i = omega arith in subst (λ (x : ℕ). f x ≤ f best) (sym same) less) ];
          earliest = b.earliest;
          seen = let s = b.seen in omega arith;
        } in
        subst (IsBest f n (i + 1)) is found

-- of counts that are found by a look-up
pub best_counted : (ws : List ℕ) (f : ℕ → ℕ) → ((w : ℕ) → f w ≡ count_of ws w) → (i best next : ℕ) → i < length ws → IsBest (λ j. count_of ws (slice_index ws j)) (length ws) i best → next ≡ cond (ltb (f (slice_index ws best)) (f (slice_index ws i))) i best → IsBest (λ j. count_of ws (slice_index ws j)) (length ws) (i + 1) next
best_counted ws f h i best next lt b e =
    best_step (λ j. count_of ws (slice_index ws j)) (length ws) i best next lt b (
    e ∙ ap (λ (n : ℕ). cond (ltb n (f (slice_index ws i))) i best) (h (slice_index ws best)) ∙ ap (λ (n : ℕ). cond (ltb (count_of ws (slice_index ws best)) n) i best) (h (slice_index ws i))
    )

-- the width there
pub is_most : (ws : List ℕ) (best w : ℕ) → IsBest (λ j. count_of ws (slice_index ws j)) (length ws) (length ws) best → w ≡ slice_index ws best → IsMostFrequent ws w
is_most ws best w b e = subst (IsMostFrequent ws) (sym e) (record { index = best; within = b.within; there = refl; most = b.most; earliest = b.earliest })
