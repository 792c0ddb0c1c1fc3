-- The entries that are written say each width.
use Rattle.std.proofs.Common.{◌≡◌, ℕ, suc, zero, ◌+◌, ◌-◌, ◌<◌, ◌≤◌, Bool, true, false, List, [], ◌∷◌, ◌++◌, length, take, get_or, refl, sym, ap, ◌∙◌, ◌⊎◌, inl, inr, arith, length-take, get_or-take}
use Rattle.std.specs.Prelude.{◌==◌, ◌&&◌, ◌||◌, nat_lt, nat_le}
use Rattle.std.proofs.lemmas.Bool.Decides.{nat_tests}
use Rattle.pdf_text.specs.Metrics.Arrays.{Entry, each, same, width_in, six_equal, run, listed, opened, more, entries_from}

-- ---- tests

true_test : (a b : Bool) → a ≡ true → b ≡ true → (a && b) ≡ true
true_test true b p q = q
true_test false b p q = absurd cc

false_test : (a b : Bool) → (a ≡ false) ⊎ (b ≡ false) → (a && b) ≡ false
false_test true b (inl p) = absurd cc
false_test true b (inr p) = p
false_test false b h = refl

le_true : (a b : ℕ) → a ≤ b → nat_le a b ≡ true
le_true a b l = grind (arith, nat_tests)

le_false : (a b : ℕ) → b < a → nat_le a b ≡ false
le_false a b l = grind (arith, nat_tests)

lt_true : (a b : ℕ) → a < b → nat_lt a b ≡ true
lt_true a b l = grind (arith, nat_tests)

lt_false : (a b : ℕ) → b ≤ a → nat_lt a b ≡ false
lt_false a b l = grind (arith, nat_tests)

is_equal : (a b : ℕ) → (a == b) ≡ true → a ≡ b
is_equal a b h = grind (arith, nat_tests)

pub below_or_not : (a b : ℕ) → (a < b) ⊎ (b ≤ a)
below_or_not a zero = inr (omega arith)
below_or_not zero (suc b) = inl (omega arith)
below_or_not (suc a) (suc b) = elim (below_or_not a b) [ inl l ↦ inl (omega arith) | inr l ↦ inr (omega arith) ]

-- ---- one entry

pub in_each : (first : ℕ) (ws : List ℕ) (es : List Entry) (d j : ℕ) → j < length ws → width_in (each first ws ∷ es) d (first + j) ≡ get_or ws j d
in_each first ws es d j l =
    let e : (first + j) - first ≡ j = omega arith in
    rw (e, true_test (nat_le first (first + j)) (nat_lt j (length ws)) (le_true first (first + j) (omega arith)) (lt_true j (length ws) l)) refl

pub past_each : (first : ℕ) (ws : List ℕ) (es : List Entry) (d k : ℕ) → (k < first) ⊎ (length ws ≤ k - first) → width_in (each first ws ∷ es) d k ≡ width_in es d k
past_each first ws es d k (inl l) = rw (false_test (nat_le first k) (nat_lt (k - first) (length ws)) (inl (le_false first k l))) refl
past_each first ws es d k (inr l) = rw (false_test (nat_le first k) (nat_lt (k - first) (length ws)) (inr (lt_false (k - first) (length ws) l))) refl

in_same : (first last w : ℕ) (es : List Entry) (d k : ℕ) → first ≤ k → k ≤ last → width_in (same first last w ∷ es) d k ≡ w
in_same first last w es d k l m = rw (true_test (nat_le first k) (nat_le k last) (le_true first k l) (le_true k last m)) refl

past_same : (first last w : ℕ) (es : List Entry) (d k : ℕ) → (k < first) ⊎ (last < k) → width_in (same first last w ∷ es) d k ≡ width_in es d k
past_same first last w es d k (inl l) = rw (false_test (nat_le first k) (nat_le k last) (inl (le_false first k l))) refl
past_same first last w es d k (inr l) = rw (false_test (nat_le first k) (nat_le k last) (inr (le_false k last l))) refl

-- ---- what opens at a width

-- the default width, a run, or a list
pub data Opens (most first d w : ℕ) (ws : List ℕ) : Type 0 where
  none : w ≡ d → opened most first d w ws ≡ [] → more most d w ws ≡ 0 → Opens most first d w ws
  many : opened most first d w ws ≡ same first (first + run w ws) w ∷ [] → more most d w ws ≡ run w ws → Opens most first d w ws
  list : opened most first d w ws ≡ each first (w ∷ take (listed most d ws) ws) ∷ [] → more most d w ws ≡ listed most d ws → Opens most first d w ws

opens_by : (most first d w : ℕ) (ws : List ℕ) (a b : Bool) → (w == d) ≡ a → six_equal (w ∷ ws) ≡ b → Opens most first d w ws
opens_by most first d w ws true b p q = none (is_equal w d p) (rw p refl) (rw p refl)
opens_by most first d w ws false true p q = many (rw (p, q) refl) (rw (p, q) refl)
opens_by most first d w ws false false p q = list (rw (p, q) refl) (rw (p, q) refl)

pub opens : (most first d w : ℕ) (ws : List ℕ) → Opens most first d w ws
opens most first d w ws = opens_by most first d w ws (w == d) (six_equal (w ∷ ws)) refl refl

-- ---- before the first CID the entries say nothing

past_opened : (most first d w : ℕ) (ws : List ℕ) (es : List Entry) (k : ℕ) → k < first → Opens most first d w ws → width_in (opened most first d w ws ++ es) d k ≡ width_in es d k
past_opened most first d w ws es k l (none _ e _) = rw e refl
past_opened most first d w ws es k l (many e _) = rw e (past_same first (first + run w ws) w es d k (inl l))
past_opened most first d w ws es k l (list e _) = rw e (past_each first (w ∷ take (listed most d ws) ws) es d k (inl l))

before_first : (most first d settled : ℕ) (ws : List ℕ) (k : ℕ) → k < first → width_in (entries_from most first d settled ws) d k ≡ d
before_first most first d settled [] k l = refl
before_first most first d (suc settled) (w ∷ ws) k l = before_first most (first + 1) d settled ws k (omega arith)
before_first most first d zero (w ∷ ws) k l =
    past_opened most first d w ws (entries_from most (first + 1) d (more most d w ws) ws) k l (opens most first d w ws)
    ∙ before_first most (first + 1) d (more most d w ws) ws k (omega arith)

-- ---- runs and lists

run_cases : (w v : ℕ) (ws : List ℕ) (b : Bool) → (v == w) ≡ b → ((v ≡ w) × (run w (v ∷ ws) ≡ suc (run w ws))) ⊎ (run w (v ∷ ws) ≡ 0)
run_cases w v ws true p = inl (is_equal v w p, rw p refl)
run_cases w v ws false p = inr (rw p refl)

run_step : (w v : ℕ) (ws : List ℕ) (d j : ℕ) → ((i : ℕ) → i < run w ws → get_or ws i d ≡ w) → j < run w (v ∷ ws) → ((v ≡ w) × (run w (v ∷ ws) ≡ suc (run w ws))) ⊎ (run w (v ∷ ws) ≡ 0) → get_or (v ∷ ws) j d ≡ w
run_step w v ws d zero ih l (inl (e, n)) = e
run_step w v ws d (suc j) ih l (inl (e, n)) = ih j (omega arith)
run_step w v ws d j ih l (inr n) = absurd (omega arith)

run_is : (w : ℕ) (ws : List ℕ) (d j : ℕ) → j < run w ws → get_or ws j d ≡ w
run_is w [] d j l = absurd (omega arith)
run_is w (v ∷ ws) d j l = run_step w v ws d j (run_is w ws d) l (run_cases w v ws (v == w) refl)

run_size_step : (w v : ℕ) (ws : List ℕ) → run w ws ≤ length ws → ((v ≡ w) × (run w (v ∷ ws) ≡ suc (run w ws))) ⊎ (run w (v ∷ ws) ≡ 0) → run w (v ∷ ws) ≤ suc (length ws)
run_size_step w v ws l (inl (e, n)) = omega arith
run_size_step w v ws l (inr n) = omega arith

pub run_size : (w : ℕ) (ws : List ℕ) → run w ws ≤ length ws
run_size w [] = omega arith
run_size w (v ∷ ws) = run_size_step w v ws (run_size w ws) (run_cases w v ws (v == w) refl)

listed_cases : (most d w : ℕ) (ws : List ℕ) (b : Bool) → (most == 0 || (w == d || six_equal (w ∷ ws))) ≡ b → (listed most d (w ∷ ws) ≡ 0) ⊎ (listed most d (w ∷ ws) ≡ suc (listed (most - 1) d ws))
listed_cases most d w ws true p = inl (rw p refl)
listed_cases most d w ws false p = inr (rw p refl)

listed_step : (most d w : ℕ) (ws : List ℕ) → listed (most - 1) d ws ≤ length ws → (listed most d (w ∷ ws) ≡ 0) ⊎ (listed most d (w ∷ ws) ≡ suc (listed (most - 1) d ws)) → listed most d (w ∷ ws) ≤ suc (length ws)
listed_step most d w ws l (inl e) = omega arith
listed_step most d w ws l (inr e) = omega arith

pub listed_size : (most d : ℕ) (ws : List ℕ) → listed most d ws ≤ length ws
listed_size most d [] = omega arith
listed_size most d (w ∷ ws) = listed_step most d w ws (listed_size (most - 1) d ws) (listed_cases most d w ws _ refl)

positive : (n : ℕ) → (n == 0) ≡ false → 0 < n
positive n h = grind (arith, nat_tests)

first_false : (a b : Bool) → (a || b) ≡ false → a ≡ false
first_false false b h = refl
first_false true b h = absurd cc

pub listed_or_not : (most d w : ℕ) (ws : List ℕ) (b : Bool) → (most == 0 || (w == d || six_equal (w ∷ ws))) ≡ b → (listed most d (w ∷ ws) ≡ 0) ⊎ ((0 < most) × (listed most d (w ∷ ws) ≡ suc (listed (most - 1) d ws)))
listed_or_not most d w ws true p = inl (rw p refl)
listed_or_not most d w ws false p = inr (positive most (first_false (most == 0) (w == d || six_equal (w ∷ ws)) p), rw p refl)

-- ---- all

pub taken : (n : ℕ) (ws : List ℕ) (d i : ℕ) → i < n → get_or (take n ws) i d ≡ get_or ws i d
taken n ws d i l = rw get_or-take refl

pub taken_size : (n : ℕ) (ws : List ℕ) → n ≤ length ws → length (take n ws) ≡ n
taken_size n ws l = simp length-take (omega arith)

-- after what opens at a width
module _ (most first d w : ℕ) (ws : List ℕ) (es : List Entry) (before : (k : ℕ) → k < first + 1 → width_in es d k ≡ d) (later : (i : ℕ) → more most d w ws ≤ i → width_in es d ((first + 1) + i) ≡ get_or ws i d) where
  following : (i : ℕ) → more most d w ws ≤ i → width_in es d (first + suc i) ≡ get_or ws i d
  following i l = let e : first + suc i ≡ (first + 1) + i = omega arith in ap (λ k. width_in es d k) e ∙ later i l

  at_many : (i : ℕ) → more most d w ws ≡ run w ws → (i < run w ws) ⊎ (run w ws ≤ i) → width_in (same first (first + run w ws) w ∷ es) d (first + suc i) ≡ get_or ws i d
  at_many i m (inl l) = in_same first (first + run w ws) w es d (first + suc i) (omega arith) (omega arith) ∙ sym (run_is w ws d i l)
  at_many i m (inr l) = past_same first (first + run w ws) w es d (first + suc i) (inr (omega arith)) ∙ following i (omega arith)

  at_list : (i n : ℕ) → n ≤ length ws → more most d w ws ≡ n → (i < n) ⊎ (n ≤ i) → width_in (each first (w ∷ take n ws) ∷ es) d (first + suc i) ≡ get_or ws i d
  at_list i n size m (inl l) =
      let e : length (take n ws) ≡ n = taken_size n ws size in
      in_each first (w ∷ take n ws) es d (suc i) (omega arith) ∙ taken n ws d i l
  at_list i n size m (inr l) =
      let e : length (take n ws) ≡ n = taken_size n ws size in
      past_each first (w ∷ take n ws) es d (first + suc i) (inr (omega arith)) ∙ following i (omega arith)

  at_opened : (j : ℕ) → Opens most first d w ws → width_in (opened most first d w ws ++ es) d (first + j) ≡ get_or (w ∷ ws) j d
  at_opened zero (none p e m) = rw e (before (first + 0) (omega arith) ∙ sym p)
  at_opened (suc i) (none p e m) = rw e (following i (omega arith))
  at_opened zero (many e m) = rw e (in_same first (first + run w ws) w es d (first + 0) (omega arith) (omega arith))
  at_opened (suc i) (many e m) = rw e (at_many i m (below_or_not i (run w ws)))
  at_opened zero (list e m) = rw e (in_each first (w ∷ take (listed most d ws) ws) es d 0 (omega arith))
  at_opened (suc i) (list e m) = rw e (at_list i (listed most d ws) (listed_size most d ws) m (below_or_not i (listed most d ws)))

pub reads : (most : ℕ) (ws : List ℕ) (first d settled j : ℕ) → settled ≤ j → width_in (entries_from most first d settled ws) d (first + j) ≡ get_or ws j d
reads most [] first d settled j l = refl
reads most (w ∷ ws) first d (suc settled) zero l = absurd (omega arith)
reads most (w ∷ ws) first d (suc settled) (suc j) l =
    let e : first + suc j ≡ (first + 1) + j = omega arith in
    ap (λ k. width_in (entries_from most (first + 1) d settled ws) d k) e ∙ reads most ws (first + 1) d settled j (omega arith)
reads most (w ∷ ws) first d zero j l =
    at_opened most first d w ws (entries_from most (first + 1) d (more most d w ws) ws)
    (λ k m. before_first most (first + 1) d (more most d w ws) ws k m) (λ i m. reads most ws (first + 1) d (more most d w ws) i m) j (opens most first d w ws)

pub entries_are_read : (most : ℕ) (ws : List ℕ) (d k : ℕ) → width_in (entries_from most 0 d 0 ws) d k ≡ get_or ws k d
entries_are_read most ws d k =
    let e : 0 + k ≡ k = omega arith in
    ap (λ i. width_in (entries_from most 0 d 0 ws) d i) (sym e) ∙ reads most ws 0 d 0 k (omega arith)
