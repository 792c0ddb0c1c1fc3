-- What moving the points costs: as many steps from any number of steps that suffices.
--   Costs                        from m steps down to r, and the same answer from as many more than the cost as are to be left
--   spent_costs, no_cost         steps that are spent, and an answer that is there
--   costs_after, costs_then     after an answer that takes no steps, and one after the other
use Rattle.std.proofs.Common.{[], ◌≡◌, ℕ, zero, suc, ◌+◌, ◌-◌, ◌≤◌, Bool, true, false, cond, List, Option, Result, Ok, Err, ℤ, pos, length, ◌==◌, if◌then◌else◌, refl, ap, ◌∙◌, arith}
use Rattle.std.specs.Prelude.{nat_le}
use Rattle.std.specs.Option.{ok_or}
use Rattle.std.specs.Ordering.{int_eq}
use Rattle.std.proofs.lemmas.Bool.{leb-true, le-leb}
use Rattle.subsetter_base.specs.Bytes.{◌>>=◌}
use Rattle.subsetter_base.specs.declared.error.Error.{Error}
use Rattle.subsetter_base.specs.declared.error.Error.TheVariants.{MalformedFont, OverflowError}
use Rattle.subsetter_base.proofs.Results.{bind_ok, done, done_is}
use Rattle.subsetter_variation.specs.Region.{scalar}
use Rattle.subsetter_variation.specs.Glyphs.Tuples.{Gvar, TupleHeader, TupleHeaders, next_header, tuple_of, tuple_headers, shared_numbers, variations_of}
use Rattle.subsetter_variation.specs.Glyphs.Movement.{Outline, Walk, counted_walk, moved_by, moved_in_bytes, moved_points, next_walk, scaled_walk, spent, start, walk_all}
use Rattle.subsetter_variation.specs.Glyphs.Varied.{in_units}

-- m - r steps are taken, and come to the answer with however many are left after them
abbrev pub Costs : {A : Type 0} → (ℕ → Result A Error) → (ℕ → A) → ℕ → ℕ → Type 0
Costs run answer m r = (r ≤ m) × ((n : ℕ) → run ((m - r) + n) ≡ Ok (answer n))

-- ---- costs in general

pub bind_with : {A B : Type 0} (r : Result A Error) (f : A → Result B Error) (x : A) (y : Result B Error) → r ≡ Ok x → f x ≡ y → (r >>= f) ≡ y
bind_with r f x y e h = ap (λ s. s >>= f) e ∙ h

none : (m r n : ℕ) → m ≡ r → (m - r) + n ≡ n
none m r n e = omega arith

pub no_cost : {A : Type 0} (given answer : ℕ → A) (m r : ℕ) → m ≡ r → ((n : ℕ) → given n ≡ answer n) → Costs (λ n. done (given n)) answer m r
no_cost given answer m r e h = (omega arith, λ n. ap (λ s. done (given s)) (none m r n e) ∙ ap (λ x. done x) (h n))

-- after an answer that takes no steps
pub costs_after : {A B : Type 0} (r : Result A Error) (x : A) (f : ℕ → A → Result B Error) (answer : ℕ → B) (m p : ℕ) → r ≡ Ok x → Costs (λ n. f n x) answer m p → Costs (λ n. r >>= f n) answer m p
costs_after r x f answer m p e h = (h.0, λ n. bind_with r (f ((m - p) + n)) x (Ok (answer n)) e (h.1 n))

in_turn : (m p r n : ℕ) → p ≤ m → r ≤ p → (m - r) + n ≡ (m - p) + ((p - r) + n)
in_turn m p r n a b = omega arith

at_most : (m p r : ℕ) → p ≤ m → r ≤ p → r ≤ m
at_most m p r a b = omega arith

-- one after the other
pub costs_then : {A B : Type 0} (run : ℕ → Result A Error) (between : ℕ → A) (f : A → Result B Error) (answer : ℕ → B) (m p r : ℕ) → Costs run between m p → Costs (λ n. f (between n)) answer p r → Costs (λ n. run n >>= f) answer m r
costs_then run between f answer m p r a b = (
  at_most m p r a.0 b.0,
  λ n. ap (λ s. run s >>= f) (in_turn m p r n a.0 b.0) ∙ bind_with (run ((m - p) + ((p - r) + n))) f (between ((p - r) + n)) (Ok (answer n)) (a.1 ((p - r) + n)) (b.1 n),
)

left_by : (b : Bool) (n steps left : ℕ) → nat_le n steps ≡ b → cond b (done (steps - n)) (Err OverflowError) ≡ Ok left → steps ≡ n + left
left_by true n steps left b e =
    let le : n ≤ steps = leb-true n steps b in
    let same : steps - n ≡ left = done_is (steps - n) left e in
    omega arith
left_by false n steps left b e = absurd cc

spent_again : (n k : ℕ) → spent n (n + k) ≡ Ok k
spent_again n k =
    let le : nat_le n (n + k) ≡ true = le-leb n (n + k) (omega arith) in
    let left : (n + k) - n ≡ k = omega arith in
    ap (λ b. cond b (done ((n + k) - n)) (Err OverflowError)) le ∙ ap (λ z. done z) left

spent_in : (n m left k : ℕ) → m ≡ n + left → (m - left) + k ≡ n + k
spent_in n m left k is = omega arith

pub spent_costs : (n m left : ℕ) → spent n m ≡ Ok left → Costs (spent n) (λ k. k) m left
spent_costs n m left e = let is : m ≡ n + left = left_by (nat_le n m) n m left refl e in (omega arith, λ k. ap (spent n) (spent_in n m left k is) ∙ spent_again n k)

-- ---- walks

with_steps : Walk → ℕ → Walk
with_steps w steps = record w { steps = steps }

counted_costs : (o : Outline) (shared : Option (List ℕ)) (s : ℤ) (h : TupleHeader) (w : Walk) (m : ℕ) (a : Walk) → counted_walk o shared s h (with_steps w m) ≡ Ok a
    → Costs (λ n. counted_walk o shared s h (with_steps w n)) (with_steps a) m a.steps
unfolding counted_walk with_steps
counted_costs o shared s h w m a e =
    let tuple = ok_or (tuple_of (length o.xs) shared h) MalformedFont in
    let p = bind_ok (spent (length o.xs) m) (λ left. tuple >>= λ t. done (moved_by o s t.numbers t.dx t.dy left w)) a e in
    let x = bind_ok tuple (λ t. done (moved_by o s t.numbers t.dx t.dy p.0 w)) a p.2 in
    let i = done_is (moved_by o s x.0.numbers x.0.dx x.0.dy p.0 w) a x.2 in
    costs_then (spent (length o.xs)) (λ n. n) (λ left. tuple >>= λ t. done (moved_by o s t.numbers t.dx t.dy left w)) (with_steps a) m p.0 a.steps (spent_costs (length o.xs) m p.0 p.1)
    (costs_after tuple x.0 (λ left t. done (moved_by o s t.numbers t.dx t.dy left w)) (with_steps a) p.0 a.steps x.1
    (no_cost (λ n. moved_by o s x.0.numbers x.0.dx x.0.dy n w) (with_steps a) p.0 a.steps (ap (λ v. v.steps) i) (λ n. ap (λ v. with_steps v n) i)))

scaled_costs : (c : Bool) (o : Outline) (shared : Option (List ℕ)) (s : ℤ) (h : TupleHeader) (w : Walk) (m : ℕ) (a : Walk) → cond c (done (with_steps w m)) (counted_walk o shared s h (with_steps w m)) ≡ Ok a
    → Costs (λ n. cond c (done (with_steps w n)) (counted_walk o shared s h (with_steps w n))) (with_steps a) m a.steps
unfolding with_steps
scaled_costs true o shared s h w m a e =
    let i = done_is (with_steps w m) a e in
    no_cost (with_steps w) (with_steps a) m a.steps (ap (λ v. v.steps) i) (λ n. ap (λ v. with_steps v n) i)
scaled_costs false o shared s h w m a e = counted_costs o shared s h w m a e

next_costs : (t : Gvar) (o : Outline) (shared : Option (List ℕ)) (at : List ℤ) (w : Walk) (m : ℕ) (a : Walk) → next_walk t o shared at (with_steps w m) ≡ Ok a
    → Costs (λ n. next_walk t o shared at (with_steps w n)) (with_steps a) m a.steps
unfolding next_walk with_steps
next_costs t o shared at w m a e =
    let header = ok_or (next_header t w.headers) MalformedFont in
    let go = λ (left : ℕ) (x : TupleHeader × TupleHeaders). scaled_walk o shared (scalar x.0.region at) x.0 (record w { steps = left; headers = x.1 }) in
    let p = bind_ok (spent 1 m) (λ left. header >>= go left) a e in
    let x = bind_ok header (go p.0) a p.2 in
    costs_then (spent 1) (λ n. n) (λ left. header >>= go left) (with_steps a) m p.0 a.steps (spent_costs 1 m p.0 p.1)
    (costs_after header x.0 go (with_steps a) p.0 a.steps x.1
    (scaled_costs (int_eq (scalar x.0.0.region at) (pos 0)) o shared (scalar x.0.0.region at) x.0.0 (record w { headers = x.0.1 }) p.0 a x.2))

all_costs : (t : Gvar) (o : Outline) (shared : Option (List ℕ)) (at : List ℤ) (k : ℕ) (w : Walk) (m : ℕ) (a : Walk) → walk_all t o shared at k (with_steps w m) ≡ Ok a
    → Costs (λ n. walk_all t o shared at k (with_steps w n)) (with_steps a) m a.steps
unfolding with_steps
all_costs t o shared at zero w m a e = scaled_costs true o shared (pos 0) (record { region = []; private_numbers = false; packed = [] }) w m a e
all_costs t o shared at (suc k) w m a e =
    let x = bind_ok (next_walk t o shared at (with_steps w m)) (walk_all t o shared at k) a e in
    costs_then (λ n. next_walk t o shared at (with_steps w n)) (with_steps x.0) (walk_all t o shared at k) (with_steps a) m x.0.steps a.steps (next_costs t o shared at w m x.0 x.1)
    (all_costs t o shared at k x.0 x.0.steps a x.2)

-- ---- points

abbrev with_left : List ℤ × List ℤ × ℕ → ℕ → List ℤ × List ℤ × ℕ
with_left a n = (a.0, a.1, n)

in_bytes_costs : (t : Gvar) (o : Outline) (at : List ℤ) (m : ℕ) (bytes : List ℕ) (a : List ℤ × List ℤ × ℕ) → moved_in_bytes t o at m bytes ≡ Ok a
    → Costs (λ n. moved_in_bytes t o at n bytes) (with_left a) m a.2
unfolding moved_in_bytes with_steps
in_bytes_costs t o at m bytes a e =
    let last = λ (w : Walk). done (w.xs, w.ys, w.steps) in
    let walked = λ (steps : ℕ) (s : Option (List ℕ) × TupleHeaders). walk_all t o s.0 at s.1.left (start o steps s.1) >>= last in
    let sharing = λ (steps : ℕ) (all : Bool × TupleHeaders). ok_or (shared_numbers (length o.xs) all.0 all.1) MalformedFont >>= walked steps in
    let p = bind_ok (ok_or (tuple_headers bytes) MalformedFont) (sharing m) a e in
    let x = bind_ok (ok_or (shared_numbers (length o.xs) p.0.0 p.0.1) MalformedFont) (walked m) a p.2 in
    let u = bind_ok (walk_all t o x.0.0 at x.0.1.left (start o m x.0.1)) last a x.2 in
    let i = done_is (u.0.xs, u.0.ys, u.0.steps) a u.2 in
    costs_after (ok_or (tuple_headers bytes) MalformedFont) p.0 sharing (with_left a) m a.2 p.1
    (costs_after (ok_or (shared_numbers (length o.xs) p.0.0 p.0.1) MalformedFont) x.0 walked (with_left a) m a.2 x.1
    (costs_then (λ n. walk_all t o x.0.0 at x.0.1.left (start o n x.0.1)) (with_steps u.0) last (with_left a) m u.0.steps a.2
    (all_costs t o x.0.0 at x.0.1.left (start o 0 x.0.1) m u.0 u.1)
    (no_cost (with_left (u.0.xs, u.0.ys, 0)) (with_left a) u.0.steps a.2 (ap (λ (z : List ℤ × List ℤ × ℕ). z.2) i) (λ n. ap (λ (z : List ℤ × List ℤ × ℕ). with_left z n) i))))

points_costs : (c : Bool) (t : Gvar) (o : Outline) (at : List ℤ) (m : ℕ) (bytes : List ℕ) (xs ys : List ℤ) (a : List ℤ × List ℤ × ℕ) → cond c (done (xs, ys, m)) (moved_in_bytes t o at m bytes) ≡ Ok a
    → Costs (λ n. cond c (done (xs, ys, n)) (moved_in_bytes t o at n bytes)) (with_left a) m a.2
points_costs true t o at m bytes xs ys a e =
    let i = done_is (xs, ys, m) a e in
    no_cost (with_left (xs, ys, 0)) (with_left a) m a.2 (ap (λ (z : List ℤ × List ℤ × ℕ). z.2) i) (λ n. ap (λ (z : List ℤ × List ℤ × ℕ). with_left z n) i)
points_costs false t o at m bytes xs ys a e = in_bytes_costs t o at m bytes a e

-- as many steps move the points to the same place, with however many left after them
pub moved_points_cost : (t : Gvar) (g : ℕ) (o : Outline) (at : List ℤ) (m : ℕ) (a : List ℤ × List ℤ × ℕ) → moved_points t g o at m ≡ Ok a → (a.2 ≤ m) × ((n : ℕ) → moved_points t g o at ((m - a.2) + n) ≡ Ok (a.0, a.1, n))
unfolding moved_points
moved_points_cost t g o at m a e =
    let go = λ (steps : ℕ) (bytes : List ℕ). if length bytes == 0 then done (in_units o.xs, in_units o.ys, steps) else moved_in_bytes t o at steps bytes in
    let p = bind_ok (ok_or (variations_of t g) MalformedFont) (go m) a e in
    costs_after (ok_or (variations_of t g) MalformedFont) p.0 go (with_left a) m a.2 p.1 (points_costs (length p.0 == 0) t o at m p.0 (in_units o.xs) (in_units o.ys) a p.2)
