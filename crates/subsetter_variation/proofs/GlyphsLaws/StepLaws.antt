-- What the number of steps decides: whether points move, and not where to.
use Rattle.std.proofs.Common.{[], ◌≡◌, ℕ, zero, suc, Bool, true, false, cond, List, Option, Result, Ok, ℤ, pos, length, ◌==◌, if◌then◌else◌, ap, sym, ◌∙◌}
use Rattle.std.specs.Option.{ok_or}
use Rattle.std.specs.Ordering.{int_eq}
use Rattle.subsetter_base.specs.Bytes.{◌>>=◌}
use Rattle.subsetter_base.specs.declared.error.Error.{Error}
use Rattle.subsetter_base.specs.declared.error.Error.TheVariants.{MalformedFont}
use Rattle.subsetter_base.proofs.Results.{bind_ok, done, done_is}
use Rattle.subsetter_variation.specs.Region.{scalar}
use Rattle.subsetter_variation.specs.Glyphs.Tuples.{Gvar, TupleHeader, TupleHeaders, next_header, tuple_of, tuple_headers, shared_numbers, variations_of}
use Rattle.subsetter_variation.specs.Glyphs.Movement.{Outline, Walk, counted_walk, moved_by, moved_in_bytes, moved_points, next_walk, scaled_walk, spent, start, walk_all}
use Rattle.subsetter_variation.specs.Glyphs.Varied.{in_units}
use Rattle.subsetter_variation.specs.VariationLaws.{IsPassedOver, IsSameAtAnySteps}

-- the same answer twice
one_answer : {A : Type 0} (r : Result A Error) (x y : A) → r ≡ Ok x → r ≡ Ok y → x ≡ y
one_answer r x y e f = done_is x y (sym e ∙ f)

-- but for the steps that are left, two walks are at one place
Alike : Walk → Walk → Type 0
Alike w v = (w.xs ≡ v.xs) × (w.ys ≡ v.ys) × (w.headers ≡ v.headers)

with_steps : Walk → ℕ → Walk
with_steps w steps = record w { steps = steps }

counted_alike : (o : Outline) (shared : Option (List ℕ)) (s : ℤ) (h : TupleHeader) (w : Walk) (m n : ℕ) (a b : Walk) → counted_walk o shared s h (with_steps w m) ≡ Ok a → counted_walk o shared s h (with_steps w n) ≡ Ok b → Alike a b
unfolding counted_walk Alike with_steps
counted_alike o shared s h w m n a b e f =
    let p = bind_ok (spent (length o.xs) m) (λ left. ok_or (tuple_of (length o.xs) shared h) MalformedFont >>= λ t. Ok (moved_by o s t.numbers t.dx t.dy left (record w { steps = m }))) a e in
    let q = bind_ok (spent (length o.xs) n) (λ left. ok_or (tuple_of (length o.xs) shared h) MalformedFont >>= λ t. Ok (moved_by o s t.numbers t.dx t.dy left (record w { steps = n }))) b f in
    let x = bind_ok (ok_or (tuple_of (length o.xs) shared h) MalformedFont) (λ t. Ok (moved_by o s t.numbers t.dx t.dy p.0 (record w { steps = m }))) a p.2 in
    let y = bind_ok (ok_or (tuple_of (length o.xs) shared h) MalformedFont) (λ t. Ok (moved_by o s t.numbers t.dx t.dy q.0 (record w { steps = n }))) b q.2 in
    let t : x.0 ≡ y.0 = one_answer (ok_or (tuple_of (length o.xs) shared h) MalformedFont) x.0 y.0 x.1 y.1 in
    let i = done_is (moved_by o s x.0.numbers x.0.dx x.0.dy p.0 (record w { steps = m })) a x.2 in
    let j = done_is (moved_by o s y.0.numbers y.0.dx y.0.dy q.0 (record w { steps = n })) b y.2 in (
      ap (λ v. v.xs) (sym i) ∙ ap (λ u. (moved_by o s u.numbers u.dx u.dy 0 w).xs) t ∙ ap (λ v. v.xs) j,
      ap (λ v. v.ys) (sym i) ∙ ap (λ u. (moved_by o s u.numbers u.dx u.dy 0 w).ys) t ∙ ap (λ v. v.ys) j,
      ap (λ v. v.headers) (sym i) ∙ ap (λ v. v.headers) j,
    )

scaled_alike : (c : Bool) (o : Outline) (shared : Option (List ℕ)) (s : ℤ) (h : TupleHeader) (w : Walk) (m n : ℕ) (a b : Walk) → cond c (Ok (with_steps w m)) (counted_walk o shared s h (with_steps w m)) ≡ Ok a → cond c (Ok (with_steps w n)) (counted_walk o shared s h (with_steps w n)) ≡ Ok b → Alike a b
unfolding Alike with_steps
scaled_alike true o shared s h w m n a b e f =
    let i = done_is (record w { steps = m }) a e in
    let j = done_is (record w { steps = n }) b f in
    (ap (λ v. v.xs) (sym i) ∙ ap (λ v. v.xs) j, ap (λ v. v.ys) (sym i) ∙ ap (λ v. v.ys) j, ap (λ v. v.headers) (sym i) ∙ ap (λ v. v.headers) j)
scaled_alike false o shared s h w m n a b e f = counted_alike o shared s h w m n a b e f

next_alike : (t : Gvar) (o : Outline) (shared : Option (List ℕ)) (at : List ℤ) (w : Walk) (m n : ℕ) (a b : Walk) → next_walk t o shared at (with_steps w m) ≡ Ok a → next_walk t o shared at (with_steps w n) ≡ Ok b → Alike a b
unfolding next_walk with_steps
next_alike t o shared at w m n a b e f =
    let go = λ (left : ℕ) (x : TupleHeader × TupleHeaders). scaled_walk o shared (scalar x.0.region at) x.0 (record w { steps = left; headers = x.1 }) in
    let p = bind_ok (spent 1 m) (λ left. ok_or (next_header t w.headers) MalformedFont >>= go left) a e in
    let q = bind_ok (spent 1 n) (λ left. ok_or (next_header t w.headers) MalformedFont >>= go left) b f in
    let x = bind_ok (ok_or (next_header t w.headers) MalformedFont) (go p.0) a p.2 in
    let y = bind_ok (ok_or (next_header t w.headers) MalformedFont) (go q.0) b q.2 in
    let same : y.0 ≡ x.0 = one_answer (ok_or (next_header t w.headers) MalformedFont) y.0 x.0 y.1 x.1 in
    scaled_alike (int_eq (scalar x.0.0.region at) (pos 0)) o shared (scalar x.0.0.region at) x.0.0 (record w { headers = x.0.1 }) p.0 q.0 a b x.2 (ap (λ z. go q.0 z) (sym same) ∙ y.2)

walk_of : List ℤ → List ℤ → ℕ → TupleHeaders → Walk
walk_of xs ys steps headers = record { xs = xs; ys = ys; steps = steps; headers = headers }

steps_apart : (a b : Walk) → a.xs ≡ b.xs → a.ys ≡ b.ys → a.headers ≡ b.headers → with_steps a b.steps ≡ b
unfolding walk_of with_steps
steps_apart a b e f g =
    ap (λ xs. walk_of xs a.ys b.steps a.headers) e
    ∙ ap (λ ys. walk_of b.xs ys b.steps a.headers) f
    ∙ ap (λ headers. walk_of b.xs b.ys b.steps headers) g

all_alike : (t : Gvar) (o : Outline) (shared : Option (List ℕ)) (at : List ℤ) (k : ℕ) (w : Walk) (m n : ℕ) (a b : Walk) → walk_all t o shared at k (with_steps w m) ≡ Ok a → walk_all t o shared at k (with_steps w n) ≡ Ok b → Alike a b
unfolding Alike with_steps
all_alike t o shared at zero w m n a b e f = scaled_alike true o shared (pos 0) (record { region = []; private_numbers = false; packed = [] }) w m n a b e f
all_alike t o shared at (suc k) w m n a b e f =
    let x = bind_ok (next_walk t o shared at (record w { steps = m })) (walk_all t o shared at k) a e in
    let y = bind_ok (next_walk t o shared at (record w { steps = n })) (walk_all t o shared at k) b f in
    let same = next_alike t o shared at w m n x.0 y.0 x.1 y.1 in
    let here = steps_apart x.0 y.0 same.0 same.1 same.2 in
    all_alike t o shared at k x.0 x.0.steps y.0.steps a b x.2 (ap (walk_all t o shared at k) here ∙ y.2)

in_bytes_alike : (t : Gvar) (o : Outline) (at : List ℤ) (m n : ℕ) (bytes : List ℕ) (a b : List ℤ × List ℤ × ℕ) → moved_in_bytes t o at m bytes ≡ Ok a → moved_in_bytes t o at n bytes ≡ Ok b → (a.0 ≡ b.0) × (a.1 ≡ b.1)
unfolding moved_in_bytes Alike with_steps
in_bytes_alike t o at m n bytes a b e f =
    let last = λ (w : Walk). done (w.xs, w.ys, w.steps) in
    let walked = λ (steps : ℕ) (s : Option (List ℕ) × TupleHeaders). walk_all t o s.0 at s.1.left (start o steps s.1) >>= last in
    let sharing = λ (steps : ℕ) (all : Bool × TupleHeaders). ok_or (shared_numbers (length o.xs) all.0 all.1) MalformedFont >>= walked steps in
    let p = bind_ok (ok_or (tuple_headers bytes) MalformedFont) (sharing m) a e in
    let q = bind_ok (ok_or (tuple_headers bytes) MalformedFont) (sharing n) b f in
    let one : q.0 ≡ p.0 = one_answer (ok_or (tuple_headers bytes) MalformedFont) q.0 p.0 q.1 p.1 in
    let x = bind_ok (ok_or (shared_numbers (length o.xs) p.0.0 p.0.1) MalformedFont) (walked m) a p.2 in
    let y = bind_ok (ok_or (shared_numbers (length o.xs) p.0.0 p.0.1) MalformedFont) (walked n) b (ap (λ z. sharing n z) (sym one) ∙ q.2) in
    let two : y.0 ≡ x.0 = one_answer (ok_or (shared_numbers (length o.xs) p.0.0 p.0.1) MalformedFont) y.0 x.0 y.1 x.1 in
    let u = bind_ok (walk_all t o x.0.0 at x.0.1.left (start o m x.0.1)) last a x.2 in
    let v = bind_ok (walk_all t o x.0.0 at x.0.1.left (start o n x.0.1)) last b (ap (λ z. walked n z) (sym two) ∙ y.2) in
    let same = all_alike t o x.0.0 at x.0.1.left (start o 0 x.0.1) m n u.0 v.0 u.1 v.1 in
    let i = done_is (u.0.xs, u.0.ys, u.0.steps) a u.2 in
    let j = done_is (v.0.xs, v.0.ys, v.0.steps) b v.2 in
    (ap (λ z. z.0) (sym i) ∙ same.0 ∙ ap (λ z. z.0) j, ap (λ z. z.1) (sym i) ∙ same.1 ∙ ap (λ z. z.1) j)

points_alike : (c : Bool) (t : Gvar) (o : Outline) (at : List ℤ) (m n : ℕ) (bytes : List ℕ) (xs ys : List ℤ) (a b : List ℤ × List ℤ × ℕ) → cond c (done (xs, ys, m)) (moved_in_bytes t o at m bytes) ≡ Ok a → cond c (done (xs, ys, n)) (moved_in_bytes t o at n bytes) ≡ Ok b → (a.0 ≡ b.0) × (a.1 ≡ b.1)
points_alike true t o at m n bytes xs ys a b e f =
    let i = done_is (xs, ys, m) a e in
    let j = done_is (xs, ys, n) b f in
    (ap (λ z. z.0) (sym i) ∙ ap (λ z. z.0) j, ap (λ z. z.1) (sym i) ∙ ap (λ z. z.1) j)
points_alike false t o at m n bytes xs ys a b e f = in_bytes_alike t o at m n bytes a b e f

pub is_same_at_any_steps : IsSameAtAnySteps
unfolding moved_points
is_same_at_any_steps t g o at m n a b e f =
    let go = λ (steps : ℕ) (bytes : List ℕ). if length bytes == 0 then done (in_units o.xs, in_units o.ys, steps) else moved_in_bytes t o at steps bytes in
    let p = bind_ok (ok_or (variations_of t g) MalformedFont) (go m) a e in
    let q = bind_ok (ok_or (variations_of t g) MalformedFont) (go n) b f in
    let same : q.0 ≡ p.0 = one_answer (ok_or (variations_of t g) MalformedFont) q.0 p.0 q.1 p.1 in
    points_alike (length p.0 == 0) t o at m n p.0 (in_units o.xs) (in_units o.ys) a b p.2 (ap (λ z. go n z) (sym same) ∙ q.2)

-- ---- a tuple that doesn't count

pub is_passed_over : IsPassedOver
unfolding next_walk
is_passed_over t o shared at w v h rest e z f =
    let go = λ (left : ℕ) (x : TupleHeader × TupleHeaders). scaled_walk o shared (scalar x.0.region at) x.0 (record w { steps = left; headers = x.1 }) in
    let p = bind_ok (spent 1 w.steps) (λ left. ok_or (next_header t w.headers) MalformedFont >>= go left) v f in
    let k = ap (λ r. ok_or r MalformedFont >>= go p.0) (sym e) ∙ p.2 in
    let l = ap (λ s. scaled_walk o shared s h (record w { steps = p.0; headers = rest })) (sym z) ∙ k in
    let i = done_is (record w { steps = p.0; headers = rest }) v l in
    (ap (λ x. x.xs) (sym i), ap (λ x. x.ys) (sym i))
