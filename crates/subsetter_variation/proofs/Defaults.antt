-- At the default the points of a glyph stay where they are.
use Rattle.std.proofs.Common.{◌≡◌, ℕ, zero, suc, Bool, true, false, cond, List, Option, Some, Ok, ℤ, pos, length, ◌==◌, if◌then◌else◌, All, refl, ap, sym, subst, ◌∙◌}
use Rattle.std.specs.Option.{ok_or}
use Rattle.subsetter_base.specs.Bytes.{◌>>=◌}
use Rattle.subsetter_base.specs.declared.error.Error.TheVariants.{MalformedFont}
use Rattle.subsetter_base.proofs.Results.{bind_ok, done, done_is, named_ok}
use Rattle.subsetter_variation.specs.Region.{scalar}
use Rattle.subsetter_variation.specs.Glyphs.Tuples.{Gvar, TupleHeader, TupleHeaders, next_header, shared_numbers, tuple_headers, variations_of}
use Rattle.subsetter_variation.specs.Glyphs.Movement.{Outline, Walk, moved_in_bytes, moved_points, next_walk, scaled_walk, spent, start, walk_all}
use Rattle.subsetter_variation.specs.Glyphs.Varied.{in_units}
use Rattle.subsetter_variation.specs.VariationLaws.{HaveAxes, IsUnvariedAtDefault}
use Rattle.subsetter_variation.proofs.Masters.{is_nothing_at_default}

-- a tuple whose scalar is 0 is passed over
passed : (t : Gvar) (o : Outline) (shared : Option (List ℕ)) (at : List ℤ) (w v : Walk) → ((next : TupleHeader × TupleHeaders) → next_header t w.headers ≡ Some next → scalar next.0.region at ≡ pos 0) → next_walk t o shared at w ≡ Ok v → (next : TupleHeader × TupleHeaders) × (next_header t w.headers ≡ Some next) × (v.xs ≡ w.xs) × (v.ys ≡ w.ys) × (v.headers ≡ next.1)
unfolding next_walk
passed t o shared at w v nothing e =
    let go = λ (left : ℕ) (x : TupleHeader × TupleHeaders). scaled_walk o shared (scalar x.0.region at) x.0 (record w { steps = left; headers = x.1 }) in
    let p = bind_ok (spent 1 w.steps) (λ left. ok_or (next_header t w.headers) MalformedFont >>= go left) v e in
    let x = bind_ok (ok_or (next_header t w.headers) MalformedFont) (go p.0) v p.2 in
    let there = named_ok (next_header t w.headers) MalformedFont x.0 x.1 in
    let l = ap (λ s. scaled_walk o shared s x.0.0 (record w { steps = p.0; headers = x.0.1 })) (sym (nothing x.0 there)) ∙ x.2 in
    let i = done_is (record w { steps = p.0; headers = x.0.1 }) v l in
    (x.0, there, ap (λ z. z.xs) (sym i), ap (λ z. z.ys) (sym i), ap (λ z. z.headers) (sym i))

all_stay : (t : Gvar) (o : Outline) (shared : Option (List ℕ)) (at : List ℤ) (n : ℕ) (w v : Walk) → All (λ c. c ≡ pos 0) at → HaveAxes t (length at) n w.headers → walk_all t o shared at n w ≡ Ok v → (v.xs ≡ w.xs) × (v.ys ≡ w.ys)
all_stay t o shared at zero w v zeros bound e =
    let i = done_is w v e in
    (ap (λ z. z.xs) (sym i), ap (λ z. z.ys) (sym i))
all_stay t o shared at (suc n) w v zeros bound e =
    let x = bind_ok (next_walk t o shared at w) (walk_all t o shared at n) v e in
    let one = passed t o shared at w x.0 (λ next h. let b = bound next h in is_nothing_at_default next.0.region at b.1.0 b.1.1 b.0 zeros b.1.2 b.1.3) x.1 in
    let more : HaveAxes t (length at) n x.0.headers = subst (HaveAxes t (length at) n) (sym one.4) (bound one.0 one.1).2 in
    let rest = all_stay t o shared at n x.0 v zeros more x.2 in
    (rest.0 ∙ one.2, rest.1 ∙ one.3)

-- what is answered has the walk's points
told : (xs ys p q : List ℤ) (n : ℕ) (a : List ℤ × List ℤ × ℕ) → done (xs, ys, n) ≡ Ok a → xs ≡ p → ys ≡ q → (a.0 ≡ p) × (a.1 ≡ q)
told xs ys p q n a e f g =
    let i = done_is (xs, ys, n) a e in
    (ap (λ z. z.0) (sym i) ∙ f, ap (λ z. z.1) (sym i) ∙ g)

in_bytes_stay : (t : Gvar) (o : Outline) (at : List ℤ) (steps : ℕ) (bytes : List ℕ) (a : List ℤ × List ℤ × ℕ) → All (λ c. c ≡ pos 0) at → ((all : Bool × TupleHeaders) (shared : Option (List ℕ) × TupleHeaders) → tuple_headers bytes ≡ Some all → shared_numbers (length o.xs) all.0 all.1 ≡ Some shared → HaveAxes t (length at) shared.1.left shared.1) → moved_in_bytes t o at steps bytes ≡ Ok a → (a.0 ≡ in_units o.xs) × (a.1 ≡ in_units o.ys)
unfolding moved_in_bytes
in_bytes_stay t o at steps bytes a zeros bound e =
    let last = λ (w : Walk). done (w.xs, w.ys, w.steps) in
    let walked = λ (s : Option (List ℕ) × TupleHeaders). walk_all t o s.0 at s.1.left (start o steps s.1) >>= last in
    let sharing = λ (all : Bool × TupleHeaders). ok_or (shared_numbers (length o.xs) all.0 all.1) MalformedFont >>= walked in
    let p = bind_ok (ok_or (tuple_headers bytes) MalformedFont) sharing a e in
    let x = bind_ok (ok_or (shared_numbers (length o.xs) p.0.0 p.0.1) MalformedFont) walked a p.2 in
    let u = bind_ok (walk_all t o x.0.0 at x.0.1.left (start o steps x.0.1)) last a x.2 in
    let here = bound p.0 x.0 (named_ok (tuple_headers bytes) MalformedFont p.0 p.1) (named_ok (shared_numbers (length o.xs) p.0.0 p.0.1) MalformedFont x.0 x.1) in
    let same = all_stay t o x.0.0 at x.0.1.left (start o steps x.0.1) u.0 zeros here u.1 in
    told u.0.xs u.0.ys (in_units o.xs) (in_units o.ys) u.0.steps a u.2 same.0 same.1

points_stay : (c : Bool) (t : Gvar) (o : Outline) (at : List ℤ) (steps : ℕ) (bytes : List ℕ) (xs ys : List ℤ) (a : List ℤ × List ℤ × ℕ) → (moved_in_bytes t o at steps bytes ≡ Ok a → (a.0 ≡ xs) × (a.1 ≡ ys)) → cond c (done (xs, ys, steps)) (moved_in_bytes t o at steps bytes) ≡ Ok a → (a.0 ≡ xs) × (a.1 ≡ ys)
points_stay true t o at steps bytes xs ys a stay e = told xs ys xs ys steps a e refl refl
points_stay false t o at steps bytes xs ys a stay e = stay e

pub stays_at_default : IsUnvariedAtDefault
unfolding moved_points
stays_at_default t g o at steps a zeros bound e =
    let go = λ (bytes : List ℕ). if length bytes == 0 then done (in_units o.xs, in_units o.ys, steps) else moved_in_bytes t o at steps bytes in
    let p = bind_ok (ok_or (variations_of t g) MalformedFont) go a e in
    let there = named_ok (variations_of t g) MalformedFont p.0 p.1 in
    points_stay (length p.0 == 0) t o at steps p.0 (in_units o.xs) (in_units o.ys) a (in_bytes_stay t o at steps p.0 a zeros (λ all shared h k. bound p.0 all shared there h k)) p.2
