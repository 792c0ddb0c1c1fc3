-- A composite glyph that is unfolded in two numbers of steps comes to the same, if its components do.
use Rattle.std.proofs.Common.{◌≡◌, ℕ, zero, suc, ◌+◌, Bool, true, false, cond, List, [], ◌∷◌, length, Result, Ok, Err, ℤ, pos, sym, ap, ◌∙◌}
use Rattle.std.specs.Prelude.{nat_lt, slice_index_or}
use Rattle.std.specs.List.{range_with_len}
use Rattle.std.specs.Option.{ok_or}
use Rattle.subsetter_base.specs.Bytes.{◌>>=◌, has_flag}
use Rattle.subsetter_base.specs.declared.error.Error.{Error}
use Rattle.subsetter_base.specs.declared.error.Error.TheVariants.{MalformedFont, OverflowError}
use Rattle.subsetter_base.proofs.Results.{done_is, bind_ok}
use Rattle.subsetter_points.specs.Simple.{after}
use Rattle.subsetter_variation.specs.Glyphs.Movement.{Outline, spent}
use Rattle.subsetter_instance.specs.declared.glyphs.components.Component.{Component}
use Rattle.subsetter_sfnt.specs.declared.fields.hmtx.LongHorMetric.{LongHorMetric}
use Rattle.subsetter_instance.specs.Glyphs.Components.{component_at, components_at, offset_xs, offset_ys}
use Rattle.subsetter_instance.specs.Source.{Source}
use Rattle.subsetter_instance.specs.Glyphs.Unfolded.{Child, Composite, Unfolded, composite, joined, joined_or_fault, joined_parts, left_point, moved, in_range_or_fault, no_points, placed, right_point, unfolded_composite, with_component, with_metrics, with_part, with_phantoms}
use Rattle.subsetter_instance.proofs.SameLaws.Simple.{MoveAlike, near_is, one_answer}

-- the same of a glyph by two ways, whatever the steps
abbrev pub IsAlike : Child → Child → Type 0
IsAlike child other = (m n g : ℕ) (u v : Unfolded × ℕ) → child m g ≡ Ok u → other n g ≡ Ok v → u.0 ≡ v.0

-- ---- the components

abbrev AreAlike : ℕ → ℕ → Type 0
AreAlike m n = (rest : List ℕ) (a b : List Component × ℕ) → components_at m rest ≡ Ok a → components_at n rest ≡ Ok b → a.0 ≡ b.0

abbrev next : ℕ → Component × List ℕ → Result (List Component × ℕ) Error
next k c = cond (has_flag c.0.flags 0x0020) (components_at k c.1 >>= λ more. Ok (c.0 ∷ more.0, more.1)) (Ok (c.0 ∷ [], k))

chain_by : (m n : ℕ) → AreAlike m n → (a b : List Component × ℕ) (c : Component × List ℕ) (t : Bool)
    → cond t (components_at m c.1 >>= λ more. Ok (c.0 ∷ more.0, more.1)) (Ok (c.0 ∷ [], m)) ≡ Ok a → cond t (components_at n c.1 >>= λ more. Ok (c.0 ∷ more.0, more.1)) (Ok (c.0 ∷ [], n)) ≡ Ok b → a.0 ≡ b.0
chain_by m n alike a b c true x y =
    let p = bind_ok (components_at m c.1) (λ more. Ok (c.0 ∷ more.0, more.1)) a x in
    let q = bind_ok (components_at n c.1) (λ more. Ok (c.0 ∷ more.0, more.1)) b y in
    sym (ap (λ (r : List Component × ℕ). r.0) (done_is (c.0 ∷ p.0.0, p.0.1) a p.2)) ∙ ap (λ l. c.0 ∷ l) (alike c.1 p.0 q.0 p.1 q.1) ∙ ap (λ (r : List Component × ℕ). r.0) (done_is (c.0 ∷ q.0.0, q.0.1) b q.2)
chain_by m n alike a b c false x y =
    sym (ap (λ (r : List Component × ℕ). r.0) (done_is (c.0 ∷ [], m) a x)) ∙ ap (λ (r : List Component × ℕ). r.0) (done_is (c.0 ∷ [], n) b y)

chain_alike : (m n : ℕ) → AreAlike m n
unfolding components_at
chain_alike zero n rest a b e f = absurd cc
chain_alike (suc m) zero rest a b e f = absurd cc
chain_alike (suc m) (suc n) rest a b e f =
    let p = bind_ok (ok_or (component_at rest) MalformedFont) (next m) a e in
    let q = bind_ok (ok_or (component_at rest) MalformedFont) (next n) b f in
    let same : q.0 ≡ p.0 = one_answer (ok_or (component_at rest) MalformedFont) q.0 p.0 q.1 p.1 in
    chain_by m n (chain_alike m n) a b p.0 (has_flag p.0.0.flags 0x0020) p.2 (ap (next n) (sym same) ∙ q.2)

-- ---- their offsets

abbrev outline : List Component → Outline
outline cs = with_phantoms (range_with_len 0 (length cs)) (offset_xs cs) (offset_ys cs)

abbrev answer : List ℕ → LongHorMetric → List Component → List ℤ × List ℤ × ℕ → Composite
answer bytes k cs to = record { components = cs; xs = to.0; ys = to.1; left = left_point bytes k (length cs) to.0; right = right_point bytes k (length cs) to.0; steps = to.2 }

abbrev base : List ℕ → LongHorMetric → List Component → List ℤ → Unfolded
base bytes k cs xs = no_points (left_point bytes k (length cs) xs) (right_point bytes k (length cs) xs)

abbrev AreSame : Composite → Composite → Type 0
AreSame a b = (a.components ≡ b.components) × (a.xs ≡ b.xs) × (a.ys ≡ b.ys) × (no_points a.left a.right ≡ no_points b.left b.right)

offsets_alike : (s z : Source) (at : List ℤ) → MoveAlike s z at → (m n g : ℕ) (bytes : List ℕ) (k : LongHorMetric) (a b : Composite) → composite s at m g bytes k ≡ Ok a → composite z at n g bytes k ≡ Ok b → AreSame a b
unfolding composite
offsets_alike s z at alike m n g bytes k a b e f =
    let last = λ (cs : List Component × ℕ). moved s.gvar g (outline cs.0) at cs.1 >>= λ to. Ok (answer bytes k cs.0 to) in
    let p1 = bind_ok (spent 5 m) (λ left. ok_or (after 10 bytes) MalformedFont >>= λ body. components_at left body >>= last) a e in
    let also = λ (cs : List Component × ℕ). moved z.gvar g (outline cs.0) at cs.1 >>= λ to. Ok (answer bytes k cs.0 to) in
    let q1 = bind_ok (spent 5 n) (λ left. ok_or (after 10 bytes) MalformedFont >>= λ body. components_at left body >>= also) b f in
    let p2 = bind_ok (ok_or (after 10 bytes) MalformedFont) (λ body. components_at p1.0 body >>= last) a p1.2 in
    let q2 = bind_ok (ok_or (after 10 bytes) MalformedFont) (λ body. components_at q1.0 body >>= also) b q1.2 in
    let body : p2.0 ≡ q2.0 = one_answer (ok_or (after 10 bytes) MalformedFont) p2.0 q2.0 p2.1 q2.1 in
    let p3 = bind_ok (components_at p1.0 p2.0) last a p2.2 in
    let q3 = bind_ok (components_at q1.0 q2.0) also b q2.2 in
    let cs : p3.0.0 ≡ q3.0.0 = chain_alike p1.0 q1.0 p2.0 p3.0 q3.0 p3.1 (ap (components_at q1.0) body ∙ q3.1) in
    let p4 = bind_ok (moved s.gvar g (outline p3.0.0) at p3.0.1) (λ to. Ok (answer bytes k p3.0.0 to)) a p3.2 in
    let q4 = bind_ok (moved z.gvar g (outline q3.0.0) at q3.0.1) (λ to. Ok (answer bytes k q3.0.0 to)) b q3.2 in
    let to = alike g (outline p3.0.0) p3.0.1 q3.0.1 p4.0 q4.0 p4.1 (ap (λ (c : List Component). moved z.gvar g (outline c) at q3.0.1) cs ∙ q4.1) in
    let x = done_is (answer bytes k p3.0.0 p4.0) a p4.2 in
    let y = done_is (answer bytes k q3.0.0 q4.0) b q4.2 in (
      sym (ap (λ (c : Composite). c.components) x) ∙ cs ∙ ap (λ (c : Composite). c.components) y,
      sym (ap (λ (c : Composite). c.xs) x) ∙ to.0 ∙ ap (λ (c : Composite). c.xs) y,
      sym (ap (λ (c : Composite). c.ys) x) ∙ to.1 ∙ ap (λ (c : Composite). c.ys) y,
      sym (ap (λ (c : Composite). no_points c.left c.right) x) ∙ ap (λ (c : List Component). base bytes k c p4.0.0) cs ∙ ap (λ (xs : List ℤ). base bytes k q3.0.0 xs) to.0 ∙ ap (λ (c : Composite). no_points c.left c.right) y,
    )

-- ---- one component after the other

joined_is : (before part : Unfolded) (steps : ℕ) (r : Unfolded × ℕ) → joined_or_fault before part steps ≡ Ok r → r.0 ≡ joined_parts before part
joined_is before part steps r h = by (nat_lt (length before.on + length part.on) 65536) h
  where
    by : (b : Bool) → cond b (Ok (joined_parts before part, steps)) (Err OverflowError) ≡ Ok r → r.0 ≡ joined_parts before part
    by true k = sym (ap (λ (p : Unfolded × ℕ). p.0) (done_is (joined_parts before part, steps) r k))
    by false k = absurd cc

part_alike : (c : Component) (x y : ℤ) (before part : Unfolded) (m n : ℕ) (a b : Unfolded × ℕ) → with_part c x y before part m ≡ Ok a → with_part c x y before part n ≡ Ok b → a.0 ≡ b.0
unfolding with_part
part_alike c x y before part m n a b e f =
    let go = λ (near : Unfolded × ℕ). joined_or_fault before near.0 near.1 in
    let p = bind_ok (placed c x y before part) (λ z. in_range_or_fault z m >>= go) a e in
    let q = bind_ok (placed c x y before part) (λ z. in_range_or_fault z n >>= go) b f in
    let same : p.0 ≡ q.0 = one_answer (placed c x y before part) p.0 q.0 p.1 q.1 in
    let p2 = bind_ok (in_range_or_fault p.0 m) go a p.2 in
    let q2 = bind_ok (in_range_or_fault q.0 n) go b q.2 in
    let near : p2.0.0 ≡ q2.0.0 = near_is p.0 m p2.0 p2.1 ∙ same ∙ sym (near_is q.0 n q2.0 q2.1) in
    joined_is before p2.0.0 p2.0.1 a p2.2 ∙ ap (joined_parts before) near ∙ sym (joined_is before q2.0.0 q2.0.1 b q2.2)

component_alike : (c : Component) (x y : ℤ) (before part : Unfolded) (m n : ℕ) (a b : Unfolded × ℕ) → with_component c x y before part m ≡ Ok a → with_component c x y before part n ≡ Ok b → a.0 ≡ b.0
component_alike c x y before part m n a b e f = part_alike c x y (with_metrics c.flags before part) part m n a b e f

joined_alike : (child other : Child) → IsAlike child other → (cs : List Component) (k : ℕ) (xs ys : List ℤ) (a b u v : Unfolded × ℕ) → a.0 ≡ b.0 → joined child cs k xs ys a ≡ Ok u → joined other cs k xs ys b ≡ Ok v → u.0 ≡ v.0
unfolding joined
joined_alike child other alike [] k xs ys a b u v h e f = sym (ap (λ (r : Unfolded × ℕ). r.0) (done_is a u e)) ∙ h ∙ ap (λ (r : Unfolded × ℕ). r.0) (done_is b v f)
joined_alike child other alike (c ∷ cs) k xs ys a b u v h e f =
    let x = slice_index_or xs k (pos 0) in
    let y = slice_index_or ys k (pos 0) in
    let rest = λ (all : Unfolded × ℕ). joined child cs (k + 1) xs ys all in
    let p = bind_ok (child a.1 c.glyph) (λ part. with_component c x y a.0 part.0 part.1 >>= rest) u e in
    let more = λ (all : Unfolded × ℕ). joined other cs (k + 1) xs ys all in
    let q = bind_ok (other b.1 c.glyph) (λ part. with_component c x y b.0 part.0 part.1 >>= more) v f in
    let part : p.0.0 ≡ q.0.0 = alike a.1 b.1 c.glyph p.0 q.0 p.1 q.1 in
    let p2 = bind_ok (with_component c x y a.0 p.0.0 p.0.1) rest u p.2 in
    let q2 = bind_ok (with_component c x y b.0 q.0.0 q.0.1) more v q.2 in
    let also : with_component c x y a.0 p.0.0 q.0.1 ≡ Ok q2.0 = ap (λ (z : Unfolded). with_component c x y z p.0.0 q.0.1) h ∙ ap (λ (z : Unfolded). with_component c x y b.0 z q.0.1) part ∙ q2.1 in
    joined_alike child other alike cs (k + 1) xs ys p2.0 q2.0 u v (component_alike c x y a.0 p.0.0 p.0.1 q.0.1 p2.0 q2.0 p2.1 also) p2.2 q2.2

-- a composite glyph
pub composite_alike : (child other : Child) → IsAlike child other → (s z : Source) (at : List ℤ) → MoveAlike s z at → (m n g : ℕ) (bytes : List ℕ) (k : LongHorMetric) (u v : Unfolded × ℕ) → unfolded_composite child s at m g bytes k ≡ Ok u → unfolded_composite other z at n g bytes k ≡ Ok v → u.0 ≡ v.0
unfolding unfolded_composite
composite_alike child other alike s z at moves m n g bytes k u v e f =
    let go = λ (c : Composite). joined child c.components 0 c.xs c.ys (no_points c.left c.right, c.steps) in
    let p = bind_ok (composite s at m g bytes k) go u e in
    let come = λ (c : Composite). joined other c.components 0 c.xs c.ys (no_points c.left c.right, c.steps) in
    let q = bind_ok (composite z at n g bytes k) come v f in
    let same = offsets_alike s z at moves m n g bytes k p.0 q.0 p.1 q.1 in
    let start : Unfolded × ℕ = (no_points q.0.left q.0.right, q.0.steps) in
    let also : joined other p.0.components 0 p.0.xs p.0.ys start ≡ Ok v = ap (λ (cs : List Component). joined other cs 0 p.0.xs p.0.ys start) same.0 ∙ ap (λ (xs : List ℤ). joined other q.0.components 0 xs p.0.ys start) same.1 ∙ ap (λ (ys : List ℤ). joined other q.0.components 0 q.0.xs ys start) same.2 ∙ q.2 in
    joined_alike child other alike p.0.components 0 p.0.xs p.0.ys (no_points p.0.left p.0.right, p.0.steps) start u v same.3 p.2 also
