-- A simple glyph that is unfolded in two numbers of steps comes to the same.
use Rattle.std.proofs.Common.{◌≡◌, ℕ, ◌+◌, Bool, true, false, cond, List, length, Option, Some, None, Result, Ok, Err, ℤ, sym, ap, ◌∙◌}
use Rattle.std.specs.Prelude.{◌&&◌}
use Rattle.std.specs.Option.{ok_or}
use Rattle.subsetter_base.specs.Bytes.{◌>>=◌}
use Rattle.subsetter_base.specs.declared.error.Error.{Error}
use Rattle.subsetter_base.specs.declared.error.Error.TheVariants.{MalformedFont, OverflowError}
use Rattle.subsetter_base.proofs.Results.{done_is, bind_ok}
use Rattle.subsetter_points.specs.declared.outline.Point.{Point}
use Rattle.subsetter_points.specs.Simple.{parts, xs_of, ys_of}
use Rattle.subsetter_variation.specs.Glyphs.Tuples.{Gvar}
use Rattle.subsetter_variation.specs.Glyphs.Movement.{Outline, spent}
use Rattle.subsetter_variation.specs.Glyphs.Varied.{in_units}
use Rattle.subsetter_variation.proofs.GlyphsLaws.StepLaws.{is_same_at_any_steps}
use Rattle.subsetter_sfnt.specs.declared.fields.hmtx.LongHorMetric.{LongHorMetric}
use Rattle.subsetter_instance.specs.Source.{Source}
use Rattle.subsetter_instance.specs.Glyphs.Unfolded.{Unfolded, moved, with_phantoms, are_near, in_range_or_fault, simple_outline, unfolded_simple}

-- the same answer twice
pub one_answer : {A : Type 0} (r : Result A Error) (x y : A) → r ≡ Ok x → r ≡ Ok y → x ≡ y
one_answer r x y e f = done_is x y (sym e ∙ f)

pub moved_alike : (gvar : Option Gvar) (g : ℕ) (o : Outline) (at : List ℤ) (m n : ℕ) (a b : List ℤ × List ℤ × ℕ) → moved gvar g o at m ≡ Ok a → moved gvar g o at n ≡ Ok b → (a.0 ≡ b.0) × (a.1 ≡ b.1)
moved_alike None g o at m n a b e f =
    let i = done_is (in_units o.xs, in_units o.ys, m) a e in
    let j = done_is (in_units o.xs, in_units o.ys, n) b f in
    (ap (λ (p : List ℤ × List ℤ × ℕ). p.0) (sym i) ∙ ap (λ (p : List ℤ × List ℤ × ℕ). p.0) j, ap (λ (p : List ℤ × List ℤ × ℕ). p.1) (sym i) ∙ ap (λ (p : List ℤ × List ℤ × ℕ). p.1) j)
moved_alike (Some t) g o at m n a b e f = is_same_at_any_steps t g o at m n a b e f

-- points go to the same places by the variations of either of two sources, in whatever numbers of steps
abbrev pub MoveAlike : Source → Source → List ℤ → Type 0
MoveAlike s z at = (g : ℕ) (o : Outline) (m n : ℕ) (a b : List ℤ × List ℤ × ℕ) → moved s.gvar g o at m ≡ Ok a → moved z.gvar g o at n ≡ Ok b → (a.0 ≡ b.0) × (a.1 ≡ b.1)

pub near_is : (u : Unfolded) (steps : ℕ) (r : Unfolded × ℕ) → in_range_or_fault u steps ≡ Ok r → r.0 ≡ u
near_is u steps r h = by (are_near u.xs && are_near u.ys) h
  where
    by : (b : Bool) → cond b (Ok (u, steps)) (Err OverflowError) ≡ Ok r → r.0 ≡ u
    by true k = sym (ap (λ (p : Unfolded × ℕ). p.0) (done_is (u, steps) r k))
    by false k = absurd cc

-- a simple glyph
pub simple_alike : (s z : Source) (at : List ℤ) → MoveAlike s z at → (m n g : ℕ) (bytes : List ℕ) (metric : LongHorMetric) (u v : Unfolded × ℕ) → unfolded_simple s at m g bytes metric ≡ Ok u → unfolded_simple z at n g bytes metric ≡ Ok v → u.0 ≡ v.0
unfolding unfolded_simple
simple_alike s z at alike m n g bytes metric u v e f =
    let near = λ (o : List ℕ × List Point) (to : List ℤ × List ℤ × ℕ). in_range_or_fault (simple_outline bytes metric o.0 o.1 to.0 to.1) to.2 in
    let move = λ (o : List ℕ × List Point) (left : ℕ). moved s.gvar g (with_phantoms o.0 (xs_of o.1) (ys_of o.1)) at left >>= near o in
    let other = λ (o : List ℕ × List Point) (left : ℕ). moved z.gvar g (with_phantoms o.0 (xs_of o.1) (ys_of o.1)) at left >>= near o in
    let p = bind_ok (ok_or (parts bytes) MalformedFont) (λ o. spent (length o.1 + 5) m >>= move o) u e in
    let q = bind_ok (ok_or (parts bytes) MalformedFont) (λ o. spent (length o.1 + 5) n >>= other o) v f in
    let same : q.0 ≡ p.0 = one_answer (ok_or (parts bytes) MalformedFont) q.0 p.0 q.1 p.1 in
    let o = p.0 in
    let p2 = bind_ok (spent (length o.1 + 5) m) (move o) u p.2 in
    let q2 = bind_ok (spent (length o.1 + 5) n) (other o) v (ap (λ (x : List ℕ × List Point). spent (length x.1 + 5) n >>= other x) (sym same) ∙ q.2) in
    let p3 = bind_ok (moved s.gvar g (with_phantoms o.0 (xs_of o.1) (ys_of o.1)) at p2.0) (near o) u p2.2 in
    let q3 = bind_ok (moved z.gvar g (with_phantoms o.0 (xs_of o.1) (ys_of o.1)) at q2.0) (near o) v q2.2 in
    let to = alike g (with_phantoms o.0 (xs_of o.1) (ys_of o.1)) p2.0 q2.0 p3.0 q3.0 p3.1 q3.1 in
    near_is (simple_outline bytes metric o.0 o.1 p3.0.0 p3.0.1) p3.0.2 u p3.2 ∙ ap (λ xs. simple_outline bytes metric o.0 o.1 xs p3.0.1) to.0 ∙ ap (λ ys. simple_outline bytes metric o.0 o.1 q3.0.0 ys) to.1
    ∙ sym (near_is (simple_outline bytes metric o.0 o.1 q3.0.0 q3.0.1) q3.0.2 v q3.2)
