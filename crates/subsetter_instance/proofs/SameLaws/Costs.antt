-- What unfolding a glyph that isn't composite costs: as many steps from any number of steps that suffices, at any depth.
use Rattle.std.proofs.Common.{◌≡◌, ℕ, suc, ◌+◌, ◌-◌, ◌≤◌, Bool, true, false, cond, List, length, Option, Some, None, Ok, Err, ℤ, sym, ap, ◌∙◌}
use Rattle.std.specs.Prelude.{◌&&◌}
use Rattle.std.specs.Option.{ok_or}
use Rattle.subsetter_base.specs.Bytes.{◌>>=◌}
use Rattle.subsetter_base.specs.declared.error.Error.TheVariants.{MalformedFont, OverflowError}
use Rattle.subsetter_base.proofs.Results.{bind_ok, done, done_is, named_ok}
use Rattle.subsetter_points.specs.declared.outline.Point.{Point}
use Rattle.subsetter_points.specs.Simple.{parts, xs_of, ys_of}
use Rattle.subsetter_variation.specs.Glyphs.Tuples.{Gvar}
use Rattle.subsetter_variation.specs.Glyphs.Movement.{Outline, spent}
use Rattle.subsetter_variation.specs.Glyphs.Varied.{in_units}
use Rattle.subsetter_variation.proofs.GlyphsLaws.StepCosts.{Costs, bind_with, costs_after, costs_then, moved_points_cost, no_cost, spent_costs}
use Rattle.subsetter_sfnt.specs.declared.fields.hmtx.LongHorMetric.{LongHorMetric}
use Rattle.subsetter_instance.specs.Source.{Source, metric}
use Rattle.subsetter_instance.specs.Glyphs.Unfolded.{Unfolded, moved, with_phantoms, are_near, in_range_or_fault, simple_outline, unfolded_simple, unfolded_composite, is_composite, counted_description, unfolded}

abbrev moved_to : List ℤ × List ℤ × ℕ → ℕ → List ℤ × List ℤ × ℕ
moved_to a n = (a.0, a.1, n)

abbrev come_to : Unfolded → ℕ → Unfolded × ℕ
come_to u n = (u, n)

moved_costs : (gvar : Option Gvar) (g : ℕ) (o : Outline) (at : List ℤ) (m : ℕ) (a : List ℤ × List ℤ × ℕ) → moved gvar g o at m ≡ Ok a → Costs (λ n. moved gvar g o at n) (moved_to a) m a.2
moved_costs None g o at m a e =
    let i = done_is (in_units o.xs, in_units o.ys, m) a e in
    no_cost (moved_to (in_units o.xs, in_units o.ys, 0)) (moved_to a) m a.2 (ap (λ (p : List ℤ × List ℤ × ℕ). p.2) i) (λ n. ap (λ (p : List ℤ × List ℤ × ℕ). moved_to p n) i)
moved_costs (Some t) g o at m a e = moved_points_cost t g o at m a e

near_costs : (v u : Unfolded) (m r : ℕ) → in_range_or_fault v m ≡ Ok (u, r) → Costs (λ n. in_range_or_fault v n) (come_to u) m r
near_costs v u m r e = by (are_near v.xs && are_near v.ys) e
  where
    by : (b : Bool) → cond b (done (come_to v m)) (Err OverflowError) ≡ Ok (u, r) → Costs (λ n. cond b (done (come_to v n)) (Err OverflowError)) (come_to u) m r
    by true k =
        let i = done_is (come_to v m) (come_to u r) k in
        no_cost (come_to v) (come_to u) m r (ap (λ (p : Unfolded × ℕ). p.1) i) (λ n. ap (λ (p : Unfolded × ℕ). come_to p.0 n) i)
    by false k = absurd cc

-- a simple glyph
pub simple_cost : (s : Source) (at : List ℤ) (m g : ℕ) (bytes : List ℕ) (metric : LongHorMetric) (u : Unfolded) (r : ℕ) → unfolded_simple s at m g bytes metric ≡ Ok (u, r)
    → (r ≤ m) × ((n : ℕ) → unfolded_simple s at ((m - r) + n) g bytes metric ≡ Ok (u, n))
unfolding unfolded_simple
simple_cost s at m g bytes metric u r e =
    let near = λ (o : List ℕ × List Point) (to : List ℤ × List ℤ × ℕ). in_range_or_fault (simple_outline bytes metric o.0 o.1 to.0 to.1) to.2 in
    let move = λ (o : List ℕ × List Point) (left : ℕ). moved s.gvar g (with_phantoms o.0 (xs_of o.1) (ys_of o.1)) at left >>= near o in
    let p = bind_ok (ok_or (parts bytes) MalformedFont) (λ o. spent (length o.1 + 5) m >>= move o) (come_to u r) e in
    let o = p.0 in
    let left = bind_ok (spent (length o.1 + 5) m) (move o) (come_to u r) p.2 in
    let to = bind_ok (moved s.gvar g (with_phantoms o.0 (xs_of o.1) (ys_of o.1)) at left.0) (near o) (come_to u r) left.2 in
    costs_after (ok_or (parts bytes) MalformedFont) o (λ n o. spent (length o.1 + 5) n >>= move o) (come_to u) m r p.1
    (costs_then (spent (length o.1 + 5)) (λ n. n) (move o) (come_to u) m left.0 r (spent_costs (length o.1 + 5) m left.0 left.1)
    (costs_then (λ n. moved s.gvar g (with_phantoms o.0 (xs_of o.1) (ys_of o.1)) at n) (moved_to to.0) (near o) (come_to u) left.0 to.0.2 r
    (moved_costs s.gvar g (with_phantoms o.0 (xs_of o.1) (ys_of o.1)) at left.0 to.0 to.1)
    (near_costs (simple_outline bytes metric o.0 o.1 to.0.0 to.0.1) u to.0.2 r to.2)))

-- a glyph that isn't composite, which leads no deeper
pub unfolded_cost : (depth : ℕ) (s : Source) (at : List ℤ) (m g : ℕ) (u : Unfolded) (r : ℕ) → ((bytes : List ℕ) → counted_description s g ≡ Some bytes → is_composite bytes ≡ false) → unfolded (suc depth) s at m g ≡ Ok (u, r)
    → (r ≤ m) × ((d n : ℕ) → unfolded (suc d) s at ((m - r) + n) g ≡ Ok (u, n))
unfolding unfolded
unfolded_cost depth s at m g u r plain e =
    let go = λ (d steps : ℕ) (bytes : List ℕ) (k : LongHorMetric). cond (is_composite bytes) (unfolded_composite (unfolded d s at) s at steps g bytes k) (unfolded_simple s at steps g bytes k) in
    let p = bind_ok (ok_or (counted_description s g) MalformedFont) (λ bytes. ok_or (metric s g) MalformedFont >>= go depth m bytes) (come_to u r) e in
    let k = bind_ok (ok_or (metric s g) MalformedFont) (go depth m p.0) (come_to u r) p.2 in
    let flat = plain p.0 (named_ok (counted_description s g) MalformedFont p.0 p.1) in
    let chosen = λ (d steps : ℕ) (b : Bool). cond b (unfolded_composite (unfolded d s at) s at steps g p.0 k.0) (unfolded_simple s at steps g p.0 k.0) in
    let cost = simple_cost s at m g p.0 k.0 u r (ap (chosen depth m) (sym flat) ∙ k.2) in (
      cost.0,
      λ d n. bind_with (ok_or (counted_description s g) MalformedFont) (λ bytes. ok_or (metric s g) MalformedFont >>= go d ((m - r) + n) bytes) p.0 (Ok (come_to u n)) p.1
          (bind_with (ok_or (metric s g) MalformedFont) (go d ((m - r) + n) p.0) k.0 (Ok (come_to u n)) k.1 (ap (chosen d ((m - r) + n)) flat ∙ cost.1 n)),
    )
