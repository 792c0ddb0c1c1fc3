-- A simple glyph isn't unfolded exactly where it has a fault.
use Rattle.std.proofs.Common.{◌≡◌, ℕ, ◌+◌, Bool, true, false, cond, List, length, Option, Some, None, Result, Ok, Err, ℤ, refl, ap, subst, ◌∙◌, inl, inr}
use Rattle.std.specs.Prelude.{◌&&◌}
use Rattle.std.specs.Option.{ok_or}
use Rattle.subsetter_base.specs.Bytes.{◌>>=◌}
use Rattle.subsetter_base.specs.declared.error.Error.{Error}
use Rattle.subsetter_base.specs.declared.error.Error.TheVariants.{MalformedFont, OverflowError}
use Rattle.subsetter_base.proofs.Results.{done, failed_is, bind_err, named_ok, named_err}
use Rattle.subsetter_points.specs.declared.outline.Point.{Point}
use Rattle.subsetter_points.specs.Simple.{parts}
use Rattle.subsetter_variation.specs.Glyphs.GvarFault.{HasVariationFault}
use Rattle.subsetter_variation.specs.Glyphs.Movement.{Outline, spent}
use Rattle.subsetter_variation.specs.Glyphs.Tuples.{Gvar}
use Rattle.subsetter_variation.proofs.GlyphsLaws.GvarFaults.{following, after_error, after_named, after_missing, moving_refused, moving_stops, spent_refused, too_few}
use Rattle.subsetter_sfnt.specs.declared.fields.hmtx.LongHorMetric.{LongHorMetric}
use Rattle.subsetter_instance.specs.Source.{Source}
use Rattle.subsetter_instance.specs.Glyphs.Unfolded.{Unfolded, are_near, moved, in_range_or_fault, simple_outline, unfolded_simple}
use Rattle.subsetter_instance.specs.Faults.WalkFault.{HasSimpleFault, IsFar, default_points, far_outline, few_steps_for_points, in_point_variations, no_outline}

-- ---- points that move, and are near

pub variation_fault : (gvar : Option Gvar) (g : ℕ) (o : Outline) (at : List ℤ) (steps : ℕ) (e : Error) → moved gvar g o at steps ≡ Err e → (t : Gvar) × (gvar ≡ Some t) × HasVariationFault t g o at steps e
variation_fault None g o at steps e h = absurd cc
variation_fault (Some t) g o at steps e h = (t, refl, moving_refused t g o at steps e h)

pub variation_stops : (gvar : Option Gvar) (t : Gvar) (g : ℕ) (o : Outline) (at : List ℤ) (steps : ℕ) (e : Error) → gvar ≡ Some t → HasVariationFault t g o at steps e → moved gvar g o at steps ≡ Err e
variation_stops gvar t g o at steps e is f = ap (λ v. moved v g o at steps) is ∙ moving_stops t g o at steps e f

pub far_refused : (u : Unfolded) (steps : ℕ) (e : Error) → in_range_or_fault u steps ≡ Err e → IsFar u × (OverflowError ≡ e)
far_refused u steps e h = by (are_near u.xs && are_near u.ys) h
  where
    by : (b : Bool) → cond b (done {A = Unfolded × ℕ} (u, steps)) (Err OverflowError) ≡ Err e → (b ≡ false) × (OverflowError ≡ e)
    by true k = absurd cc
    by false k = (refl, failed_is {A = Unfolded × ℕ} OverflowError e k)

pub far_stops : (u : Unfolded) (steps : ℕ) → IsFar u → in_range_or_fault u steps ≡ Err OverflowError
far_stops u steps h = ap (λ b. cond b (done {A = Unfolded × ℕ} (u, steps)) (Err OverflowError)) h

pub near_is : (u : Unfolded) (steps : ℕ) → (are_near u.xs && are_near u.ys) ≡ true → in_range_or_fault u steps ≡ Ok (u, steps)
near_is u steps h = ap (λ b. cond b (done {A = Unfolded × ℕ} (u, steps)) (Err OverflowError)) h

pub near_answer : (u : Unfolded) (steps : ℕ) (r : Unfolded × ℕ) → in_range_or_fault u steps ≡ Ok r → ((are_near u.xs && are_near u.ys) ≡ true) × (done {A = Unfolded × ℕ} (u, steps) ≡ done r)
near_answer u steps r h = by (are_near u.xs && are_near u.ys) h
  where
    by : (b : Bool) → cond b (done {A = Unfolded × ℕ} (u, steps)) (Err OverflowError) ≡ Ok r → (b ≡ true) × (done {A = Unfolded × ℕ} (u, steps) ≡ done r)
    by true k = (refl, k)
    by false k = absurd cc

-- ---- a simple glyph

module _ (s : Source) (at : List ℤ) (steps g : ℕ) (bytes : List ℕ) (m : LongHorMetric) where
  abbrev simply_put : List ℕ × List Point → List ℤ × List ℤ × ℕ → Result (Unfolded × ℕ) Error
  simply_put o to = in_range_or_fault (simple_outline bytes m o.0 o.1 to.0 to.1) to.2

  abbrev simply_moved : List ℕ × List Point → ℕ → Result (Unfolded × ℕ) Error
  simply_moved o left = moved s.gvar g (default_points o) at left >>= simply_put o

  abbrev simply_taken : List ℕ × List Point → Result (Unfolded × ℕ) Error
  simply_taken o = spent (length o.1 + 5) steps >>= simply_moved o

  abbrev Simple : Error → Type 0
  Simple e = HasSimpleFault s at steps g bytes m e

  pub simple_refused : (e : Error) → unfolded_simple s at steps g bytes m ≡ Err e → HasSimpleFault s at steps g bytes m e
  unfolding unfolded_simple
  simple_refused e h =
      elim (bind_err (ok_or (parts bytes) MalformedFont) simply_taken e h) [
        | inl k ↦ let f = named_err (parts bytes) MalformedFont e k in subst (HasSimpleFault s at steps g bytes m) f.1 (no_outline f.0)
        | inr k ↦ elim (bind_err (spent (length k.0.1 + 5) steps) (simply_moved k.0) e k.2) [
          | inl l ↦ let f = spent_refused (length k.0.1 + 5) steps e l in subst (HasSimpleFault s at steps g bytes m) f.1 (few_steps_for_points k.0 (named_ok (parts bytes) MalformedFont k.0 k.1) f.0)
          | inr l ↦ elim (bind_err (moved s.gvar g (default_points k.0) at l.0) (simply_put k.0) e l.2) [
            | inl n ↦ let f = variation_fault s.gvar g (default_points k.0) at l.0 e n in in_point_variations k.0 l.0 f.0 (named_ok (parts bytes) MalformedFont k.0 k.1) l.1 f.1 f.2
            | inr n ↦ let f = far_refused (simple_outline bytes m k.0.0 k.0.1 n.0.0 n.0.1) n.0.2 e n.2 in subst (HasSimpleFault s at steps g bytes m) f.1 (far_outline k.0 l.0 n.0 (named_ok (parts bytes) MalformedFont k.0 k.1) l.1 n.1 f.0)
          ]
        ]
      ]

  pub simple_stops : (e : Error) → HasSimpleFault s at steps g bytes m e → unfolded_simple s at steps g bytes m ≡ Err e
  unfolding unfolded_simple
  simple_stops _ (no_outline none) = after_missing (parts bytes) MalformedFont simply_taken none
  simple_stops _ (few_steps_for_points o is few) = after_named (parts bytes) MalformedFont simply_taken o is ∙ after_error (spent (length o.1 + 5) steps) (simply_moved o) OverflowError (too_few (length o.1 + 5) steps few)
  simple_stops e (in_point_variations o left t is took varies f) =
      after_named (parts bytes) MalformedFont simply_taken o is ∙ following (spent (length o.1 + 5) steps) (simply_moved o) left took ∙ after_error (moved s.gvar g (default_points o) at left) (simply_put o) e (variation_stops s.gvar t g (default_points o) at left e varies f)
  simple_stops _ (far_outline o left to is took move far) =
      after_named (parts bytes) MalformedFont simply_taken o is ∙ following (spent (length o.1 + 5) steps) (simply_moved o) left took ∙ following (moved s.gvar g (default_points o) at left) (simply_put o) to move ∙ far_stops (simple_outline bytes m o.0 o.1 to.0 to.1) to.2 far
