-- A glyph that isn't drawn has a fault, and one that is drawn has none.
use Rattle.std.proofs.Common.{◌≡◌, ℕ, ◌<◌, Bool, true, false, cond, ltb, List, [], ◌∷◌, Some, Result, Ok, Err, ℤ, refl, sym, ap, subst, ◌∙◌, inl, inr, ◌⊎◌, arith}
use Rattle.std.specs.Prelude.{Contains, ◌-ℤ◌}
use Rattle.std.specs.Option.{ok_or}
use Rattle.std.proofs.lemmas.Bool.{ltb-false}
use Rattle.subsetter_base.specs.Bytes.{◌>>=◌}
use Rattle.subsetter_base.specs.declared.error.Error.{Error}
use Rattle.subsetter_base.specs.declared.error.Error.TheVariants.{MalformedFont, OverflowError}
use Rattle.subsetter_base.proofs.Lists.{Contains-later}
use Rattle.subsetter_base.proofs.Options.{just_is, some_not_none}
use Rattle.subsetter_base.proofs.Results.{done_is, failed_is, ok_not_err, bind_ok, bind_err, named_ok, named_err}
use Rattle.subsetter_points.specs.declared.outline.Point.{Point}
use Rattle.subsetter_points.specs.Simple.{parts_fit}
use Rattle.subsetter_sfnt.specs.declared.fields.hmtx.LongHorMetric.{LongHorMetric}
use Rattle.subsetter_instance.specs.Source.{Source, metric}
use Rattle.subsetter_instance.specs.Glyphs.Unfolded.{Unfolded, unfolded}
use Rattle.subsetter_instance.specs.Glyphs.Drawn.{Drawn, advance, bearing, points_or_fault, drawn_if_fit, rounded, levels, drawn}
use Rattle.subsetter_instance.specs.Plain.{drawn_if, drawn_all}
use Rattle.subsetter_instance.proofs.FaultLaws.Tables.{hmtx_missing, hmtx_refused}
use Rattle.subsetter_instance.specs.Fault.{HasGlyphFault, no_glyph, no_metric, in_walk, in_advance, far_point, large_outline}
use Rattle.subsetter_instance.proofs.FaultLaws.WalkLaws.Walk.{walk_refused, walk_stops}
use Rattle.subsetter_instance.proofs.FaultLaws.Rounded.{advance_refused, advance_stops, points_refused, points_stop}

-- ---- what isn't drawn

module _ (s : Source) (at : List ℤ) (steps g : ℕ) where
  unfit : (es : List ℕ) (ps : List Point) (width : ℕ) (e : Error) → drawn_if_fit es ps width ≡ Err e → (parts_fit es ps ≡ false) × (OverflowError ≡ e)
  unfit es ps width e h = by (parts_fit es ps) refl h
    where
      by : (b : Bool) → parts_fit es ps ≡ b → cond {A = Result Drawn Error} b (Ok (record { ends = es; points = ps; advance = width; bearing = bearing ps })) (Err OverflowError) ≡ Err e → (b ≡ false) × (OverflowError ≡ e)
      by true t k = absurd cc
      by false t k = (refl, failed_is {A = Drawn} OverflowError e k)

  unrounded : (m : LongHorMetric) (u : Unfolded × ℕ) (e : Error) → metric s g ≡ Some m → unfolded levels s at steps g ≡ Ok u → rounded s at g m u.0 ≡ Err e → HasGlyphFault s at steps g e
  unfolding rounded
  unrounded m u e is there h =
      elim (bind_err (advance s.hvar at g m.advance_width (u.0.right -ℤ u.0.left)) (λ width. points_or_fault u.0.left u.0.on u.0.xs u.0.ys >>= λ points. drawn_if_fit u.0.ends points width) e h) [
        | inl k ↦ in_advance m u is there (advance_refused s.hvar at g m.advance_width (u.0.right -ℤ u.0.left) e k)
        | inr k ↦ elim (bind_err (points_or_fault u.0.left u.0.on u.0.xs u.0.ys) (λ points. drawn_if_fit u.0.ends points k.0) e k.2) [
          | inl l ↦ let f = points_refused u.0.left u.0.on u.0.xs u.0.ys e l in subst (HasGlyphFault s at steps g) f.1 (far_point u there f.0)
          | inr l ↦ let f = unfit u.0.ends l.0 k.0 e l.2 in subst (HasGlyphFault s at steps g) f.1 (large_outline u l.0 there l.1 f.0)
        ]
      ]

  undrawn : (e : Error) → drawn s at steps g ≡ Err e → HasGlyphFault s at steps g e
  unfolding drawn
  undrawn e h =
      elim (bind_err (ok_or (metric s g) MalformedFont) (λ m. unfolded levels s at steps g >>= λ u. rounded s at g m u.0) e h) [
        | inl k ↦ let n = named_err (metric s g) MalformedFont e k in subst (HasGlyphFault s at steps g) n.1 (no_metric (hmtx_refused s g n.0))
        | inr k ↦ elim (bind_err (unfolded levels s at steps g) (λ u. rounded s at g k.0 u.0) e k.2) [
          | inl l ↦ in_walk (walk_refused s at levels steps g e l)
          | inr l ↦ unrounded k.0 l.0 e (named_ok (metric s g) MalformedFont k.0 k.1) l.1 l.2
        ]
      ]

  pub not_drawn : (e : Error) → drawn_if s at steps g ≡ Err e → HasGlyphFault s at steps g e
  not_drawn e h = by (ltb g s.count) refl h
    where
      by : (b : Bool) → ltb g s.count ≡ b → cond b (drawn s at steps g) (Err MalformedFont) ≡ Err e → HasGlyphFault s at steps g e
      by true t k = undrawn e k
      by false t k = subst (HasGlyphFault s at steps g) (failed_is {A = Drawn} MalformedFont e k) (no_glyph (ltb-false g s.count t))

-- one of the glyphs isn't drawn
pub record HasUndrawn (s : Source) (at : List ℤ) (steps : ℕ) (glyphs : List ℕ) (e : Error) : Type 0 where
  pub g : ℕ
  pub there : Contains glyphs g
  pub fault : HasGlyphFault s at steps g e

pub not_all_drawn : (s : Source) (at : List ℤ) (steps : ℕ) (glyphs : List ℕ) (e : Error) → drawn_all s at steps glyphs ≡ Err e → HasUndrawn s at steps glyphs e
not_all_drawn s at steps [] e h = absurd cc
not_all_drawn s at steps (g ∷ gs) e h =
    elim (bind_err (drawn_if s at steps g) (λ d. drawn_all s at steps gs >>= λ rest. Ok (d ∷ rest)) e h) [
      | inl k ↦ record { g = g; there = (0, omega arith, refl); fault = not_drawn s at steps g e k }
      | inr k ↦ later (λ x. not_all_drawn s at steps gs e x) k.0 (bind_err (drawn_all s at steps gs) (λ rest. Ok (k.0 ∷ rest)) e k.2)
    ]
  where
    later : (drawn_all s at steps gs ≡ Err e → HasUndrawn s at steps gs e) → (d : Drawn) → (drawn_all s at steps gs ≡ Err e) ⊎ ((x : List Drawn) × (drawn_all s at steps gs ≡ Ok x) × (Ok (d ∷ x) ≡ Err e)) → HasUndrawn s at steps (g ∷ gs) e
    later rest d (inl k) = let f = rest k in record { g = f.g; there = Contains-later g f.g gs f.there; fault = f.fault }
    later rest d (inr k) = let x = k.2 in absurd cc

-- ---- what is drawn

-- the steps to what is drawn
record DrawnSteps (s : Source) (at : List ℤ) (steps g : ℕ) : Type 0 where
  counted : g < s.count
  m : LongHorMetric
  m_is : metric s g ≡ Some m
  u : Unfolded × ℕ
  u_is : unfolded levels s at steps g ≡ Ok u
  width : ℕ
  width_is : advance s.hvar at g m.advance_width (u.0.right -ℤ u.0.left) ≡ Ok width
  points : List Point
  points_is : points_or_fault u.0.left u.0.on u.0.xs u.0.ys ≡ Ok points
  fits : parts_fit u.0.ends points ≡ true

drawn_steps : (s : Source) (at : List ℤ) (steps g : ℕ) (d : Drawn) → g < s.count → drawn s at steps g ≡ Ok d → DrawnSteps s at steps g
unfolding drawn rounded
drawn_steps s at steps g d lt h =
    let a = bind_ok (ok_or (metric s g) MalformedFont) (λ m. unfolded levels s at steps g >>= λ u. rounded s at g m u.0) d h in
    let b = bind_ok (unfolded levels s at steps g) (λ u. rounded s at g a.0 u.0) d a.2 in
    let u = b.0.0 in
    let c = bind_ok (advance s.hvar at g a.0.advance_width (u.right -ℤ u.left)) (λ width. points_or_fault u.left u.on u.xs u.ys >>= λ points. drawn_if_fit u.ends points width) d b.2 in
    let p = bind_ok (points_or_fault u.left u.on u.xs u.ys) (λ points. drawn_if_fit u.ends points c.0) d c.2 in
    record { counted = lt; m = a.0; m_is = named_ok (metric s g) MalformedFont a.0 a.1; u = b.0; u_is = b.1; width = c.0; width_is = c.1; points = p.0; points_is = p.1; fits = fit u.ends p.0 c.0 (parts_fit u.ends p.0) p.2 }
  where
    fit : (es : List ℕ) (ps : List Point) (width : ℕ) (b : Bool) → cond {A = Result Drawn Error} b (Ok (record { ends = es; points = ps; advance = width; bearing = bearing ps })) (Err OverflowError) ≡ Ok d → b ≡ true
    fit es ps width true k = refl
    fit es ps width false k = absurd cc

same_unfolded : (s : Source) (at : List ℤ) (steps g : ℕ) (t : DrawnSteps s at steps g) (u : Unfolded × ℕ) → unfolded levels s at steps g ≡ Ok u → t.u ≡ u
same_unfolded s at steps g t u h = done_is t.u u (sym t.u_is ∙ h)

no_glyph_fault : (s : Source) (at : List ℤ) (steps g : ℕ) (e : Error) → DrawnSteps s at steps g → HasGlyphFault s at steps g e → ⊥
no_glyph_fault s at steps g e t (no_glyph le) = let lt = t.counted in omega arith
no_glyph_fault s at steps g e t (no_metric f) = some_not_none (metric s g) t.m t.m_is (hmtx_missing s g f)
no_glyph_fault s at steps g e t (in_walk f) = ok_not_err (unfolded levels s at steps g) t.u e t.u_is (walk_stops s at levels steps g e f)
no_glyph_fault s at steps g e t (in_advance m u m_is u_is f) =
    ok_not_err (advance s.hvar at g m.advance_width (u.0.right -ℤ u.0.left)) t.width e
    (ap (λ (x : Unfolded × ℕ). advance s.hvar at g m.advance_width (x.0.right -ℤ x.0.left)) (sym (same_unfolded s at steps g t u u_is)) ∙ ap (λ (k : LongHorMetric). advance s.hvar at g k.advance_width (t.u.0.right -ℤ t.u.0.left)) (just_is m t.m (sym m_is ∙ t.m_is)) ∙ t.width_is) (advance_stops s.hvar at g m.advance_width (u.0.right -ℤ u.0.left) e f)
no_glyph_fault s at steps g e t (far_point u u_is f) =
    ok_not_err (points_or_fault u.0.left u.0.on u.0.xs u.0.ys) t.points e (ap (λ (x : Unfolded × ℕ). points_or_fault x.0.left x.0.on x.0.xs x.0.ys) (sym (same_unfolded s at steps g t u u_is)) ∙ t.points_is) (points_stop u.0.left u.0.on u.0.xs u.0.ys f)
no_glyph_fault s at steps g e t (large_outline u points u_is points_is h) =
    let same = same_unfolded s at steps g t u u_is in
    let also : t.points ≡ points = done_is t.points points (sym t.points_is ∙ ap (λ (x : Unfolded × ℕ). points_or_fault x.0.left x.0.on x.0.xs x.0.ys) same ∙ points_is) in
    let clash : true ≡ false = sym t.fits ∙ ap (λ (x : Unfolded × ℕ). parts_fit x.0.ends t.points) same ∙ ap (λ (p : List Point). parts_fit u.0.ends p) also ∙ h in
    cc

pub drawn_clean : (s : Source) (at : List ℤ) (steps g : ℕ) (d : Drawn) (e : Error) → g < s.count → drawn s at steps g ≡ Ok d → HasGlyphFault s at steps g e → ⊥
drawn_clean s at steps g d e lt h = no_glyph_fault s at steps g e (drawn_steps s at steps g d lt h)
