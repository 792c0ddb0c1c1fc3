-- A glyph that has no metric at a location has a fault, and one that has some has none.
--   not_all_varied, each_varied    of the glyphs that are asked for
--   varied_clean                   of one glyph
use Rattle.std.proofs.Common.{◌≡◌, ℕ, zero, suc, ◌<◌, Bool, true, false, cond, ltb, List, [], ◌∷◌, Option, Some, None, Ok, Err, ℤ, pos, refl, sym, ap, subst, ◌∙◌, inl, inr, ◌⊎◌, arith}
use Rattle.std.specs.Prelude.{Contains}
use Rattle.std.specs.Option.{ok_or}
use Rattle.std.proofs.lemmas.Bool.{ltb-false, ltb-true}
use Rattle.subsetter_base.specs.declared.error.Error.{Error}
use Rattle.subsetter_base.specs.declared.error.Error.TheVariants.{MalformedFont}
use Rattle.subsetter_base.proofs.Lists.{Contains-later}
use Rattle.subsetter_base.proofs.Options.{is_some_of, just_is, some_not_none, some_of}
use Rattle.subsetter_base.proofs.Results.{failed_is, ok_not_err, bind_ok, bind_err, named_ok, named_err}
use Rattle.subsetter_sfnt.specs.declared.fields.hmtx.LongHorMetric.{LongHorMetric}
use Rattle.subsetter_instance.specs.Source.{metric as truetype_metric}
use Rattle.subsetter_instance.specs.Faults.RoundedFault.{HasAdvanceFault}
use Rattle.subsetter_instance.proofs.FaultLaws.Rounded.{advance_refused, advance_stops}
use Rattle.subsetter_instance.proofs.FaultLaws.Tables.{hmtx_missing, hmtx_refused}
use Rattle.subsetter_cff_instance.specs.Fault.{HasGlyphFault, no_glyph, no_metric, in_advance}
use Rattle.subsetter_cff_instance.specs.Metrics.{metric_if, varied_advance, varied_metric, varied_metrics}
use Rattle.subsetter_cff_instance.specs.Source.{Source, metric, metric_source}

-- it is the metric of a font of TrueType with these tables
same_metric : (s : Source) (g : ℕ) → metric s g ≡ truetype_metric (metric_source s) g
unfolding metric truetype_metric
same_metric s g = refl

module _ (s : Source) (at : List ℤ) (g : ℕ) where
  -- ---- a glyph without a metric

  unvaried_advance : (m : LongHorMetric) (e : Error) → metric s g ≡ Some m → varied_advance s.hvar at g m.advance_width ≡ Err e → HasGlyphFault s at g e
  unvaried_advance m e is h = by s.hvar refl h
    where
      by : (o : Option (List ℕ)) → s.hvar ≡ o → varied_advance o at g m.advance_width ≡ Err e → HasGlyphFault s at g e
      by None same k = absurd cc
      by (Some hvar) same k =
          in_advance m is (is_some_of s.hvar hvar same) (subst (λ (o : Option (List ℕ)). HasAdvanceFault o at g m.advance_width (pos 0) e) (sym same) (advance_refused (Some hvar) at g m.advance_width (pos 0) e k))

  unvaried : (e : Error) → varied_metric s at g ≡ Err e → HasGlyphFault s at g e
  unfolding varied_metric
  unvaried e h =
      elim (bind_err (ok_or (metric s g) MalformedFont) _ e h) [
        | inl k ↦ let n = named_err (metric s g) MalformedFont e k in subst (HasGlyphFault s at g) n.1 (no_metric (hmtx_refused (metric_source s) g (sym (same_metric s g) ∙ n.0)))
        | inr k ↦ elim (bind_err (varied_advance s.hvar at g k.0.advance_width) _ e k.2) [
          | inl l ↦ unvaried_advance k.0 e (named_ok (metric s g) MalformedFont k.0 k.1) l
          | inr l ↦ let z = l.2 in absurd cc
        ]
      ]

  not_varied : (e : Error) → metric_if s at g ≡ Err e → HasGlyphFault s at g e
  not_varied e h = by (ltb g s.count) refl h
    where
      by : (b : Bool) → ltb g s.count ≡ b → cond b (varied_metric s at g) (Err MalformedFont) ≡ Err e → HasGlyphFault s at g e
      by true t k = unvaried e k
      by false t k = subst (HasGlyphFault s at g) (failed_is {A = LongHorMetric} MalformedFont e k) (no_glyph (ltb-false g s.count t))

  -- ---- a glyph with one

  -- the steps to its metric
  pub record MetricSteps : Type 0 where
    pub counted : g < s.count
    pub m : LongHorMetric
    pub m_is : metric s g ≡ Some m
    pub width : ℕ
    pub width_is : varied_advance s.hvar at g m.advance_width ≡ Ok width

  pub metric_steps : (it : LongHorMetric) → metric_if s at g ≡ Ok it → MetricSteps
  unfolding varied_metric
  metric_steps it h = by (ltb g s.count) refl h
    where
      by : (b : Bool) → ltb g s.count ≡ b → cond b (varied_metric s at g) (Err MalformedFont) ≡ Ok it → MetricSteps
      by true t k =
          let a = bind_ok (ok_or (metric s g) MalformedFont) _ it k in
          let b = bind_ok (varied_advance s.hvar at g a.0.advance_width) _ it a.2 in
          record { counted = ltb-true g s.count t; m = a.0; m_is = named_ok (metric s g) MalformedFont a.0 a.1; width = b.0; width_is = b.1 }
      by false t k = absurd cc

  -- the advance that varies has no fault
  no_advance_fault : (before width : ℕ) (e : Error) (hvar : List ℕ) → s.hvar ≡ Some hvar → varied_advance s.hvar at g before ≡ Ok width → HasAdvanceFault s.hvar at g before (pos 0) e → ⊥
  no_advance_fault before width e hvar is h f =
      ok_not_err (varied_advance (Some hvar) at g before) width e (ap (λ (o : Option (List ℕ)). varied_advance o at g before) (sym is) ∙ h)
      (advance_stops (Some hvar) at g before (pos 0) e (subst (λ (o : Option (List ℕ)). HasAdvanceFault o at g before (pos 0) e) is f))

  steps_clean : (e : Error) → MetricSteps → HasGlyphFault s at g e → ⊥
  steps_clean e t (no_glyph le) = let less = t.counted in omega arith
  steps_clean e t (no_metric f) = some_not_none (metric s g) t.m t.m_is (same_metric s g ∙ hmtx_missing (metric_source s) g f)
  steps_clean e t (in_advance m is there f) =
      let same : t.m ≡ m = just_is t.m m (sym t.m_is ∙ is) in
      let hvar = some_of s.hvar there in
      no_advance_fault m.advance_width t.width e hvar.0 hvar.1 (ap (λ (x : LongHorMetric). varied_advance s.hvar at g x.advance_width) (sym same) ∙ t.width_is) f

  pub varied_clean : (it : LongHorMetric) (e : Error) → metric_if s at g ≡ Ok it → HasGlyphFault s at g e → ⊥
  varied_clean it e h f = steps_clean e (metric_steps it h) f

-- ---- of the glyphs that are asked for

-- one of them has no metric
pub record HasUnvaried (s : Source) (at : List ℤ) (glyphs : List ℕ) (e : Error) : Type 0 where
  pub g : ℕ
  pub there : Contains glyphs g
  pub fault : HasGlyphFault s at g e

pub not_all_varied : (s : Source) (at : List ℤ) (glyphs : List ℕ) (e : Error) → varied_metrics s at glyphs ≡ Err e → HasUnvaried s at glyphs e
not_all_varied s at [] e h = absurd cc
not_all_varied s at (g ∷ gs) e h =
    elim (bind_err (metric_if s at g) _ e h) [
      | inl k ↦ record { g = g; there = (0, omega arith, refl); fault = not_varied s at g e k }
      | inr k ↦ later (λ x. not_all_varied s at gs e x) k.0 (bind_err (varied_metrics s at gs) _ e k.2)
    ]
  where
    later : (varied_metrics s at gs ≡ Err e → HasUnvaried s at gs e) → (m : LongHorMetric) → (varied_metrics s at gs ≡ Err e) ⊎ ((rest : List LongHorMetric) × (varied_metrics s at gs ≡ Ok rest) × (Ok (m ∷ rest) ≡ Err e)) → HasUnvaried s at (g ∷ gs) e
    later rest m (inl k) = let f = rest k in record { g = f.g; there = Contains-later g f.g gs f.there; fault = f.fault }
    later rest m (inr k) = let z = k.2 in absurd cc

-- each of them has one
pub each_varied : (s : Source) (at : List ℤ) (glyphs : List ℕ) (metrics : List LongHorMetric) (g : ℕ) → varied_metrics s at glyphs ≡ Ok metrics → Contains glyphs g → (it : LongHorMetric) × (metric_if s at g ≡ Ok it)
each_varied s at [] metrics g h (i, lt, is) = absurd (omega arith)
each_varied s at (q ∷ gs) metrics g h (zero, lt, is) = let a = bind_ok (metric_if s at q) _ metrics h in (a.0, ap (metric_if s at) (sym is) ∙ a.1)
each_varied s at (q ∷ gs) metrics g h (suc i, lt, is) =
    let a = bind_ok (metric_if s at q) _ metrics h in
    let b = bind_ok (varied_metrics s at gs) _ metrics a.2 in
    each_varied s at gs b.0 g b.1 (i, omega arith, is)
