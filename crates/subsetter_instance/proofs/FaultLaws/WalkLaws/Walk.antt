-- A glyph with its components isn't unfolded exactly where it has a fault.
use Rattle.std.proofs.Common.{◌≡◌, ℕ, zero, suc, ◌+◌, Bool, true, false, cond, List, ◌∷◌, length, Some, Result, Ok, Err, ℤ, pos, refl, sym, ap, subst, ◌∙◌, inl, inr, arith}
use Rattle.std.specs.Prelude.{slice_index_or}
use Rattle.std.specs.Option.{ok_or}
use Rattle.subsetter_base.specs.Bytes.{◌>>=◌}
use Rattle.subsetter_base.specs.declared.error.Error.{Error}
use Rattle.subsetter_base.specs.declared.error.Error.TheVariants.{MalformedFont}
use Rattle.subsetter_base.proofs.Results.{failed_is, bind_err, named_ok, named_err}
use Rattle.subsetter_variation.proofs.GlyphsLaws.GvarFaults.{following, after_error, after_named, after_missing}
use Rattle.subsetter_instance.specs.declared.glyphs.components.Component.{Component}
use Rattle.subsetter_sfnt.specs.declared.fields.hmtx.LongHorMetric.{LongHorMetric}
use Rattle.subsetter_instance.specs.Source.{Source, metric}
use Rattle.subsetter_instance.specs.Glyphs.Unfolded.{Composite, Unfolded, composite, counted_description, is_composite, joined, no_points, unfolded, unfolded_composite, unfolded_simple, with_component, with_metrics}
use Rattle.subsetter_instance.proofs.FaultLaws.Tables.{description_missing, description_refused, hmtx_missing, hmtx_refused}
use Rattle.subsetter_instance.specs.Faults.WalkFault.{HasWalkFault, IsAtComponent, in_component, in_composite, in_place, in_simple, in_description, in_hmtx, too_deep}
use Rattle.subsetter_instance.proofs.FaultLaws.WalkLaws.Simple.{simple_refused, simple_stops}
use Rattle.subsetter_instance.proofs.FaultLaws.WalkLaws.Composite.{composite_refused, composite_stops, part_refused, part_stops, joined_next, StopsAt, joined_refused, joined_front}

-- ---- a glyph

module _ (s : Source) (at : List ℤ) where
  abbrev by_kind : ℕ → ℕ → ℕ → List ℕ → LongHorMetric → Result (Unfolded × ℕ) Error
  by_kind depth steps g bytes m = cond (is_composite bytes) (unfolded_composite (unfolded depth s at) s at steps g bytes m) (unfolded_simple s at steps g bytes m)

  abbrev measured : ℕ → ℕ → ℕ → List ℕ → Result (Unfolded × ℕ) Error
  measured depth steps g bytes = ok_or (metric s g) MalformedFont >>= by_kind depth steps g bytes

  abbrev joined_of : ℕ → Composite → Result (Unfolded × ℕ) Error
  joined_of depth c = joined (unfolded depth s at) c.components 0 c.xs c.ys (no_points c.left c.right, c.steps)

  in_joined : (depth steps g : ℕ) (bytes : List ℕ) (m : LongHorMetric) (c : Composite) (e : Error) → counted_description s g ≡ Some bytes → metric s g ≡ Some m → is_composite bytes ≡ true → composite s at steps g bytes m ≡ Ok c
      → ((left h : ℕ) → unfolded depth s at left h ≡ Err e → HasWalkFault s at depth left h e) → StopsAt (unfolded depth s at) c.components 0 c.xs c.ys (no_points c.left c.right, c.steps) e → HasWalkFault s at (suc depth) steps g e
  in_joined depth steps g bytes m c e is m_is kind c_is deeper t =
      let here : t.index ≡ length t.before = let p = t.index_is in omega arith in
      let i : IsAtComponent s at depth steps g t.component (slice_index_or c.xs t.index (pos 0)) (slice_index_or c.ys t.index (pos 0)) t.to = record {
        bytes = bytes;
        description_is = is;
        m = m;
        metric_is = m_is;
        kind = kind;
        it = c;
        it_is = c_is;
        before = t.before;
        more = t.more;
        components_are = t.are;
        x_is = ap (λ n. slice_index_or c.xs n (pos 0)) (sym here);
        y_is = ap (λ n. slice_index_or c.ys n (pos 0)) (sym here);
        all_are = t.to_is;
      } in
      elim t.why [
        | inl k ↦ in_component depth steps g t.component (slice_index_or c.xs t.index (pos 0)) (slice_index_or c.ys t.index (pos 0)) t.to i (deeper t.to.1 t.component.glyph k)
        | inr k ↦ in_place depth steps g t.component (slice_index_or c.xs t.index (pos 0)) (slice_index_or c.ys t.index (pos 0)) t.to k.0 i k.1
            (part_refused t.component (slice_index_or c.xs t.index (pos 0)) (slice_index_or c.ys t.index (pos 0)) (with_metrics t.component.flags t.to.0 k.0.0) k.0.0 k.0.1 e k.2)
      ]

  kind_refused : (depth steps g : ℕ) (bytes : List ℕ) (m : LongHorMetric) (e : Error) → ((left h : ℕ) → unfolded depth s at left h ≡ Err e → HasWalkFault s at depth left h e) → counted_description s g ≡ Some bytes → metric s g ≡ Some m → (b : Bool) → is_composite bytes ≡ b
      → cond b (unfolded_composite (unfolded depth s at) s at steps g bytes m) (unfolded_simple s at steps g bytes m) ≡ Err e → HasWalkFault s at (suc depth) steps g e
  unfolding unfolded_composite
  kind_refused depth steps g bytes m e deeper is m_is false kind h = in_simple depth steps g bytes m is m_is kind (simple_refused s at steps g bytes m e h)
  kind_refused depth steps g bytes m e deeper is m_is true kind h =
      elim (bind_err (composite s at steps g bytes m) (joined_of depth) e h) [
        | inl k ↦ in_composite depth steps g bytes m is m_is kind (composite_refused s at steps g bytes m e k)
        | inr k ↦ in_joined depth steps g bytes m k.0 e is m_is kind k.1 deeper (joined_refused (unfolded depth s at) k.0.components 0 k.0.xs k.0.ys (no_points k.0.left k.0.right, k.0.steps) e k.2)
      ]

  pub walk_refused : (depth steps g : ℕ) (e : Error) → unfolded depth s at steps g ≡ Err e → HasWalkFault s at depth steps g e
  unfolding unfolded
  walk_refused zero steps g e h = subst (HasWalkFault s at zero steps g) (failed_is {A = Unfolded × ℕ} MalformedFont e h) (too_deep steps g)
  walk_refused (suc depth) steps g e h =
      elim (bind_err (ok_or (counted_description s g) MalformedFont) (measured depth steps g) e h) [
        | inl k ↦ let f = named_err (counted_description s g) MalformedFont e k in subst (HasWalkFault s at (suc depth) steps g) f.1 (in_description depth steps g (description_refused s g f.0))
        | inr k ↦ elim (bind_err (ok_or (metric s g) MalformedFont) (by_kind depth steps g k.0) e k.2) [
          | inl l ↦ let f = named_err (metric s g) MalformedFont e l in subst (HasWalkFault s at (suc depth) steps g) f.1 (in_hmtx depth steps g k.0 (named_ok (counted_description s g) MalformedFont k.0 k.1) (hmtx_refused s g f.0))
          | inr l ↦ kind_refused depth steps g k.0 l.0 e (λ left h. walk_refused depth left h e) (named_ok (counted_description s g) MalformedFont k.0 k.1) (named_ok (metric s g) MalformedFont l.0 l.1) (is_composite k.0) refl l.2
        ]
      ]

  component_stops : (depth steps g : ℕ) (c : Component) (x y : ℤ) (all : Unfolded × ℕ) (e : Error) (i : IsAtComponent s at depth steps g c x y all)
      → (unfolded depth s at all.1 c.glyph >>= joined_next (unfolded depth s at) c i.more (length i.before) i.it.xs i.it.ys all) ≡ Err e → unfolded (suc depth) s at steps g ≡ Err e
  unfolding unfolded unfolded_composite joined
  component_stops depth steps g c x y all e i h =
      let place : 0 + length i.before ≡ length i.before = omega arith in
      after_named (counted_description s g) MalformedFont (measured depth steps g) i.bytes i.description_is
      ∙ after_named (metric s g) MalformedFont (by_kind depth steps g i.bytes) i.m i.metric_is
      ∙ ap (λ b. cond b (unfolded_composite (unfolded depth s at) s at steps g i.bytes i.m) (unfolded_simple s at steps g i.bytes i.m)) i.kind
      ∙ following (composite s at steps g i.bytes i.m) (joined_of depth) i.it i.it_is
      ∙ ap (λ cs. joined (unfolded depth s at) cs 0 i.it.xs i.it.ys (no_points i.it.left i.it.right, i.it.steps)) i.components_are
      ∙ joined_front (unfolded depth s at) i.before (c ∷ i.more) 0 i.it.xs i.it.ys (no_points i.it.left i.it.right, i.it.steps) all i.all_are
      ∙ ap (λ n. joined (unfolded depth s at) (c ∷ i.more) n i.it.xs i.it.ys all) place ∙ h

  -- a fault stops the walk
  pub walk_stops : (depth steps g : ℕ) (e : Error) → HasWalkFault s at depth steps g e → unfolded depth s at steps g ≡ Err e
  unfolding unfolded unfolded_composite
  walk_stops _ _ _ _ (too_deep steps g) = refl
  walk_stops _ _ _ _ (in_description depth steps g f) = after_missing (counted_description s g) MalformedFont (measured depth steps g) (description_missing s g f)
  walk_stops _ _ _ _ (in_hmtx depth steps g bytes is f) = after_named (counted_description s g) MalformedFont (measured depth steps g) bytes is ∙ after_missing (metric s g) MalformedFont (by_kind depth steps g bytes) (hmtx_missing s g f)
  walk_stops _ _ _ e (in_simple depth steps g bytes m is m_is kind f) =
      after_named (counted_description s g) MalformedFont (measured depth steps g) bytes is ∙ after_named (metric s g) MalformedFont (by_kind depth steps g bytes) m m_is
      ∙ ap (λ b. cond b (unfolded_composite (unfolded depth s at) s at steps g bytes m) (unfolded_simple s at steps g bytes m)) kind ∙ simple_stops s at steps g bytes m e f
  walk_stops _ _ _ e (in_composite depth steps g bytes m is m_is kind f) =
      after_named (counted_description s g) MalformedFont (measured depth steps g) bytes is ∙ after_named (metric s g) MalformedFont (by_kind depth steps g bytes) m m_is
      ∙ ap (λ b. cond b (unfolded_composite (unfolded depth s at) s at steps g bytes m) (unfolded_simple s at steps g bytes m)) kind ∙ after_error (composite s at steps g bytes m) (joined_of depth) e (composite_stops s at steps g bytes m e f)
  walk_stops _ _ _ e (in_component depth steps g c x y all i f) =
      component_stops depth steps g c x y all e i (after_error (unfolded depth s at all.1 c.glyph) (joined_next (unfolded depth s at) c i.more (length i.before) i.it.xs i.it.ys all) e (walk_stops depth all.1 c.glyph e f))
  walk_stops _ _ _ e (in_place depth steps g c x y all part i is f) =
      let next = λ (x y : ℤ). with_component c x y all.0 part.0 part.1 in
      component_stops depth steps g c x y all e i (
      following (unfolded depth s at all.1 c.glyph) (joined_next (unfolded depth s at) c i.more (length i.before) i.it.xs i.it.ys all) part is
      ∙ after_error (next (slice_index_or i.it.xs (length i.before) (pos 0)) (slice_index_or i.it.ys (length i.before) (pos 0))) (joined (unfolded depth s at) i.more (length i.before + 1) i.it.xs i.it.ys) e
      (ap (λ x. next x (slice_index_or i.it.ys (length i.before) (pos 0))) i.x_is ∙ ap (next x) i.y_is ∙ part_stops c x y (with_metrics c.flags all.0 part.0) part.0 part.1 e f)
      )
