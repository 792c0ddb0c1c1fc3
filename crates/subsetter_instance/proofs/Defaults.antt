-- At the default a glyph is drawn as it is in the source, without its variations.
use Rattle.std.proofs.Common.{◌≡◌, ℕ, List, length, Option, Some, None, Ok, ℤ, pos, All, refl, sym, ap, ◌∙◌}
use Rattle.std.specs.Option.{ok_or}
use Rattle.subsetter_base.specs.Bytes.{◌>>=◌}
use Rattle.subsetter_base.specs.declared.error.Error.TheVariants.{MalformedFont}
use Rattle.subsetter_base.proofs.Options.{just_is}
use Rattle.subsetter_base.proofs.Results.{bind_ok, done_is, named_ok}
use Rattle.subsetter_variation.specs.Glyphs.Movement.{Outline}
use Rattle.subsetter_variation.specs.Glyphs.Tuples.{Gvar}
use Rattle.subsetter_variation.specs.Glyphs.Varied.{in_units}
use Rattle.subsetter_variation.specs.VariationLaws.{HasBoundTuples}
use Rattle.subsetter_variation.proofs.Defaults.{stays_at_default}
use Rattle.subsetter_instance.specs.Source.{Source, description, metric}
use Rattle.subsetter_sfnt.specs.declared.fields.hmtx.LongHorMetric.{LongHorMetric}
use Rattle.subsetter_instance.specs.Glyphs.Drawn.{Drawn, drawn, levels, rounded}
use Rattle.subsetter_instance.specs.MetricLaws.{IsDrawnAsUnvaried}
use Rattle.subsetter_instance.specs.Glyphs.Unfolded.{Unfolded, moved, unfolded}
use Rattle.subsetter_instance.specs.Laws.{IsDrawnAsInSource, unvaried}
use Rattle.subsetter_instance.proofs.SameLaws.Unfolded.{ReadAlike, unfolded_alike}

pub stays : (gvar : Option Gvar) (g : ℕ) (o : Outline) (at : List ℤ) (steps : ℕ) (a : List ℤ × List ℤ × ℕ) → All (λ c. c ≡ pos 0) at → ((t : Gvar) → gvar ≡ Some t → HasBoundTuples t g o (length at)) → moved gvar g o at steps ≡ Ok a → (a.0 ≡ in_units o.xs) × (a.1 ≡ in_units o.ys)
stays None g o at steps a zeros bound h =
    let i = done_is (in_units o.xs, in_units o.ys, steps) a h in
    (ap (λ (p : List ℤ × List ℤ × ℕ). p.0) (sym i), ap (λ (p : List ℤ × List ℤ × ℕ). p.1) (sym i))
stays (Some t) g o at steps a zeros bound h = stays_at_default t g o at steps a zeros (bound t refl) h

read_alike : (s : Source) → ReadAlike s (unvaried s)
unfolding description metric
read_alike s g = (refl, refl)

pub is_drawn_as_it_stands : IsDrawnAsInSource
is_drawn_as_it_stands s at depth m n g u v zeros bound e f =
    unfolded_alike depth s (unvaried s) at (read_alike s)
    (λ h o i j a b x y. let p = stays s.gvar h o at i a zeros (λ t is. bound t h o is) x in let q = stays None h o at j b zeros (λ t is. absurd cc) y in (p.0 ∙ sym q.0, p.1 ∙ sym q.1)) m n g u v e f

-- the parts of what is drawn: the metric, and what the glyph unfolds to
pub record DrawnParts (s : Source) (at : List ℤ) (steps g : ℕ) (d : Drawn) : Type 0 where
  pub m : LongHorMetric
  pub m_is : metric s g ≡ Some m
  pub u : Unfolded × ℕ
  pub u_is : unfolded levels s at steps g ≡ Ok u
  pub d_is : rounded s at g m u.0 ≡ Ok d

pub drawn_parts : (s : Source) (at : List ℤ) (steps g : ℕ) (d : Drawn) → drawn s at steps g ≡ Ok d → DrawnParts s at steps g d
unfolding drawn
drawn_parts s at steps g d h =
    let a = bind_ok (ok_or (metric s g) MalformedFont) (λ m. unfolded levels s at steps g >>= λ u. rounded s at g m u.0) d h in
    let b = bind_ok (unfolded levels s at steps g) (λ u. rounded s at g a.0 u.0) d a.2 in
    record { m = a.0; m_is = named_ok (metric s g) MalformedFont a.0 a.1; u = b.0; u_is = b.1; d_is = b.2 }

same_metric : (s : Source) (g : ℕ) → metric (unvaried s) g ≡ metric s g
unfolding metric
same_metric s g = refl

-- HVAR alone decides the advance, and both have the same
same_rounded : (s : Source) (at : List ℤ) (g : ℕ) (m : LongHorMetric) (u : Unfolded) → rounded (unvaried s) at g m u ≡ rounded s at g m u
unfolding rounded
same_rounded s at g m u = refl

pub is_drawn_as_unvaried : IsDrawnAsUnvaried
is_drawn_as_unvaried s at m n g d e zeros bound h k =
    let a = drawn_parts s at m g d h in
    let b = drawn_parts (unvaried s) at n g e k in
    let metrics : a.m ≡ b.m = just_is a.m b.m (sym a.m_is ∙ sym (same_metric s g) ∙ b.m_is) in
    let outlines : a.u.0 ≡ b.u.0 = is_drawn_as_it_stands s at levels m n g a.u b.u zeros bound a.u_is b.u_is in
    done_is d e (sym a.d_is ∙ ap (λ (x : LongHorMetric). rounded s at g x a.u.0) metrics ∙ ap (λ (u : Unfolded). rounded s at g b.m u) outlines ∙ sym (same_rounded s at g b.m b.u.0) ∙ b.d_is)
