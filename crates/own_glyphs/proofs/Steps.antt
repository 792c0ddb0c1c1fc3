-- A step of a loop over own glyphs and their boxes.
--   metrics_step                 the next metric after others
--   composite_written            the outline of parts, written in turn
use Rattle.std.proofs.Common.{◌≡◌, ℕ, zero, suc, ◌+◌, ◌^◌, ◌<◌, false, List, [], ◌∷◌, ◌++◌, length, get_or, drop, map, refl, sym, ap, subst, ◌∙◌, append_assoc, arith}
use Rattle.std.specs.Prelude.{◌==◌}
use Rattle.std.specs.Int.{w16, cast_unsigned}
use Rattle.std.specs.List.{flat_map}
use Rattle.std.proofs.lemmas.List.{append-nil}
use Rattle.subsetter_points.specs.Bounds.{bounds_bytes}
use Rattle.subsetter_points.specs.declared.bounds.Bounds.{Bounds}
use Rattle.subsetter_sfnt.specs.declared.fields.hmtx.LongHorMetric.{LongHorMetric}
use Rattle.subsetter.specs.Glyf.Parts.{parts_bytes, spelled}
use Rattle.own_glyphs.specs.declared.glyph.OwnGlyph.{OwnGlyph}
use Rattle.own_glyphs.specs.declared.glyph.Part.{Part}
use Rattle.own_glyphs.specs.Composite.{components, header_bytes, own_parts}
use Rattle.own_glyphs.specs.Written.{AreSmall, Further, drawn_in, further, metrics_with}

further_step : (own : List OwnGlyph) (boxes : List Bounds) (k : ℕ) (d : OwnGlyph) (e : Bounds) → k < length own → k < length boxes → further (drop k own) (drop k boxes) ≡ drawn_in (get_or own k d) (get_or boxes k e) ∷ further (drop (suc k) own) (drop (suc k) boxes)
further_step [] boxes k d e lt le = absurd (omega arith)
further_step (p ∷ own) [] k d e lt le = absurd (omega arith)
further_step (p ∷ own) (c ∷ boxes) zero d e lt le = refl
further_step (p ∷ own) (c ∷ boxes) (suc k) d e lt le = further_step own boxes k d e (omega arith) (omega arith)

metrics_more : (metrics new all : List LongHorMetric) (more rest : List Further) (f : Further) → metrics_with metrics more ≡ all → more ≡ f ∷ rest → new ≡ metrics ++ f.metric ∷ [] → metrics_with new rest ≡ all
metrics_more metrics new all more rest f whole split is =
    ap (λ (l : List LongHorMetric). l ++ map (λ (g : Further). g.metric) rest) is ∙ append_assoc metrics (f.metric ∷ []) (map (λ (g : Further). g.metric) rest) ∙ ap (metrics_with metrics) (sym split) ∙ whole

pub metrics_step : (first metrics new : List LongHorMetric) (own : List OwnGlyph) (boxes : List Bounds) (k : ℕ) (d : OwnGlyph) (e : Bounds) (m : LongHorMetric) → k < length own → length boxes ≡ length own
    → m.advance_width ≡ (get_or own k d).advance → m.lsb ≡ cast_unsigned w16 (get_or boxes k e).x_min → (m.advance_width < 2 ^ 16) × (m.lsb < 2 ^ 16) → new ≡ metrics ++ m ∷ []
    → metrics_with metrics (further (drop k own) (drop k boxes)) ≡ metrics_with first (further own boxes) → (AreSmall (further (drop k own) (drop k boxes)) → AreSmall (further own boxes))
    → (metrics_with new (further (drop (k + 1) own) (drop (k + 1) boxes)) ≡ metrics_with first (further own boxes)) × (AreSmall (further (drop (k + 1) own) (drop (k + 1) boxes)) → AreSmall (further own boxes))
metrics_step first metrics new own boxes k d e m lt same advance lsb small is whole smaller =
    let next : suc k ≡ k + 1 = omega arith in
    let f = drawn_in (get_or own k d) (get_or boxes k e) in
    let by : ℕ → ℕ → LongHorMetric = λ a l. record { advance_width = a; lsb = l } in
    let m_is : m ≡ f.metric = ap (λ (a : ℕ). by a m.lsb) advance ∙ ap (by (get_or own k d).advance) lsb in
    let split : further (drop k own) (drop k boxes) ≡ f ∷ further (drop (k + 1) own) (drop (k + 1) boxes) = further_step own boxes k d e lt (omega (arith, lt, same)) ∙ ap (λ (n : ℕ). f ∷ further (drop n own) (drop n boxes)) next in (
      metrics_more metrics new (metrics_with first (further own boxes)) (further (drop k own) (drop k boxes)) (further (drop (k + 1) own) (drop (k + 1) boxes)) f whole split (is ∙ ap (λ (l : LongHorMetric). metrics ++ l ∷ []) m_is),
      λ rest. smaller (subst AreSmall (sym split) (subst (λ (l : LongHorMetric). (l.advance_width < 2 ^ 16) × (l.lsb < 2 ^ 16)) m_is small, rest)),
    )

pub composite_written : (parts : List Part) (b : Bounds) (out o1 o2 o3 : List ℕ) → false ≡ (length parts == 0) → o1 ≡ out ++ 0xFF ∷ 0xFF ∷ [] → o2 ≡ o1 ++ bounds_bytes b → o3 ≡ o2 ++ flat_map spelled (components parts) → o3 ≡ out ++ parts_bytes (own_parts parts b)
composite_written [] b out o1 o2 o3 some x y z = absurd cc
composite_written (p ∷ parts) b out o1 o2 o3 some x y z =
    let c = flat_map spelled (components (p ∷ parts)) in
    z ∙ ap (λ (l : List ℕ). l ++ c) (y ∙ ap (λ (l : List ℕ). l ++ bounds_bytes b) x ∙ append_assoc out (0xFF ∷ 0xFF ∷ []) (bounds_bytes b)) ∙ append_assoc out (header_bytes b) c ∙ ap (λ (l : List ℕ). out ++ l) (sym (append-nil (header_bytes b ++ c)))
