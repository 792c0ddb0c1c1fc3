-- A subset of an instance, read afresh: the glyphs that were asked for and no other, each as it is drawn.
use Rattle.std.proofs.Common.{◌≡◌, ℕ, ◌^◌, ◌<◌, List, [], ◌∷◌, ◌++◌, length, get_or, Some, Result, Ok, Err, ℤ, refl, sym, ap, subst, ◌∙◌, inl, inr, arith}
use Rattle.std.specs.Prelude.{codes, Contains, IfOk}
use Rattle.std.specs.Option.{option_and_then}
use Rattle.std.specs.Int.{w16, cast_unsigned}
use Rattle.std.proofs.lemmas.Bool.{ltb-true}
use Rattle.std.proofs.lemmas.List.{append-nil, get_or_append_left, get_or_at, get_or_default, length-append}
use Rattle.subsetter_base.specs.Bytes.{aligned}
use Rattle.subsetter_base.specs.Indexes.{index_of, IsWithoutRepeats}
use Rattle.subsetter_base.specs.declared.tag.Tag.{Tag}
use Rattle.subsetter_base.specs.declared.error.Error.{Error}
use Rattle.subsetter_base.proofs.Lists.{and_parts}
use Rattle.subsetter_base.proofs.Options.{just_is, is_some_of, bind_some}
use Rattle.subsetter_points.specs.Simple.{are_ends, parts_bytes}
use Rattle.subsetter_sfnt.specs.declared.extras.Extras.{Extras}
use Rattle.subsetter_sfnt.specs.declared.flavor.FontFlavor.{FontFlavor}
use Rattle.subsetter_sfnt.specs.declared.flavor.FontFlavor.TheVariants.{TrueType}
use Rattle.subsetter_sfnt.specs.FontAt.{font_at}
use Rattle.subsetter_sfnt.specs.Read.{Font, as_font, stored, table, flavor}
use Rattle.subsetter.specs.Glyf.Parts.{component_numbers, outline_parts}
use Rattle.subsetter.specs.Glyf.BareOutlines.Bare.{requested_parts}
use Rattle.subsetter.specs.Glyf.Reaching.Reach.{IsReachable, IsGlyphOrder, given, step}
use Rattle.subsetter.specs.Glyf.Read.{outline}
use Rattle.subsetter.specs.Glyf.Reaching.Unfold.{SameParts, UnfoldAlike}
use Rattle.subsetter.specs.Common.Hmtx.Read as hmtx
use Rattle.subsetter.specs.Subset.{IsSubset, KeepsDrawing, by_outlines, by_charstrings}
use Rattle.subsetter.specs.Truetype.Read.{KeepsOutlines}
use Rattle.subsetter_instance.specs.Instance.{IsInstance, IsDrawn}
use Rattle.subsetter_instance.proofs.FileLaws.Fitting.{drawn_fits}
use Rattle.subsetter_variable.specs.Afresh.{IsDrawnAs, HasGlyphsDrawn}
use Rattle.subsetter_variable.specs.DefaultLocation.{IsAtDefault, no_outlines, IsStaticFile}
use Rattle.subsetter_variable.specs.Subset.{whole}
use Rattle.subsetter_variable.proofs.Simple.{IsLow, low_bytes, no_components, bare_already, shown, asked_parts, even, same_bytes}
use Rattle.subsetter_variable.proofs.SourceRead.{IsRead, is_read, hmtx_found, is_truetype, outline_found, metric_found}

-- a list without repeats that begins with another one and has no further members is that one
no_more : (glyphs others order : List ℕ) → order ≡ glyphs ++ others → IsWithoutRepeats order → ((g : ℕ) → Contains order g → Contains glyphs g) → order ≡ glyphs
no_more glyphs [] order is once members = is ∙ append-nil glyphs
no_more glyphs (o ∷ os) order is once members =
    let long : length glyphs < length order = omega (arith, ap length is, length-append glyphs (o ∷ os)) in
    let at : get_or order (length glyphs) 0 ≡ o = ap (λ (l : List ℕ). get_or l (length glyphs) 0) is ∙ get_or_at glyphs o os 0 (length glyphs) refl in
    let c = members o (length glyphs, long, get_or_default order (length glyphs) o 0 long ∙ at) in
    let front : get_or order c.0 0 ≡ o = ap (λ (l : List ℕ). get_or l c.0 0) is ∙ get_or_append_left glyphs (o ∷ os) 0 c.0 c.1 ∙ get_or_default glyphs c.0 0 o c.1 ∙ c.2 in
    let first : index_of order o ≡ Some c.0 = ap (index_of order) (sym front) ∙ once c.0 (omega (arith, c.1, long)) in
    let second : index_of order o ≡ Some (length glyphs) = ap (index_of order) (sym at) ∙ once (length glyphs) long in
    absurd (omega (arith, c.1, just_is c.0 (length glyphs) (sym first ∙ second)))

-- of a font with outlines in `glyf` these are kept
kept_outlines : (tokens depth : ℕ) (font : Font) (order : List ℕ) (out : Font) (kind : FontFlavor) → KeepsDrawing tokens depth font order out kind → flavor font ≡ Some kind → flavor font ≡ Some TrueType → KeepsOutlines font order out
kept_outlines tokens depth font order out _ (by_outlines k) h t = k
kept_outlines tokens depth font order out _ (by_charstrings k) h t = let both = sym h ∙ t in absurd cc

module _ (font : Font) (settings : List (Tag × ℤ)) (glyphs file : List ℕ) (x : Extras) (i : IsInstance font settings glyphs file) where
  read : IsRead (stored (as_font file)) 0 i.out
  read = is_read (stored (as_font file)) 0 i.out i.out_is

  -- ---- the glyphs

  text : (g : ℕ) (c : Contains glyphs g) → List ℕ
  text g c = aligned 2 (parts_bytes (i.requests g c).it.ends (i.requests g c).it.points)

  outline_is : (g : ℕ) (c : Contains glyphs g) → outline (font_at file 0 x) g ≡ Some (text g c)
  unfolding text
  outline_is g c = outline_found file x i.out read g ∙ (i.requests g c).bytes

  is_low : (g : ℕ) (c : Contains glyphs g) → IsLow (text g c)
  unfolding text
  is_low g c = let d = i.requests g c in low_bytes (aligned 2 (parts_bytes d.it.ends d.it.points)) (d.it.ends, d.it.points) d.reads

  -- a simple glyph leads to no other
  leads_nowhere : (g h : ℕ) (bytes : List ℕ) → Contains glyphs g → outline (font_at file 0 x) g ≡ Some bytes → Contains (component_numbers bytes) h → ⊥
  leads_nowhere g h bytes c e member =
      let same : bytes ≡ text g c = just_is bytes (text g c) (sym e ∙ outline_is g c) in
      let none : component_numbers bytes ≡ [] = ap component_numbers same ∙ no_components (text g c) (is_low g c) in
      omega (arith, member.1, ap length none)

  reached : (g : ℕ) → IsReachable (font_at file 0 x) glyphs g → Contains glyphs g
  reached g (given q c) = c
  reached h (step g q bytes r e c) = absurd (leads_nowhere g h bytes (reached g r) e c)

  only_asked : (order : List ℕ) → IsGlyphOrder (font_at file 0 x) glyphs order → order ≡ glyphs
  only_asked order o = no_more glyphs o.others order o.begins o.once (λ g c. reached g ((o.members g).0 c))

  -- ---- a glyph of the subset

  module _ (tokens depth : ℕ) (out : List ℕ) (s : IsSubset tokens depth (font_at file 0 x) glyphs out) where
    order_is : s.keeps.order ≡ glyphs
    order_is = only_asked s.keeps.order s.keeps.is_order

    outlines_kept : KeepsOutlines (font_at file 0 x) glyphs (as_font out)
    outlines_kept = subst (λ (l : List ℕ). KeepsOutlines (font_at file 0 x) l (as_font out)) order_is (kept_outlines tokens depth (font_at file 0 x) s.keeps.order (as_font out) s.keeps.kind s.keeps.drawing s.keeps.kind_is (is_truetype file x i.out read))

    metrics_kept : hmtx.KeepsMetrics (table (font_at file 0 x)) glyphs (table (as_font out))
    metrics_kept = subst (λ (l : List ℕ). hmtx.KeepsMetrics (table (font_at file 0 x)) l (table (as_font out))) order_is (s.keeps.shared.metrics (is_some_of (table (font_at file 0 x) (codes "hmtx")) i.out.hmtx (hmtx_found file x i.out read)))

    module _ (k : ℕ) (lt : k < length glyphs) where
      asked_here : Contains glyphs (get_or glyphs k 0)
      asked_here = (k, lt, get_or_default glyphs k (get_or glyphs k 0) 0 lt)

      drawn_here : IsDrawn i.source i.out i.at i.steps (get_or glyphs k 0)
      drawn_here = i.requests (get_or glyphs k 0) asked_here

      bytes_here : outline (as_font out) k ≡ Some (aligned 2 (parts_bytes drawn_here.it.ends drawn_here.it.points))
      unfolding drawn_here
      bytes_here =
          let g = get_or glyphs k 0 in
          let it = drawn_here.it in
          let b = aligned 2 (parts_bytes it.ends it.points) in
          let same = outlines_kept.drawing 1 k lt in
          let low = low_bytes b (it.ends, it.points) drawn_here.reads in
          let few : length it.ends < 2 ^ 15 = ltb-true (length it.ends) 0x8000 (and_parts _ _ (and_parts (are_ends 0 it.ends (length it.points)) _ (drawn_fits i.source i.at i.steps g it drawn_here.drawn_is).fits).1).0 in
          let source : requested_parts x.hinting (outline_parts b) ≡ Some (shown b) = asked_parts x.hinting b low (bare_already it.ends it.points few) in
          let there : outline (font_at file 0 x) g ≡ Some b = outline_found file x i.out read g ∙ drawn_here.bytes in
          let found : same.source ≡ shown b = just_is same.source (shown b) (sym same.source_is ∙ ap (λ o. requested_parts x.hinting (option_and_then outline_parts o)) there ∙ source) in
          let copy = bind_some (outline (as_font out) k) outline_parts same.copy same.copy_is in
          let parts = subst (λ p. SameParts same.tables.long (UnfoldAlike (font_at file 0 x) (as_font out) 0) p same.copy) found same.same in
          copy.1 ∙ ap Some (same_bytes copy.0 b same.copy same.tables.long (UnfoldAlike (font_at file 0 x) (as_font out) 0) copy.2 (even (parts_bytes it.ends it.points)) parts)

      metrics_here : hmtx.metric (as_font out) k ≡ Some (record { advance_width = drawn_here.it.advance; lsb = cast_unsigned w16 drawn_here.it.bearing })
      metrics_here =
          let g = get_or glyphs k 0 in
          let m = metrics_kept.metrics k lt in
          let there = metric_found file x i.out read g (record { advance_width = drawn_here.it.advance; lsb = cast_unsigned w16 drawn_here.it.bearing }) drawn_here.metrics in
          m.copy ∙ sym m.source ∙ there

      pub glyph_drawn : IsDrawnAs i.source i.at i.steps (get_or glyphs k 0) (as_font out) k
      glyph_drawn = record { it = drawn_here.it; drawn_is = drawn_here.drawn_is; bytes = bytes_here; reads = drawn_here.reads; metrics = metrics_here }

    pub all_drawn : HasGlyphsDrawn font settings glyphs out
    all_drawn = record { at = i.at; coordinates_are = i.coordinates_are; source = i.source; source_is = i.source_is; steps = i.steps; count = outlines_kept.count; glyphs_drawn = λ k lt. glyph_drawn k lt }

-- ---- an answer

module _ (tokens depth : ℕ) (font : Font) (settings : List (Tag × ℤ)) (glyphs file : List ℕ) (i : IsInstance (whole font) settings glyphs file) where
  pub drawn_at : {X : Type 0} (view : X → List ℕ) (r : Result X Error) → IfOk r (λ v. IsSubset tokens depth (font_at file 0 font.extras) glyphs (view v)) → IfOk r (λ v. (IsAtDefault (whole font) settings → ⊥) → HasGlyphsDrawn (whole font) settings glyphs (view v))
  drawn_at view (Ok v) s = λ not. all_drawn (whole font) settings glyphs file font.extras i tokens depth (view v) s
  drawn_at view (Err e) h = tt

pub not_drawn : (font : Font) (settings : List (Tag × ℤ)) (glyphs : List ℕ) → IsAtDefault (whole font) settings → {X : Type 0} (view : X → List ℕ) (r : Result X Error) → IfOk r (λ v. (IsAtDefault (whole font) settings → ⊥) → HasGlyphsDrawn (whole font) settings glyphs (view v))
not_drawn font settings glyphs d view (Ok v) = λ not. absurd (not d)
not_drawn font settings glyphs d view (Err e) = tt

-- of a file that is made; outlines of CFF2 alone have none in `glyf` that move
module _ (tokens depth : ℕ) (font : Font) (settings : List (Tag × ℤ)) (glyphs file : List ℕ) where
  pub drawn_by : IsStaticFile (whole font) settings glyphs file → {X : Type 0} (view : X → List ℕ) (r : Result X Error) → IfOk r (λ v. IsSubset tokens depth (font_at file 0 font.extras) glyphs (view v)) → IfOk r (λ v. (IsAtDefault (whole font) settings → ⊥) → HasGlyphsDrawn (whole font) settings glyphs (view v))
  drawn_by (inl i) view r s = drawn_at tokens depth font settings glyphs file i.1 view r s
  drawn_by (inr i) view r s = not_drawn font settings glyphs (no_outlines i.0.no_glyf) view r
