-- All glyphs of a subset reach no others.
use Rattle.std.proofs.Common.{◌≡◌, ℕ, ◌<◌, Bool, List, [], ◌∷◌, length, Some, sym, ap, subst, ◌∙◌}
use Rattle.std.specs.Prelude.{Contains}
use Rattle.subsetter_cff.specs.Write.Again.{AreAll}
use Rattle.cid_embed.proofs.AgainLaws.ByKind.{IsOutlineSubset}
use Rattle.cid_embed.proofs.AgainLaws.Basics.{one_found, has_parts}
use Rattle.cid_embed.proofs.AgainLaws.OrderLaws.OneOrder.{own_order, one_order, all_once, among_all, below_all}
use Rattle.cid_embed.proofs.AgainLaws.OutlinesLaws.PartNumbers.{part_numbers, each_among}
use Rattle.subsetter_sfnt.specs.Read.{Font, as_font}
use Rattle.subsetter.specs.Glyf.Read.{outline}
use Rattle.subsetter.specs.Glyf.Parts.{component_numbers, Component, Parts, Empty, Simple, Composite, outline_parts}
use Rattle.subsetter.specs.Glyf.BareOutlines.Bare.{glyph_parts}
use Rattle.subsetter.specs.Glyf.Reaching.Reach.{IsReachable, given, step, IsGlyphOrder}
use Rattle.subsetter.specs.Glyf.Reaching.Unfold.{SameComponents, SameParts, UnfoldAlike}
use Rattle.subsetter_base.proofs.Options.{bind_some}
use Rattle.subsetter.proofs.GlyfLaws.ReachingLaws.Unfold.{EachGlyph, components_of}

-- ---- the glyphs of a subset

module _ (font : Font) (glyphs out : List ℕ) (s : IsOutlineSubset font glyphs out) where
  alike_within : (g h : ℕ) → UnfoldAlike font (as_font out) 1 g h → h < length s.order
  alike_within g h a = has_parts (as_font out) (length s.order) h a.copy s.drawn.count a.copy_is

  each_within : (cs ds : List Component) → SameComponents (UnfoldAlike font (as_font out) 1) cs ds → EachGlyph (λ g. g < length s.order) ds
  each_within [] [] h = tt
  each_within (c ∷ cs) (d ∷ ds) h = (alike_within c.glyph d.glyph h.2, each_within cs ds h.3)
  each_within [] (d ∷ ds) h = absurd h
  each_within (c ∷ cs) [] h = absurd h

  parts_within : (long : Bool) (p q : Parts) → SameParts long (UnfoldAlike font (as_font out) 1) p q → EachGlyph (λ g. g < length s.order) (components_of q)
  parts_within long Empty Empty h = tt
  parts_within long (Simple b) (Simple c) h = tt
  parts_within long (Composite head chain) (Composite top copy) h = each_within chain.components copy.components h.2
  parts_within long Empty (Simple c) h = absurd h
  parts_within long Empty (Composite top copy) h = absurd h
  parts_within long (Simple b) Empty h = absurd h
  parts_within long (Simple b) (Composite top copy) h = absurd h
  parts_within long (Composite head chain) Empty h = absurd h
  parts_within long (Composite head chain) (Simple c) h = absurd h

  -- the components of a glyph of a subset are glyphs of it
  pub components_within : (i : ℕ) (q : Parts) → i < length s.order → glyph_parts (as_font out) i ≡ Some q → EachGlyph (λ g. g < length s.order) (components_of q)
  components_within i q lt h =
      let d = s.drawn.drawing 2 i lt in
      let same : d.copy ≡ q = one_found (glyph_parts (as_font out) i) d.copy q d.copy_is h in
      subst (λ (r : Parts). EachGlyph (λ g. g < length s.order) (components_of r)) same (parts_within d.tables.long d.source d.copy d.same)

  -- also by the lenient reading
  pub component_below : (g h : ℕ) (bytes : List ℕ) → g < length s.order → outline (as_font out) g ≡ Some bytes → Contains (component_numbers bytes) h → h < length s.order
  component_below g h bytes lt o c =
      let d = s.drawn.drawing 1 g lt in
      let k = bind_some (outline (as_font out) g) outline_parts d.copy d.copy_is in
      let same : k.0 ≡ bytes = one_found (outline (as_font out) g) k.0 bytes k.1 o in
      let parts : outline_parts bytes ≡ Some d.copy = ap outline_parts (sym same) ∙ k.2 in
      each_among (λ x. x < length s.order) (components_of d.copy) h (components_within g d.copy lt d.copy_is) (subst (λ (l : List ℕ). Contains l h) (part_numbers bytes d.copy parts) c)

  -- ---- all of them

  module _ (all : List ℕ) (a : AreAll (length s.order) all) where
    -- they reach no others
    pub reached : (g : ℕ) → IsReachable (as_font out) all g → g < length s.order
    reached g (given _ c) = below_all (length s.order) all a g c
    reached h (step g _ bytes r o c) = component_below g h bytes (reached g r) o c

    pub closed : IsGlyphOrder (as_font out) all all
    closed = own_order (as_font out) all (λ g r. among_all (length s.order) all a g (reached g r)) (all_once (length s.order) all a)

    pub only_order : (order : List ℕ) → IsGlyphOrder (as_font out) all order → order ≡ all
    only_order = one_order (as_font out) all (λ g r. among_all (length s.order) all a g (reached g r))
