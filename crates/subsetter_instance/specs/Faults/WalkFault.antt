-- The faults of a glyph with its components at a place, each with its error (OpenType, "glyf", "loca", "hmtx" and
-- "gvar").
use Rattle.std.specs.Prelude.{◌≡◌, ◌≤◌, ◌<◌, ℕ, zero, suc, ◌+◌, true, false, ◌&&◌, List, ◌∷◌, ◌++◌, length}
use Rattle.std.specs.Prelude.{slice_index_or, Some, None, Ok, ℤ, pos}
use Rattle.std.specs.List.{range_with_len}
use Rattle.subsetter_base.specs.declared.error.Error.{Error}
use Rattle.subsetter_base.specs.declared.error.Error.TheVariants.{MalformedFont, Unimplemented, OverflowError}
use Rattle.subsetter_points.specs.declared.outline.Point.{Point}
use Rattle.subsetter_points.specs.Simple.{after, parts, xs_of, ys_of}
use Rattle.subsetter_base.specs.Bytes.{has_flag}
use Rattle.subsetter_variation.specs.Glyphs.GvarFault.{HasVariationFault}
use Rattle.subsetter_variation.specs.Glyphs.Movement.{Outline, spent}
use Rattle.subsetter_variation.specs.Glyphs.Tuples.{Gvar}
use Rattle.subsetter_instance.specs.declared.glyphs.components.Arguments.TheVariants.{Offset, Points}
use Rattle.subsetter_instance.specs.declared.glyphs.components.Component.{Component}
use Rattle.subsetter_sfnt.specs.declared.fields.hmtx.LongHorMetric.{LongHorMetric}
use Rattle.subsetter_instance.specs.Glyphs.Components.{component_at, components_at, offset_xs, offset_ys}
use Rattle.subsetter_instance.specs.Faults.GlyphFault.{HasDescriptionFault, HasHmtxFault}
use Rattle.subsetter_instance.specs.Source.{Source, metric}
use Rattle.subsetter_instance.specs.Glyphs.Unfolded.{Composite, Unfolded, are_near, composite, counted_description}
use Rattle.subsetter_instance.specs.Glyphs.Unfolded.{is_composite, is_scaled, joined, moved, no_points, placed}
use Rattle.subsetter_instance.specs.Glyphs.Unfolded.{point_at, simple_outline, transformed_xs, transformed_ys, unfolded}
use Rattle.subsetter_instance.specs.Glyphs.Unfolded.{with_metrics, with_phantoms}

-- ---- a simple glyph

-- its points as gvar counts them, phantom points last
abbrev pub default_points : List ℕ × List Point → Outline
default_points outline = with_phantoms outline.0 (xs_of outline.1) (ys_of outline.1)

-- a point lies more than 32768 units from 0
abbrev pub IsFar : Unfolded → Type 0
IsFar u = (are_near u.xs && are_near u.ys) ≡ false

-- of a description, these bytes
pub data HasSimpleFault (s : Source) (at : List ℤ) (steps g : ℕ) (bytes : List ℕ) (m : LongHorMetric)
    : Error → Type 0 where
  -- the description is cut, its contours' ends don't ascend, a flag is repeated past the last point, or a coordinate
  -- has no 16 bits
  no_outline : parts bytes ≡ None → HasSimpleFault s at steps g bytes m MalformedFont
  -- fewer steps are left than it has points, four phantom points and itself
  few_steps_for_points : (outline : List ℕ × List Point) → parts bytes ≡ Some outline → steps < length outline.1 + 5
      → HasSimpleFault s at steps g bytes m OverflowError
  -- its variations
  in_point_variations : {e : Error} (outline : List ℕ × List Point) (left : ℕ) (t : Gvar) → parts bytes ≡ Some outline
      → spent (length outline.1 + 5) steps ≡ Ok left → s.gvar ≡ Some t
      → HasVariationFault t g (default_points outline) at left e
      → HasSimpleFault s at steps g bytes m e
  -- a point is moved more than 32768 units away
  far_outline : (outline : List ℕ × List Point) (left : ℕ) (to : List ℤ × List ℤ × ℕ) → parts bytes ≡ Some outline
      → spent (length outline.1 + 5) steps ≡ Ok left → moved s.gvar g (default_points outline) at left ≡ Ok to
      → IsFar (simple_outline bytes m outline.0 outline.1 to.0 to.1) → HasSimpleFault s at steps g bytes m OverflowError

-- ---- a composite glyph

-- of the bytes of components, of which each takes one of the steps that are left
pub data HasComponentFault : ℕ → List ℕ → Error → Type 0 where
  -- no step is left for the next one
  no_step : (rest : List ℕ) → HasComponentFault zero rest OverflowError
  -- it is cut
  cut_component : (steps : ℕ) (rest : List ℕ) → component_at rest ≡ None
      → HasComponentFault (suc steps) rest MalformedFont
  -- one after it, as MORE_COMPONENTS says that there is one
  later_component : {e : Error} (steps : ℕ) (rest : List ℕ) (c : Component × List ℕ) → component_at rest ≡ Some c
      → has_flag c.0.flags 0x0020 ≡ true → HasComponentFault steps c.1 e
      → HasComponentFault (suc steps) rest e

-- the offsets of components as gvar counts them, phantom points last
abbrev pub default_offsets : List Component → Outline
default_offsets cs = with_phantoms (range_with_len 0 (length cs)) (offset_xs cs) (offset_ys cs)

-- of a description, before its components are followed
pub data HasCompositeFault (s : Source) (at : List ℤ) (steps g : ℕ) (bytes : List ℕ) : Error → Type 0 where
  -- fewer steps are left than it has phantom points, and itself
  few_steps_for_glyph : steps < 5 → HasCompositeFault s at steps g bytes OverflowError
  -- its header is cut
  no_header : (left : ℕ) → spent 5 steps ≡ Ok left → after 10 bytes ≡ None
      → HasCompositeFault s at steps g bytes MalformedFont
  -- its components
  in_components : {e : Error} (left : ℕ) (body : List ℕ) → spent 5 steps ≡ Ok left → after 10 bytes ≡ Some body
      → HasComponentFault left body e
      → HasCompositeFault s at steps g bytes e
  -- its variations
  in_offset_variations : {e : Error} (left : ℕ) (body : List ℕ) (cs : List Component × ℕ) (t : Gvar)
      → spent 5 steps ≡ Ok left → after 10 bytes ≡ Some body → components_at left body ≡ Ok cs → s.gvar ≡ Some t
      → HasVariationFault t g (default_offsets cs.0) at cs.1 e → HasCompositeFault s at steps g bytes e

-- of a component where it is put, at the offset x and y, after those before it
pub data HasPlacingFault (c : Component) (x y : ℤ) (before part : Unfolded) : Error → Type 0 where
  -- its offset is to be scaled
  scaled_offset : (a b : ℤ) → c.arguments ≡ Offset a b → is_scaled c.flags c.matrix ≡ true
      → HasPlacingFault c x y before part Unimplemented
  -- the components before it, or it itself, have no point of the number that is to match
  no_parent : (parent child : ℕ) → c.arguments ≡ Points parent child → point_at before.xs before.ys parent ≡ None
      → HasPlacingFault c x y before part MalformedFont
  no_child : (parent child : ℕ) (p : ℤ × ℤ) → c.arguments ≡ Points parent child
      → point_at before.xs before.ys parent ≡ Some p
      → point_at (transformed_xs c.matrix part.xs part.ys) (transformed_ys c.matrix part.xs part.ys) child ≡ None
      → HasPlacingFault c x y before part MalformedFont
  -- a point of it comes to lie more than 32768 units away
  far_component : (p : Unfolded) → placed c x y before part ≡ Ok p → IsFar p
      → HasPlacingFault c x y before part OverflowError
  -- there are more than 65535 points
  many_points : (p : Unfolded) → placed c x y before part ≡ Ok p → (are_near p.xs && are_near p.ys) ≡ true
      → 65536 ≤ length before.on + length p.on
      → HasPlacingFault c x y before part OverflowError

-- ---- a glyph

-- a composite glyph of which these components are put, and this one is next
pub record IsAtComponent (s : Source) (at : List ℤ) (depth steps g : ℕ) (component : Component) (x y : ℤ)
    (all : Unfolded × ℕ) : Type 0 where
  pub bytes : List ℕ
  pub description_is : counted_description s g ≡ Some bytes
  pub m : LongHorMetric
  pub metric_is : metric s g ≡ Some m
  pub kind : is_composite bytes ≡ true
  pub it : Composite
  pub it_is : composite s at steps g bytes m ≡ Ok it
  pub before : List Component
  pub more : List Component
  pub components_are : it.components ≡ before ++ component ∷ more
  pub x_is : slice_index_or it.xs (length before) (pos 0) ≡ x
  pub y_is : slice_index_or it.ys (length before) (pos 0) ≡ y
  pub all_are : joined (unfolded depth s at) before 0 it.xs it.ys (no_points it.left it.right, it.steps) ≡ Ok all

-- of a glyph that may lead to components down to a depth, in a number of steps
pub data HasWalkFault (s : Source) (at : List ℤ) : ℕ → ℕ → ℕ → Error → Type 0 where
  -- it lies too deep
  too_deep : (steps g : ℕ) → HasWalkFault s at zero steps g MalformedFont
  -- its description: maxp, loca and glyf
  in_description : (depth steps g : ℕ) → HasDescriptionFault s g → HasWalkFault s at (suc depth) steps g MalformedFont
  -- its metric: hhea and hmtx
  in_hmtx : (depth steps g : ℕ) (bytes : List ℕ) → counted_description s g ≡ Some bytes → HasHmtxFault s g
      → HasWalkFault s at (suc depth) steps g MalformedFont
  in_simple : {e : Error} (depth steps g : ℕ) (bytes : List ℕ) (m : LongHorMetric)
      → counted_description s g ≡ Some bytes → metric s g ≡ Some m → is_composite bytes ≡ false
      → HasSimpleFault s at steps g bytes m e
      → HasWalkFault s at (suc depth) steps g e
  in_composite : {e : Error} (depth steps g : ℕ) (bytes : List ℕ) (m : LongHorMetric)
      → counted_description s g ≡ Some bytes → metric s g ≡ Some m → is_composite bytes ≡ true
      → HasCompositeFault s at steps g bytes e
      → HasWalkFault s at (suc depth) steps g e
  -- a component's own glyph
  in_component : {e : Error} (depth steps g : ℕ) (c : Component) (x y : ℤ) (all : Unfolded × ℕ)
      → IsAtComponent s at depth steps g c x y all → HasWalkFault s at depth all.1 c.glyph e
      → HasWalkFault s at (suc depth) steps g e
  -- a component where it is put
  in_place : {e : Error} (depth steps g : ℕ) (c : Component) (x y : ℤ) (all part : Unfolded × ℕ)
      → IsAtComponent s at depth steps g c x y all → unfolded depth s at all.1 c.glyph ≡ Ok part
      → HasPlacingFault c x y (with_metrics c.flags all.0 part.0) part.0 e → HasWalkFault s at (suc depth) steps g e
