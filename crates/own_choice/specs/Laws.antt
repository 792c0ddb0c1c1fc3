-- Laws of the choice: what can be made of the parts that it lets through.
use Rattle.std.specs.Prelude.{◌≡◌, ◌<◌, ◌≤◌, ℕ, true, List, length, Option, Some, Ok, Err, ℤ}
use Rattle.std.specs.List.{AllByRecursion}
use Rattle.subsetter_base.specs.declared.error.Error.TheVariants.{OverflowError}
use Rattle.subsetter_points.specs.declared.bounds.Bounds.{Bounds}
use Rattle.subsetter_instance.specs.Glyphs.Drawn.{Drawn}
use Rattle.subsetter_instance.specs.Plain.{drawn_all}
use Rattle.subsetter_instance.specs.Source.{Source as Varying}
use Rattle.subsetter_instance.specs.Tables.Written.{maxp_bytes, outline_bytes}
use Rattle.own_glyphs.specs.Composite.{part_box, tables}
use Rattle.own_glyphs.specs.Profile.{limits_of}
use Rattle.own_glyphs.specs.Source.{Source}
use Rattle.own_glyphs.specs.declared.glyph.Part.{Part}
use Rattle.own_glyphs.specs.declared.profile.Limits.{Limits}
use Rattle.pdf_figures.specs.Figures.{is_place}
use Rattle.own_choice.specs.Parts.{drawn_size, has_small_outline, is_small, most_in, sized_parts, sizes}

-- `maxp` has limits for glyphs of `parts` parts
pub record HasLimits (parts : ℕ) (maxp : List ℕ) : Type 0 where
  pub limits : Limits
  pub are : limits_of parts maxp ≡ Ok limits

-- a part has a box of 16 bits, or an empty outline
pub record HasBox (s : Source) (p : Part) : Type 0 where
  pub bounds : Option Bounds
  pub is : part_box s p ≡ Ok bounds

-- a glyph that can be a part has a box of 16 bits wherever it is placed
abbrev pub PartsHaveBoxes : Type 0
PartsHaveBoxes =
    (s : Source) (p : Part) → p.glyph < s.count → has_small_outline (tables s) p.glyph ≡ true
    → is_place p.x ≡ true → is_place p.y ≡ true
    → HasBox s p

-- with glyphs of as many parts as own ones can have the limits of `maxp` have 16 bits, and of more not
pub record IsMost (maxp : List ℕ) (parts : ℕ) : Type 0 where
  pub within : parts ≤ most_in maxp → 0 < parts → HasLimits parts maxp
  pub beyond : most_in maxp < parts → 32 ≤ length maxp → limits_of parts maxp ≡ Err OverflowError

abbrev pub PartsFit : Type 0
PartsFit = (maxp : List ℕ) (parts : ℕ) → IsMost maxp parts

-- ---- off the default

-- an instance has such an outline of each glyph that can be a part there
abbrev pub DrawnAreSmall : Type 0
DrawnAreSmall = (d : Drawn) → (drawn_size d).is_small ≡ true → is_small (outline_bytes (Some d)) ≡ true

-- and its `maxp` has such limits, whichever of the font's glyphs it has
abbrev pub InstancesFit : Type 0
InstancesFit =
    (s : Varying) (at : List ℤ) (steps count n parts : ℕ) (glyphs : List ℕ) (ds : List Drawn)
    → AllByRecursion (λ g. g < count) glyphs → drawn_all s at steps glyphs ≡ Ok ds
    → parts ≤ (sized_parts (sizes s at steps count)).most → 0 < parts
    → HasLimits parts (maxp_bytes n ds)
