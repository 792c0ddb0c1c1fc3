-- What is returned is an instance, and the only one; what is refused has a fault. The box of its header is the least
-- one.
use Rattle.std.specs.Prelude.{◌≡◌, ℕ, List, ◌∷◌, length, Some, None, Ok, Err, All, ℤ, pos, ◌↔◌}
use Rattle.std.specs.List.{flat_map}
use Rattle.subsetter_base.specs.Bytes.{IsBytes}
use Rattle.subsetter_base.specs.declared.tag.Tag.{Tag}
use Rattle.subsetter_base.specs.declared.error.Error.{Error}
use Rattle.subsetter_sfnt.specs.Read.{Font}
use Rattle.subsetter_points.specs.declared.outline.Point.{Point}
use Rattle.subsetter_points.specs.Simple.{box}
use Rattle.subsetter_instance.specs.Glyphs.Drawn.{Drawn}
use Rattle.subsetter_instance.specs.Tables.Extremes.{all_extents, box_bytes}
use Rattle.subsetter_instance.specs.Fault.{HasInstanceFault}
use Rattle.subsetter_instance.specs.Instance.{IsInstance}
use Rattle.subsetter_instance.specs.Plain.{instance_of}
use Rattle.subsetter_instance.specs.Source.{Source}
use Rattle.subsetter_instance.specs.Glyphs.Unfolded.{Unfolded, unfolded}
use Rattle.subsetter_variation.specs.Glyphs.Movement.{Outline}
use Rattle.subsetter_variation.specs.Glyphs.Tuples.{Gvar}
use Rattle.subsetter_variation.specs.VariationLaws.{HasBoundTuples}
use Rattle.subsetter_instance.specs.Faults.WalkFault.{HasWalkFault}

-- the file that the plain way lays out is an instance, read afresh from its bytes
abbrev pub IsReadAfresh : Type 0
IsReadAfresh =
    (font : Font) (settings : List (Tag × ℤ)) (glyphs : List ℕ) (steps : ℕ) (file : List ℕ) → IsBytes font.bytes
    → instance_of font settings glyphs steps ≡ Ok file
    → IsInstance font settings glyphs file

-- the number of steps decides whether there is a file, and not which
abbrev pub IsSameAtAnySteps : Type 0
IsSameAtAnySteps =
    (font : Font) (settings : List (Tag × ℤ)) (glyphs : List ℕ) (steps more : ℕ) (file other : List ℕ)
    → instance_of font settings glyphs steps ≡ Ok file → instance_of font settings glyphs more ≡ Ok other
    → file ≡ other

-- an error is that of a fault
abbrev pub HasFaultWhereRefused : Type 0
HasFaultWhereRefused =
    (font : Font) (settings : List (Tag × ℤ)) (glyphs : List ℕ) (steps : ℕ) (e : Error)
    → instance_of font settings glyphs steps ≡ Err e
    → HasInstanceFault font settings glyphs steps e

-- where there is a file, there is no fault
abbrev pub HasNoneWhereAnswered : Type 0
HasNoneWhereAnswered =
    (font : Font) (settings : List (Tag × ℤ)) (glyphs : List ℕ) (steps : ℕ) (file : List ℕ)
    → instance_of font settings glyphs steps ≡ Ok file → (e : Error)
    → ¬ (HasInstanceFault font settings glyphs steps e)

-- a glyph with its components isn't unfolded exactly where it has a fault, with the fault's error
abbrev pub AreFaultsNamed : Type 0
AreFaultsNamed =
    (s : Source) (at : List ℤ) (depth steps g : ℕ) (e : Error)
    → (unfolded depth s at steps g ≡ Err e) ↔ HasWalkFault s at depth steps g e

-- the tables without variations of outlines
abbrev pub unvaried : Source → Source
unvaried s = record s { gvar = None }

-- at the default a glyph, its components unrolled, is as it is in the source: as without variations, if each tuple has
-- an axis that isn't ignored
abbrev pub IsDrawnAsInSource : Type 0
IsDrawnAsInSource =
    (s : Source) (at : List ℤ) (depth steps more g : ℕ) (u v : Unfolded × ℕ) → All (λ c. c ≡ pos 0) at
    → ((t : Gvar) (h : ℕ) (o : Outline) → s.gvar ≡ Some t → HasBoundTuples t h o (length at))
    → unfolded depth s at steps g ≡ Ok u
    → unfolded depth (unvaried s) at more g ≡ Ok v → u.0 ≡ v.0

-- the box of what is drawn is that of one glyph with the points of all glyphs, which has the least and the greatest of
-- all coordinates
abbrev pub IsBoxOfAll : Type 0
IsBoxOfAll =
    (drawn : List Drawn) (p : Point) (points : List Point) → flat_map (λ d. d.points) drawn ≡ p ∷ points
    → box_bytes (all_extents drawn) ≡ box p points
