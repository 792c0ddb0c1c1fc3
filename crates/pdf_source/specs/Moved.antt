-- Where a font is off its default (OpenType, "fvar", "avar"), and the values of its descriptor there ("MVAR").
use Rattle.std.specs.Prelude.{ℕ, Bool, true, false, if◌then◌else◌, List, codes, Option, Some, None, is_some, ℤ, pos}
use Rattle.std.specs.List.{list_all}
use Rattle.std.specs.Option.{option_and_then}
use Rattle.std.specs.Ordering.{int_eq}
use Rattle.std.specs.Result.{result_ok}
use Rattle.subsetter_base.specs.declared.tag.Tag.{Tag}
use Rattle.subsetter_variation.specs.Locations.Axes.{axes}
use Rattle.subsetter_variation.specs.declared.locations.axes.Axis.{Axis}
use Rattle.subsetter_instance.specs.Source.{normalized_coordinates}
use Rattle.pdf_values.specs.Descriptor.{values_of}
use Rattle.pdf_values.specs.declared.looks.bounds.Bounds.{Bounds}
use Rattle.pdf_values.specs.declared.looks.bounds.Bounds.TheVariants.{Kept}
use Rattle.pdf_values.specs.declared.descriptor.Known.{Known}
use Rattle.pdf_values.specs.declared.descriptor.Values.{Values}
use Rattle.pdf_values.specs.declared.looks.bounds.GlyphBox.{GlyphBox}
use Rattle.pdf_glyphs.specs.Boxes.{boxes_from}
use Rattle.pdf_values.specs.Movement.{Movement}
use Rattle.pdf_source.specs.Boxed.{head_box}
use Rattle.pdf_source.specs.Cff.{cff_box, font_stem}
use Rattle.pdf_source.specs.Source.{bounds_by, outlines_of, tables_of}
use Rattle.pdf_source.specs.Tops.{known_of}
use Rattle.pdf_source.specs.declared.choice.FontOptions.{FontOptions}
use Rattle.pdf_source.specs.declared.moved.Location.{Location as GivenLocation}

-- the normalized coordinates, in 16384ths, and the axes
pub record Location : Type 0 where
  pub at : List ℤ
  pub axes : List Axis

abbrev pub location_seen : GivenLocation → Location
location_seen p = record { at = p.at.items; axes = p.axes.items }

abbrev pub are_zero : List ℤ → Bool
are_zero at = list_all (λ v. int_eq v (pos 0)) at

abbrev pub unless_zero : List ℤ → List Axis → Option Location
unless_zero at axes = if are_zero at then None else Some (record { at = at; axes = axes })

-- the axes that `fvar` lists, if it can be read
abbrev pub axes_in : Option (List ℕ) → Option (List Axis)
axes_in fvar = option_and_then axes fvar

abbrev pub location_by : Option (List ℤ) → Option (List Axis) → Option Location
location_by None axes = None
location_by (Some at) None = None
location_by (Some at) (Some axes) = unless_zero at axes

-- outlines in `glyf` move along axes, and those of `CFF2` alone; those of `CFF ` don't
abbrev pub can_move : Option (List ℕ) → Option (List ℕ) → Option (List ℕ) → Bool
can_move (Some glyf) cff cff2 = true
can_move None (Some cff) cff2 = false
can_move None None cff2 = is_some cff2

abbrev pub moves : (List ℕ → Option (List ℕ)) → Bool
moves find = can_move (find (codes "glyf")) (find (codes "CFF ")) (find (codes "CFF2"))

-- the least box around the first `count` glyphs of the new font: by the headers of its `glyf`, or by the charstrings of
-- its `CFF ` where they were made of `CFF2`; of other outlines it isn't known
abbrev pub kept_by : Option (List ℕ) → Bool → (List ℕ → Option (List ℕ)) → ℕ → Option GlyphBox
kept_by (Some glyf) moving new count = boxes_from (outlines_of new) 0 count
kept_by None true new count = cff_box (new (codes "CFF ")) count
kept_by None false new count = None

abbrev pub kept_in : (List ℕ → Option (List ℕ)) → (List ℕ → Option (List ℕ)) → ℕ → Option GlyphBox
kept_in find new count = kept_by (find (codes "glyf")) (moves find) new count

-- the box that the `head` of the program gets
abbrev pub program_box : (List ℕ → Option (List ℕ)) → (List ℕ → Option (List ℕ)) → ℕ → Bounds → Option GlyphBox
program_box find new count choice = head_box (bounds_by (moves find) choice) (kept_in find new count)

-- elsewhere than at its default; none of outlines that don't move
abbrev pub location_of : Bool → (List ℕ → Option (List ℕ)) → List (Tag × ℤ) → Option Location
location_of false find settings = None
location_of true find settings =
    location_by (result_ok (normalized_coordinates find settings)) (axes_in (find (codes "fvar")))

abbrev pub location_in : (List ℕ → Option (List ℕ)) → List (Tag × ℤ) → Option Location
location_in find settings = location_of (moves find) find settings

abbrev pub movement_of : (List ℕ → Option (List ℕ)) → List (Tag × ℤ) → Location → Movement
movement_of find settings p = record { at = p.at; axes = p.axes; settings = settings; mvar = find (codes "MVAR") }

-- off its default FontBBox holds the kept glyphs, where their boxes are known
abbrev pub values_by : Option Location → Known → (List ℕ → Option (List ℕ)) → Bounds → List (Tag × ℤ) → Values
values_by None known find choice settings = values_of (tables_of find) known None (bounds_by (moves find) choice)
values_by (Some p) known find choice settings =
    values_of (tables_of find) known (Some (movement_of find settings p)) (bounds_by (moves find) Kept)

-- the values of the descriptor, of the tables that look-ups find in the source and in the new font
abbrev pub values_in : (List ℕ → Option (List ℕ)) → (List ℕ → Option (List ℕ)) → ℕ → FontOptions → List (Tag × ℤ)
    → Values
values_in find new count options settings =
    values_by (location_in find settings)
    (known_of find options.limits (font_stem find new) (kept_in find new count)) find options.bounds settings
