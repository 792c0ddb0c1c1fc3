-- Which glyphs can be parts of own ones, and of how many parts these can be (OpenType, "glyf", "gvar", "loca", "maxp").
use Rattle.std.specs.Prelude.{ℕ, ◌/◌, ◌==◌, not, ◌&&◌, ◌||◌, max, min, nat_lt, nat_le, Bool, true, false, is_some}
use Rattle.std.specs.Prelude.{if◌then◌else◌, List, [], ◌∷◌, length, map, replicate, codes, Option, Some, None, Result}
use Rattle.std.specs.Prelude.{Ok, Err, ℤ, unsigned_abs}
use Rattle.std.specs.List.{fold}
use Rattle.std.specs.Option.{option_map_or}
use Rattle.subsetter_base.specs.Bytes.{◌>>=◌}
use Rattle.subsetter_base.specs.declared.error.Error.{Error}
use Rattle.subsetter_base.specs.declared.error.Error.TheVariants.{OverflowError}
use Rattle.subsetter_base.specs.declared.tag.Tag.{Tag}
use Rattle.subsetter_points.specs.declared.bounds.Bounds.{Bounds}
use Rattle.subsetter_sfnt.specs.Fields.Head.{index_to_loc_format}
use Rattle.subsetter.specs.Glyf.Read.{Outlines, outline_in, outlines_in}
use Rattle.subsetter_instance.specs.Glyphs.Drawn.{Drawn, drawn}
use Rattle.subsetter_instance.specs.Source.{Source, normalized_coordinates, source_or_fault}
use Rattle.subsetter_instance.specs.Tables.Extremes.{glyph_extents}
use Rattle.subsetter_instance.specs.declared.tables.extremes.Extents.{Extents}
use Rattle.pdf_source.specs.Moved.{are_zero}
use Rattle.own_glyphs.specs.Composite.{header_box}
use Rattle.own_glyphs.specs.Profile.{field_at}
use Rattle.text_metrics.specs.Ink.{each_from}
use Rattle.own_choice.specs.declared.drawn.Size.{Size}
use Rattle.own_choice.specs.declared.outlines.Outlines.{Outlines as GivenOutlines}
use Rattle.own_choice.specs.declared.parts.Parts.{Parts as GivenParts}

-- the glyphs that can be parts, and how many parts an own glyph can have
pub record Parts : Type 0 where
  pub can_be : List Bool
  pub most : ℕ

abbrev pub parts_seen : GivenParts → Parts
parts_seen p = record { can_be = p.can_be.items; most = p.most }

abbrev pub no_parts : Parts
no_parts = record { can_be = []; most = 0 }

-- ---- a box

-- a side is at most 16,384 units from the origin
abbrev pub is_within : ℤ → Bool
is_within side = nat_le (unsigned_abs side) 16384

abbrev pub is_small_box : Bounds → Bool
is_small_box b = (is_within b.x_min && is_within b.y_min) && (is_within b.x_max && is_within b.y_max)

-- ---- how many parts

-- how many times a number goes into 65535
abbrev pub times_in : ℕ → ℕ
times_in n = 65535 / max n 1

-- how many parts a glyph can have, with at most 65535 points and as many contours
abbrev pub room_in : List ℕ → ℕ
room_in maxp =
    min (times_in (max (field_at maxp 6) (field_at maxp 10))) (times_in (max (field_at maxp 8) (field_at maxp 12)))

-- of version 1.0, which has 32 bytes
abbrev pub most_in : List ℕ → ℕ
most_in maxp = if nat_le 32 (length maxp) && nat_lt (field_at maxp 30) 65535 then room_in maxp else 0

-- ---- at a font's default

-- an outline is empty, or has a header of ten bytes with such a box (OpenType, "glyf", "Glyph headers")
abbrev pub is_small : List ℕ → Bool
is_small [] = true
is_small (b ∷ bytes) = nat_le 10 (length (b ∷ bytes)) && is_small_box (header_box (b ∷ bytes))

-- a glyph has such an outline
abbrev pub has_small_outline : Outlines → ℕ → Bool
has_small_outline t g = option_map_or is_small (outline_in t g) false

-- indexToLocFormat isn't 0
abbrev pub is_long : List ℕ → Bool
is_long head = option_map_or (λ (format : ℕ). not (format == 0)) (index_to_loc_format head) false

abbrev pub outlines_seen : GivenOutlines → Outlines
outlines_seen t =
    record { loca = t.loca.now; glyf = t.glyf.now; head = t.head.now; long = is_long t.head.now; hinting = true }

abbrev pub most_by : Option (List ℕ) → ℕ
most_by maxp = option_map_or most_in maxp 0

-- of `count` glyphs
abbrev pub still_by : Option Outlines → Option (List ℕ) → ℕ → Parts
still_by None maxp count = no_parts
still_by (Some t) maxp count = record { can_be = each_from (has_small_outline t) 0 count; most = most_by maxp }

abbrev pub still_parts : (List ℕ → Option (List ℕ)) → ℕ → Parts
still_parts find count = still_by (outlines_in true find) (find (codes "maxp")) count

-- ---- off its default, as an instance has its glyphs

-- what is drawn of a glyph: whether it is in such a box, and how many points it has, or contours, if these are more
abbrev pub drawn_size : Drawn → Size
drawn_size d = record {
  is_small = option_map_or (λ (e : Extents). is_small_box e.bounds) (glyph_extents d.advance d.points) true;
  count = max (length d.points) (length d.ends);
}

-- of a glyph that isn't drawn: one that takes more steps may have any number of points
abbrev pub no_size : Error → Size
no_size OverflowError = record { is_small = false; count = 65536 }
no_size e = record { is_small = false; count = 0 }

abbrev pub size_of : Result Drawn Error → Size
size_of (Err e) = no_size e
size_of (Ok d) = drawn_size d

-- of glyphs that may each take `steps` steps
abbrev pub sizes : Source → List ℤ → ℕ → ℕ → List Size
sizes s at steps count = each_from (λ g. size_of (drawn s at steps g)) 0 count

abbrev pub most_points : List Size → ℕ
most_points all = fold max 0 (map (λ (z : Size). z.count) all)

-- an instance has at most as many points as the largest glyph
abbrev pub sized_parts : List Size → Parts
sized_parts all = record { can_be = map (λ (z : Size). z.is_small) all; most = times_in (most_points all) }

unfoldable pub moved_parts : (List ℕ → Option (List ℕ)) → List ℤ → ℕ → ℕ → Result Parts Error
moved_parts find at steps count = source_or_fault find (length at) >>= λ s. Ok (sized_parts (sizes s at steps count))

-- ---- of a font

-- outlines are in `glyf`
unfoldable pub glyf_parts : (List ℕ → Option (List ℕ)) → List (Tag × ℤ) → ℕ → ℕ → Result Parts Error
glyf_parts find settings steps count = do
  at ← normalized_coordinates find settings
  if are_zero at then Ok (still_parts find count) else moved_parts find at steps count

-- glyphs may have other pictures than outlines (OpenType, "COLR", "SVG ", "CBDT", "sbix", "EBDT")
abbrev pub has_pictures : (List ℕ → Option (List ℕ)) → Bool
has_pictures find =
    (is_some (find (codes "COLR")) || is_some (find (codes "SVG ")))
    || (is_some (find (codes "CBDT")) || (is_some (find (codes "sbix")) || is_some (find (codes "EBDT"))))

-- outlines are in `CFF `, as they aren't in `glyf`: an own glyph can be a glyph at the origin, with another width
abbrev pub has_charstrings : (List ℕ → Option (List ℕ)) → Bool
has_charstrings find = not (is_some (find (codes "glyf"))) && is_some (find (codes "CFF "))

abbrev pub one_each : ℕ → Parts
one_each count = record { can_be = replicate count true; most = 1 }

-- a font with 65,535 glyphs has no room for another; where there may be other pictures no glyph can be a part
abbrev pub parts_in : (List ℕ → Option (List ℕ)) → List (Tag × ℤ) → ℕ → ℕ → Result Parts Error
parts_in find settings steps count =
    if count == 65535 || has_pictures find then Ok no_parts
    else if has_charstrings find then Ok (one_each count)
    else if is_some (find (codes "glyf")) then glyf_parts find settings steps count
    else Ok no_parts
