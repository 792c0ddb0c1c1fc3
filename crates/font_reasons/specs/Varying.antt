-- What is wrong with what varies, where a call is at coordinates (OpenType, "gvar", "HVAR" and "MVAR").
use Rattle.std.specs.Prelude.{ℕ, ◌+◌, ◌-◌, ◌==◌, not, ◌&&◌, ◌||◌, Bool, true, false, nat_lt, nat_le, if◌then◌else◌}
use Rattle.std.specs.Prelude.{List, [], ◌∷◌, length, replicate, Option, Some, None, is_some, Result, Ok, Err, ℤ, pos, ◌+ℤ◌, int_le}
use Rattle.std.specs.Prelude.{codes}
use Rattle.std.specs.List.{list_all}
use Rattle.std.specs.Option.{option_and_then, option_map}
use Rattle.std.specs.Ordering.{int_eq}
use Rattle.subsetter_base.specs.Bytes.{number}
use Rattle.subsetter_base.specs.declared.error.Error.{Error as Refusal}
use Rattle.subsetter_base.specs.declared.error.Error.TheVariants.{MalformedFont, Unimplemented, CFFError}
use Rattle.subsetter_base.specs.declared.error.Error.TheVariants.{OverflowError}
use Rattle.subsetter_base.specs.declared.tag.Tag.{Tag}
use Rattle.subsetter_points.specs.Simple.{parts}
use Rattle.subsetter_sfnt.specs.Fields.Hmtx.{metric_in}
use Rattle.subsetter_sfnt.specs.Read.{Font, stored}
use Rattle.subsetter_sfnt.specs.declared.fields.hmtx.LongHorMetric.{LongHorMetric}
use Rattle.subsetter_variation.specs.Glyphs.Movement.{Outline, moved_points}
use Rattle.subsetter_variation.specs.Glyphs.Tuples.{Gvar, gvar_table}
use Rattle.subsetter_variation.specs.Items.Advances.{advance_delta, store_of}
use Rattle.subsetter_variation.specs.Items.FontMetrics.{metric_delta}
use Rattle.subsetter_variation.specs.Items.ItemVariations.{whole_or_fault}
use Rattle.subsetter_variation.specs.Locations.Coordinates.{normalized_or_fault}
use Rattle.font_reasons.specs.Calls.{Question, is_at, takes_outlines}
use Rattle.font_reasons.specs.Charstrings.{cff2_reason}
use Rattle.font_reasons.specs.File.{or_else}
use Rattle.font_reasons.specs.Outlines.{Tables, components_in, deep_reason, outline, outline_tables, tree, tree_reason}
use Rattle.font_reasons.specs.Parts.{no_table, pair_count}
use Rattle.font_reasons.specs.Variations.{avar_tag, fvar_tag, gvar_tag, hvar_tag, mvar_tag, other_axes, other_deltas}
use Rattle.font_reasons.specs.Variations.{wrong_gvar, wrong_location}
use Rattle.font_reasons.specs.declared.asked.Call.{Call}
use Rattle.font_reasons.specs.declared.reason.Reason.{Reason}
use Rattle.font_reasons.specs.declared.reason.Reason.TheVariants.{LargeAdvance, Unread, Unvaried, WrongMetric, WrongOutline}

-- the fault of a table that can't be read
abbrev pub is_fault : Refusal → Bool
is_fault MalformedFont = true
is_fault other = false

abbrev pub is_malformed : {X : Type 0} → Result X Refusal → Bool
is_malformed (Err e) = is_fault e
is_malformed (Ok x) = false

-- ---- advances and metrics

-- without an item variation store of as many axes `HVAR` isn't read
abbrev pub unread_hvar : List ℕ → ℕ → Option Reason
unread_hvar hvar axes = if is_some (store_of hvar axes) then None else Some (Unread hvar_tag)

-- the advance of a glyph: its map, its item, or a region of that
abbrev pub unvaried_advance : List ℕ → List ℤ → ℕ → Option Reason
unvaried_advance hvar at g =
    if is_malformed (whole_or_fault (advance_delta hvar at g)) then Some (Unvaried hvar_tag g) else None

abbrev pub first_advance : List ℕ → List ℤ → List ℕ → Option Reason
first_advance hvar at [] = None
first_advance hvar at (g ∷ glyphs) = or_else (unvaried_advance hvar at g) (first_advance hvar at glyphs)

abbrev pub wrong_hvar_of : List ℤ → List ℕ → List ℕ → Option Reason
wrong_hvar_of at glyphs hvar = or_else (unread_hvar hvar (length at)) (first_advance hvar at glyphs)

abbrev pub wrong_hvar : Font → List ℤ → List ℕ → Option Reason
wrong_hvar font at glyphs = option_and_then (wrong_hvar_of at glyphs) (stored font hvar_tag.0)

-- the metric of a tag: the value records, its item, or a region of that
unfoldable pub wrong_metric : List ℕ → List ℤ → Tag → Option Reason
wrong_metric mvar at tag =
    if is_malformed (whole_or_fault (metric_delta mvar at tag.0)) then Some (WrongMetric tag) else None

-- of `hhea`: ascender, descender and lineGap, and those of the caret
abbrev pub wrong_lines : List ℕ → List ℤ → Option Reason
wrong_lines mvar at =
    or_else (wrong_metric mvar at (record { 0 = codes "hasc" }))
    (or_else (wrong_metric mvar at (record { 0 = codes "hdsc" })) (wrong_metric mvar at (record { 0 = codes "hlgp" })))

abbrev pub wrong_caret : List ℕ → List ℤ → Option Reason
wrong_caret mvar at =
    or_else (wrong_metric mvar at (record { 0 = codes "hcrs" }))
    (or_else (wrong_metric mvar at (record { 0 = codes "hcrn" })) (wrong_metric mvar at (record { 0 = codes "hcof" })))

-- of `post`, where underlineThickness ends at byte 12
abbrev pub wrong_underline : List ℕ → List ℤ → Option Reason
wrong_underline mvar at =
    or_else (wrong_metric mvar at (record { 0 = codes "undo" })) (wrong_metric mvar at (record { 0 = codes "unds" }))

abbrev pub wrong_post_of : List ℕ → List ℤ → List ℕ → Option Reason
wrong_post_of mvar at post = if nat_lt (length post) 12 then None else wrong_underline mvar at

abbrev pub wrong_post : Font → List ℕ → List ℤ → Option Reason
wrong_post font mvar at = option_and_then (wrong_post_of mvar at) (stored font (codes "post"))

abbrev pub wrong_mvar_of : Font → List ℤ → List ℕ → Option Reason
wrong_mvar_of font at mvar = or_else (wrong_lines mvar at) (or_else (wrong_caret mvar at) (wrong_post font mvar at))

abbrev pub wrong_mvar : Font → List ℤ → Option Reason
wrong_mvar font at = option_and_then (wrong_mvar_of font at) (stored font mvar_tag.0)

-- ---- advances that are too large

-- what the advance of a glyph varies by; without `HVAR` it stays
abbrev pub delta_of : Option (List ℕ) → List ℤ → ℕ → Result ℤ Refusal
delta_of None at g = Ok (pos 0)
delta_of (Some hvar) at g = whole_or_fault (advance_delta hvar at g)

abbrev pub if_large : ℕ → ℕ → ℤ → Option Reason
if_large limit g advance = if int_le advance (pos limit) then None else Some (LargeAdvance g limit)

abbrev pub large_by : ℕ → ℕ → ℕ → Result ℤ Refusal → Option Reason
large_by limit g before (Err e) = None
large_by limit g before (Ok delta) = if_large limit g (pos before +ℤ delta)

abbrev pub large_advance : ℕ → Option (List ℕ) → List ℤ → ℕ → Option LongHorMetric → Option Reason
large_advance limit hvar at g None = None
large_advance limit hvar at g (Some metric) = large_by limit g metric.advance_width (delta_of hvar at g)

abbrev pub first_large : ℕ → Option (List ℕ) → List ℤ → List ℕ → ℕ → List ℕ → Option Reason
first_large limit hvar at hmtx count [] = None
first_large limit hvar at hmtx count (g ∷ glyphs) =
    or_else (large_advance limit hvar at g (metric_in hmtx count g)) (first_large limit hvar at hmtx count glyphs)

-- a metric has 16 bits, and a number in a charstring 15 and a sign
abbrev pub most_advance : Call → Option (List ℕ) → ℕ
most_advance call (Some glyf) = 65535
most_advance call None = if takes_outlines call then 32767 else 65535

abbrev pub large_of : Call → Font → List ℤ → List ℕ → List ℕ → ℕ → Option Reason
large_of call font at glyphs hmtx count =
    first_large (most_advance call (stored font (codes "glyf"))) (stored font hvar_tag.0) at hmtx count glyphs

abbrev pub large_advances : Call → Font → List ℤ → List ℕ → Option Reason
large_advances call font at glyphs =
    option_and_then (λ hmtx. option_and_then (large_of call font at glyphs hmtx) (pair_count font))
    (stored font (codes "hmtx"))

-- ---- outlines in `glyf`

-- the points of an outline as `gvar` counts them: its own, or one for each component, and four phantom points
abbrev pub is_composite : Option ℕ → Bool
is_composite None = false
is_composite (Some contours) = nat_le 0x8000 contours

abbrev pub point_count : List ℕ → Option ℕ
point_count bytes =
    if is_composite (number bytes 0 2) then option_map (λ w. length w.glyphs + 4) (components_in bytes)
    else option_map (λ p. length p.1 + 4) (parts bytes)

-- whether the variation data of a glyph can be read doesn't depend on where these are
abbrev pub blank : ℕ → Outline
blank n = record { xs = replicate n (pos 0); ys = replicate n (pos 0); ends = (n - 1) ∷ [] }

-- a glyph of more points takes more steps than it may
abbrev pub unvaried_points : Option Gvar → List ℤ → ℕ → ℕ → ℕ → Option Reason
unvaried_points None at steps g n = None
unvaried_points (Some t) at steps g n =
    if nat_lt steps n then None
    else if is_malformed (moved_points t g (blank n) at steps) then Some (Unvaried gvar_tag g)
    else None

abbrev pub unvaried_by : Option Gvar → List ℤ → ℕ → ℕ → Option ℕ → Option Reason
unvaried_by gvar at steps g None = Some (WrongOutline g)
unvaried_by gvar at steps g (Some n) = unvaried_points gvar at steps g n

abbrev pub unvaried_glyph : Tables → Option Gvar → List ℤ → ℕ → ℕ → Option Reason
unvaried_glyph o gvar at steps g =
    option_and_then (λ bytes. unvaried_by gvar at steps g (point_count bytes)) (outline o.glyf o.loca o.format g)

abbrev pub first_unvaried : Tables → Option Gvar → List ℤ → ℕ → List ℕ → Option Reason
first_unvaried o gvar at steps [] = None
first_unvaried o gvar at steps (g ∷ glyphs) =
    or_else (unvaried_glyph o gvar at steps g) (first_unvaried o gvar at steps glyphs)

-- `gvar`, if its axisCount is `axes`
abbrev pub gvar_of : ℕ → Gvar → Option Gvar
gvar_of axes t = if t.axis_count == axes then Some t else None

abbrev pub face_gvar : Font → ℕ → Option Gvar
face_gvar font axes =
    option_and_then (λ bytes. option_and_then (gvar_of axes) (gvar_table bytes)) (stored font gvar_tag.0)

abbrev pub outlines_reason : Font → List ℤ → ℕ → ℕ → List ℕ → Option Reason
outlines_reason font at steps depth all =
    option_and_then (λ o.
    or_else (first_unvaried o (face_gvar font (length at)) at steps (tree o steps depth all)) (deep_reason o steps all))
    (outline_tables font)

-- ---- where a static font is made

-- the location of a face on its axes; without `fvar` it has none
abbrev pub located_by : Option (List ℕ) → Option (List ℕ) → List (Tag × ℤ) → Result (List ℤ) Refusal
located_by None avar settings = Ok []
located_by (Some fvar) avar settings = normalized_or_fault fvar avar settings

abbrev pub located : Font → List (Tag × ℤ) → Result (List ℤ) Refusal
located font settings = located_by (stored font fvar_tag.0) (stored font avar_tag.0) settings

-- outlines in `glyf`, or in `CFF2` alone, are looked for there; those of `CFF ` don't vary
abbrev pub varies_by : Option (List ℕ) → Option (List ℕ) → Option (List ℕ) → Bool
varies_by (Some glyf) cff cff2 = true
varies_by None None (Some cff2) = true
varies_by None cff cff2 = false

abbrev pub varies : Font → Bool
varies font = varies_by (stored font (codes "glyf")) (stored font (codes "CFF ")) (stored font (codes "CFF2"))

-- at the default outlines in `glyf` are taken as they are
abbrev pub moves_by : Option (List ℕ) → List ℤ → Bool
moves_by (Some glyf) at = not (list_all (λ v. int_eq v (pos 0)) at)
moves_by None at = true

abbrev pub moves : Font → List ℤ → Bool
moves font at = moves_by (stored font (codes "glyf")) at

-- ---- there

-- what metrics are read with: `hmtx`, `maxp` and `head`
abbrev pub no_metrics : Font → Option Reason
no_metrics font =
    or_else (no_table font (record { 0 = codes "hmtx" }))
    (or_else (no_table font (record { 0 = codes "maxp" })) (no_table font (record { 0 = codes "head" })))

-- a new font has glyph 0, and the metrics of the whole font
abbrev pub glyphs_of : Call → List ℕ → List ℕ → List ℕ
glyphs_of call given all = if takes_outlines call then all else given

abbrev pub wrong_mvar_for : Call → Font → List ℤ → Option Reason
wrong_mvar_for call font at = if takes_outlines call then wrong_mvar font at else None

unfoldable pub metrics_reason : Call → Font → List ℤ → List ℕ → List ℕ → Option Reason
metrics_reason call font at given all =
    or_else (no_metrics font)
    (or_else (wrong_gvar font) (or_else (wrong_hvar font at (glyphs_of call given all)) (wrong_mvar_for call font at)))

-- without `HVAR` advances are those of outlines in `glyf`
abbrev pub reads_outlines : Call → Option (List ℕ) → Bool
reads_outlines call hvar = takes_outlines call || not (is_some hvar)

-- those of calls on outlines are looked at before
abbrev pub unseen_outlines : Call → Font → ℕ → ℕ → List ℕ → Option Reason
unseen_outlines call font steps depth all = if takes_outlines call then None else tree_reason font steps depth all

abbrev pub glyf_reason : Call → Font → List ℤ → ℕ → ℕ → List ℕ → Option Reason
glyf_reason call font at steps depth all =
    if reads_outlines call (stored font hvar_tag.0)
    then or_else (unseen_outlines call font steps depth all) (outlines_reason font at steps depth all)
    else None

abbrev pub face_cff2 : Call → Font → List ℤ → ℕ → ℕ → List ℕ → Option Reason
face_cff2 call font at tokens depth all =
    if takes_outlines call then option_and_then (cff2_reason at tokens depth all) (stored font (codes "CFF2")) else None

abbrev pub glyphs_reason_by : Option (List ℕ) → Call → Font → List ℤ → ℕ → ℕ → List ℕ → Option Reason
glyphs_reason_by (Some glyf) call font at tokens depth all = glyf_reason call font at tokens depth all
glyphs_reason_by None call font at tokens depth all = face_cff2 call font at tokens depth all

unfoldable pub glyphs_reason : Call → Font → List ℤ → ℕ → ℕ → List ℕ → Option Reason
glyphs_reason call font at tokens depth all =
    glyphs_reason_by (stored font (codes "glyf")) call font at tokens depth all

abbrev pub malformed_at : Call → Font → List ℤ → ℕ → ℕ → List ℕ → List ℕ → Option Reason
malformed_at call font at tokens depth given all =
    or_else (metrics_reason call font at given all) (glyphs_reason call font at tokens depth all)

-- by the error
abbrev pub moved_by : Refusal → Call → Font → List ℤ → ℕ → ℕ → List ℕ → List ℕ → Option Reason
moved_by Unimplemented call font at tokens depth given all = other_deltas font
moved_by MalformedFont call font at tokens depth given all = malformed_at call font at tokens depth given all
moved_by CFFError call font at tokens depth given all = face_cff2 call font at tokens depth all
moved_by OverflowError call font at tokens depth given all = large_advances call font at (glyphs_of call given all)
moved_by other call font at tokens depth given all = None

-- why there is no location, where that is the error: with axes that can be read it is the segments of `avar`
abbrev pub location_reason : Refusal → Refusal → Font → Option Reason
location_reason MalformedFont MalformedFont font = or_else (wrong_location font) (Some (Unread avar_tag))
location_reason Unimplemented Unimplemented font = other_axes font
location_reason e found font = None

abbrev pub located_reason : Question → Font → List ℕ → Result (List ℤ) Refusal → Option Reason
located_reason a font all (Err found) = location_reason a.error found font
located_reason a font all (Ok at) =
    if moves font at then moved_by a.error a.call font at a.tokens a.depth a.glyphs all else None

abbrev pub varied_reason : Question → Font → List ℕ → Option Reason
varied_reason a font all =
    if is_at a.call && varies font then located_reason a font all (located font a.coordinates) else None
