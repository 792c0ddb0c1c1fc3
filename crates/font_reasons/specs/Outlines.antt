-- What is wrong with TrueType outlines (OpenType, "glyf" and "loca").
use Rattle.std.specs.Prelude.{ℕ, zero, suc, ◌+◌, ◌-◌, ◌*◌, ◌==◌, Bool, true, false, nat_lt, if◌then◌else◌, List, []}
use Rattle.std.specs.Prelude.{◌∷◌, length, drop, Option, Some, None, codes}
use Rattle.std.specs.Option.{option_and_then, option_map}
use Rattle.subsetter_base.specs.Bytes.{number, between_offsets, from_offset, has_flag}
use Rattle.subsetter_base.specs.Indexes.{with_glyph}
use Rattle.subsetter_sfnt.specs.Read.{Font, stored}
use Rattle.font_reasons.specs.File.{or_else}
use Rattle.font_reasons.specs.Parts.{no_table}
use Rattle.font_reasons.specs.declared.reason.Reason.{Reason}
use Rattle.font_reasons.specs.declared.reason.Reason.TheVariants.{NoEntries, LocFormat, Descends, Outside}
use Rattle.font_reasons.specs.declared.reason.Reason.TheVariants.{CutHeader, CutComponent, ByComponent, Deep}

-- an entry of `loca`: an offset, or in the format 0 half of one (OpenType, "loca")
abbrev pub entry : List ℕ → ℕ → ℕ → Option ℕ
entry loca format k =
    if format == 0 then option_map (λ half. 2 * half) (number loca (2 * k) 2) else number loca (4 * k) 4

-- what is wrong with the range of a glyph's outline in `glyf`
abbrev pub wrong_range : ℕ → List ℕ → ℕ → ℕ → Option Reason
wrong_range g glyf start end =
    if nat_lt end start then Some (Descends g) else if nat_lt (length glyf) end then Some (Outside g) else None

-- what is wrong with the outline of a glyph between two entries
abbrev pub wrong_between : ℕ → List ℕ → Option ℕ → Option ℕ → Option Reason
wrong_between g glyf (Some start) (Some end) = wrong_range g glyf start end
wrong_between g glyf (Some start) None = Some (NoEntries g)
wrong_between g glyf None end = Some (NoEntries g)

abbrev pub wrong_outline : List ℕ → List ℕ → ℕ → ℕ → Option Reason
wrong_outline glyf loca format g = wrong_between g glyf (entry loca format g) (entry loca format (g + 1))

-- the bytes of an outline
abbrev pub outline : List ℕ → List ℕ → ℕ → ℕ → Option (List ℕ)
outline glyf loca format g =
    option_and_then (λ start. option_and_then (between_offsets glyf start) (entry loca format (g + 1)))
    (entry loca format g)

-- ---- composite glyphs (OpenType, "glyf", "Composite glyph description")

-- a component: its flags, its glyph, and the bytes after it
pub record Component : Type 0 where
  pub flags : ℕ
  pub glyph : ℕ
  pub after : List ℕ

-- arguments of two words (ARG_1_AND_2_ARE_WORDS) or two bytes
abbrev pub arguments_size : ℕ → ℕ
arguments_size flags = if has_flag flags 0x0001 then 4 else 2

-- a scale (WE_HAVE_A_SCALE), two scales (WE_HAVE_AN_X_AND_Y_SCALE), a matrix (WE_HAVE_A_TWO_BY_TWO) or nothing
abbrev pub transform_size : ℕ → ℕ
transform_size flags =
    if has_flag flags 0x0008 then 2 else (if has_flag flags 0x0040 then 4 else (if has_flag flags 0x0080 then 8 else 0))

-- the component at the front: flags, glyphIndex, arguments and transform
abbrev pub component_at : List ℕ → Option Component
component_at bytes =
    option_and_then (λ flags.
    option_and_then (λ glyph.
    option_map (λ after. record { flags = flags; glyph = glyph; after = after })
    (from_offset bytes (4 + (arguments_size flags + transform_size flags))))
    (number bytes 2 2)) (number bytes 0 2)

-- another component follows exactly where the flags have MORE_COMPONENTS
abbrev pub has_more : ℕ → Bool
has_more flags = has_flag flags 0x0020

-- the glyphs of some components, one after the other, and whether the one after them is cut
pub record Walked : Type 0 where
  pub glyphs : List ℕ
  pub is_cut : Bool

abbrev pub no_components : Walked
no_components = record { glyphs = []; is_cut = false }

abbrev pub with_first : ℕ → Walked → Walked
with_first g w = record { glyphs = g ∷ w.glyphs; is_cut = w.is_cut }

-- the first one, and those after it
abbrev pub walked_from : (List ℕ → Walked) → Option Component → Walked
walked_from later None = record { glyphs = []; is_cut = true }
walked_from later (Some c) = with_first c.glyph (if has_more c.flags then later c.after else no_components)

-- the components of a description, at most n
abbrev pub walked : ℕ → List ℕ → Walked
walked zero bytes = no_components
walked (suc n) bytes = walked_from (walked n) (component_at bytes)

-- numberOfContours is below 0 for a composite, whose components begin after a header of ten bytes; a component has six
-- at least
abbrev pub components_by : List ℕ → Option ℕ → Option Walked
components_by bytes None = if length bytes == 0 then Some no_components else None
components_by bytes (Some contours) =
    if nat_lt contours 0x8000 then Some no_components else option_map (walked (length bytes)) (from_offset bytes 10)

-- of an outline, unless its header is cut
abbrev pub components_in : List ℕ → Option Walked
components_in bytes = components_by bytes (number bytes 0 2)

-- what is wrong with the range of a component's outline
abbrev pub by_component : List ℕ → List ℕ → ℕ → ℕ → ℕ → Option Reason
by_component glyf loca format g component =
    option_map (λ reason. ByComponent g component) (wrong_outline glyf loca format component)

-- of the first that is wrong
abbrev pub by_components : List ℕ → List ℕ → ℕ → ℕ → List ℕ → Option Reason
by_components glyf loca format g [] = None
by_components glyf loca format g (c ∷ components) =
    or_else (by_component glyf loca format g c) (by_components glyf loca format g components)

abbrev pub cut_component : ℕ → Bool → Option Reason
cut_component g is_cut = if is_cut then Some (CutComponent g) else None

-- what is wrong with the components of an outline, or with its header
abbrev pub wrong_components : List ℕ → List ℕ → ℕ → ℕ → Option Walked → Option Reason
wrong_components glyf loca format g None = Some (CutHeader g)
wrong_components glyf loca format g (Some w) =
    or_else (by_components glyf loca format g w.glyphs) (cut_component g w.is_cut)

abbrev pub wrong_description : List ℕ → List ℕ → ℕ → ℕ → Option Reason
wrong_description glyf loca format g =
    option_and_then (λ bytes. wrong_components glyf loca format g (components_in bytes)) (outline glyf loca format g)

-- what is wrong with the range of a glyph's outline, or with its bytes
abbrev pub wrong_glyph : List ℕ → List ℕ → ℕ → ℕ → Option Reason
wrong_glyph glyf loca format g = or_else (wrong_outline glyf loca format g) (wrong_description glyf loca format g)

-- the first glyph whose outline is wrong
abbrev pub first_wrong : List ℕ → List ℕ → ℕ → List ℕ → Option Reason
first_wrong glyf loca format [] = None
first_wrong glyf loca format (g ∷ glyphs) =
    or_else (wrong_glyph glyf loca format g) (first_wrong glyf loca format glyphs)

-- ---- components of components

-- the components of a glyph; none of one whose outline can't be read
abbrev pub glyphs_in : Option Walked → List ℕ
glyphs_in None = []
glyphs_in (Some w) = w.glyphs

abbrev pub components_of : List ℕ → List ℕ → ℕ → ℕ → List ℕ
components_of glyf loca format g = glyphs_in (option_and_then components_in (outline glyf loca format g))

-- the glyphs that were seen, which are no more than 65,535, and this one
abbrev pub reached : List ℕ → ℕ → List ℕ
reached seen g = if nat_lt (length seen) 65535 then with_glyph seen g else seen

abbrev pub reached_all : List ℕ → List ℕ → List ℕ
reached_all seen [] = seen
reached_all seen (g ∷ glyphs) = reached_all (reached seen g) glyphs

-- the glyphs that were seen, and how many steps are left
pub record Reach : Type 0 where
  pub steps : ℕ
  pub seen : List ℕ

-- with these components of a glyph, where it takes a step and each of them another one
abbrev pub reached_by : Reach → List ℕ → Reach
reached_by r components =
    if nat_lt (length components) r.steps
    then record { steps = r.steps - (length components + 1); seen = reached_all r.seen components }
    else record { steps = 0; seen = r.seen }

-- with those of each of these glyphs
abbrev pub reached_from : List ℕ → List ℕ → ℕ → Reach → List ℕ → Reach
reached_from glyf loca format r [] = r
reached_from glyf loca format r (g ∷ glyphs) =
    reached_from glyf loca format (reached_by r (components_of glyf loca format g)) glyphs

-- with those of each glyph from a place on, and with theirs, n levels below
abbrev pub reached_below : List ℕ → List ℕ → ℕ → ℕ → ℕ → Reach → List ℕ
reached_below glyf loca format zero from r = r.seen
reached_below glyf loca format (suc n) from r =
    reached_below glyf loca format n (length r.seen) (reached_from glyf loca format r (drop from r.seen))

-- ---- the glyphs of a font

-- The tables of TrueType outlines: `glyf`, `loca`, and indexToLocFormat, at byte 50 of `head`.
pub record Tables : Type 0 where
  pub glyf : List ℕ
  pub loca : List ℕ
  pub format : ℕ

abbrev pub tables_by : Option (List ℕ) → Option (List ℕ) → Option ℕ → Option Tables
tables_by (Some glyf) (Some loca) (Some format) = Some (record { glyf = glyf; loca = loca; format = format })
tables_by glyf loca format = None

abbrev pub outline_tables : Font → Option Tables
outline_tables font =
    tables_by (stored font (codes "glyf")) (stored font (codes "loca"))
    (option_and_then (λ head. number head 50 2) (stored font (codes "head")))

-- these glyphs, and their components down to a depth, within this number of steps
abbrev pub tree : Tables → ℕ → ℕ → List ℕ → List ℕ
tree t steps depth glyphs = reached_below t.glyf t.loca t.format (depth + 1) 0 (record { steps = steps; seen = glyphs })

-- indexToLocFormat is 0 or 1 (OpenType, "head"); another one is why an outline is wrong
abbrev pub by_format : ℕ → Option Reason → Option Reason
by_format format None = None
by_format format (Some reason) = if nat_lt 1 format then Some (LocFormat format) else Some reason

-- what is wrong with their outlines
abbrev pub tree_reason : Font → ℕ → ℕ → List ℕ → Option Reason
tree_reason font steps depth glyphs =
    option_and_then (λ t. by_format t.format (first_wrong t.glyf t.loca t.format (tree t steps depth glyphs)))
    (outline_tables font)

-- a face with `glyf` has no `loca`, or no `head`
abbrev pub without_loca : Font → Option (List ℕ) → Option Reason
without_loca font None = None
without_loca font (Some glyf) =
    or_else (no_table font (record { 0 = codes "loca" })) (no_table font (record { 0 = codes "head" }))

abbrev pub no_loca : Font → Option Reason
no_loca font = without_loca font (stored font (codes "glyf"))

-- ---- components that are too deep for a static font

-- the components of n levels below these glyphs, glyph 0 apart, within this number of steps
unfoldable pub levels_below : List ℕ → List ℕ → ℕ → ℕ → Reach → List ℕ
levels_below glyf loca format zero r = drop 1 r.seen
levels_below glyf loca format (suc n) r =
    levels_below glyf loca format n
    (reached_from glyf loca format (record { steps = r.steps; seen = 0 ∷ [] }) (drop 1 r.seen))

abbrev pub first_deep : List ℕ → Option Reason
first_deep [] = None
first_deep (g ∷ glyphs) = Some (Deep g)

-- a component may be 64 levels below a glyph
abbrev pub deep_reason : Tables → ℕ → List ℕ → Option Reason
deep_reason t steps glyphs =
    first_deep (levels_below t.glyf t.loca t.format 65 (record { steps = steps; seen = glyphs }))
