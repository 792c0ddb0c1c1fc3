-- Why a call is refused, by its error: the first of these that is there.
use Rattle.std.specs.Prelude.{ℕ, ◌==◌, ◌&&◌, nat_lt, if◌then◌else◌, Bool, true, false, List, [], ◌∷◌, length, Option, Some}
use Rattle.std.specs.Prelude.{None, codes, map}
use Rattle.std.specs.List.{range_with_len}
use Rattle.std.specs.Option.{option_and_then, option_map}
use Rattle.subsetter_base.specs.Indexes.{with_glyphs}
use Rattle.subsetter_base.specs.declared.error.Error.{Error as Refusal}
use Rattle.subsetter_base.specs.declared.error.Error.TheVariants.{UnknownKind, MalformedFont, Unimplemented}
use Rattle.subsetter_base.specs.declared.error.Error.TheVariants.{SubsetError, OverflowError, CFFError, OutOfMemory}
use Rattle.subsetter_sfnt.specs.Fields.Head.{units_per_em}
use Rattle.subsetter_sfnt.specs.Read.{Font, stored}
use Rattle.subsetter_sfnt.specs.declared.extras.Extras.{Extras}
use Rattle.font_reasons.specs.Calls.{Question, face_in, keeps_glyph_names, keeps_names, takes_outlines}
use Rattle.font_reasons.specs.Characters.{no_mapping}
use Rattle.font_reasons.specs.Charstrings.{cff_reason, new_cff_reason, other_cff2}
use Rattle.font_reasons.specs.File.{or_else}
use Rattle.font_reasons.specs.Names.{lost_name}
use Rattle.font_reasons.specs.Outlines.{tree_reason}
use Rattle.font_reasons.specs.Parts.{face_glyphs, no_metric, no_pairs, no_table, wrong_metrics}
use Rattle.font_reasons.specs.Short.{no_index, short_header, short_name, short_post}
use Rattle.font_reasons.specs.Source.{no_font_or_glyph, reason_of_unknown, wrong_source}
use Rattle.font_reasons.specs.Varying.{varied_reason}
use Rattle.font_reasons.specs.declared.asked.Call.{Call}
use Rattle.font_reasons.specs.declared.asked.Call.TheVariants.{Subset, SubsetAt, Embed, EmbedAt, PdfFont, GlyphsOf}
use Rattle.font_reasons.specs.declared.asked.Call.TheVariants.{Advances}
use Rattle.font_reasons.specs.declared.reason.Reason.{Reason}
use Rattle.font_reasons.specs.declared.reason.Reason.TheVariants.{NoUnits, OnlyCff2, AllGlyphs, TightLimits}

-- unitsPerEm of `head` is 0 (OpenType, "head")
abbrev pub if_no_units : ℕ → Option Reason
if_no_units units = if units == 0 then Some NoUnits else None

abbrev pub no_units : Font → Option Reason
no_units font = option_and_then if_no_units (option_and_then units_per_em (stored font (codes "head")))

-- what widths are made of: `hmtx` and `head`
abbrev pub no_widths : Font → Option Reason
no_widths font =
    or_else (no_table font (record { 0 = codes "hmtx" }))
    (or_else (no_table font (record { 0 = codes "head" })) (no_units font))

-- the program of outlines in `glyf` has `maxp` (ISO 32000-1, 9.9)
abbrev pub no_maxp : Font → Option Reason
no_maxp font = option_and_then (λ glyf. no_table font (record { 0 = codes "maxp" })) (stored font (codes "glyf"))

-- what a call needs that others don't
unfoldable pub lacks : Call → Font → Option Reason
lacks Subset font = None
lacks SubsetAt font = None
lacks Embed font = no_widths font
lacks EmbedAt font = no_widths font
lacks PdfFont font = or_else (no_widths font) (no_maxp font)
lacks GlyphsOf font = no_mapping font
lacks Advances font = no_widths font

-- outlines in `CFF2`, and neither in `glyf` nor in `CFF `, are taken at coordinates alone
abbrev pub only_cff2_by : Option (List ℕ) → Option (List ℕ) → Option (List ℕ) → Option Reason
only_cff2_by None None (Some cff2) = or_else (other_cff2 cff2) (Some OnlyCff2)
only_cff2_by glyf cff other = None

abbrev pub only_cff2 : Font → Option Reason
only_cff2 font = only_cff2_by (stored font (codes "glyf")) (stored font (codes "CFF ")) (stored font (codes "CFF2"))

abbrev pub not_read : Call → Font → Option Reason
not_read Subset font = only_cff2 font
not_read Embed font = only_cff2 font
not_read other font = None

-- the tables that are read for advances
unfoldable pub wrong_advances : Font → Option Reason
wrong_advances font = or_else (short_header font) (wrong_metrics font)

-- what is wrong with the tables that a call reads; glyphs of characters are found by `cmap` alone
unfoldable pub wrong_for : Call → Font → Option Reason
wrong_for Subset font = wrong_source font
wrong_for SubsetAt font = wrong_source font
wrong_for Embed font = wrong_source font
wrong_for EmbedAt font = wrong_source font
wrong_for PdfFont font = wrong_source font
wrong_for GlyphsOf font = None
wrong_for Advances font = wrong_advances font

-- what the tables show, but for glyphs that are there
abbrev pub malformed : Call → Font → List ℕ → Option Reason
malformed call font glyphs = or_else (no_font_or_glyph font glyphs) (or_else (lacks call font) (wrong_for call font))

-- names that aren't kept
abbrev pub lost_for : Call → Extras → Font → Option Reason
lost_for call x font = if keeps_names call x then lost_name font else None

unfoldable pub shown : Call → Refusal → Extras → Font → List ℕ → Option Reason
shown call UnknownKind x font glyphs = reason_of_unknown font
shown call MalformedFont x font glyphs = malformed call font glyphs
shown call Unimplemented x font glyphs = not_read call font
shown call SubsetError x font glyphs = lost_for call x font
shown call OverflowError x font glyphs = no_pairs font
shown call CFFError x font glyphs = None
shown call OutOfMemory x font glyphs = None

-- ---- glyphs

-- the errors that charstrings can be why of
abbrev pub is_of_charstrings : Refusal → Bool
is_of_charstrings MalformedFont = true
is_of_charstrings Unimplemented = true
is_of_charstrings CFFError = true
is_of_charstrings other = false

abbrev pub of_charstrings : Refusal → Font → ℕ → ℕ → List ℕ → Option Reason
of_charstrings e font tokens depth all = if is_of_charstrings e then cff_reason font tokens depth all else None

-- components of `glyf` at any level, down to the depth of the call
abbrev pub of_components : Refusal → Font → ℕ → ℕ → List ℕ → Option Reason
of_components MalformedFont font tokens depth all = tree_reason font tokens depth all
of_components other font tokens depth all = None

-- the errors that a new `CFF ` table can be why of: within a bound on bytes an overflow is one of it
abbrev pub is_of_table : Refusal → Option ℕ → Bool
is_of_table SubsetError bound = true
is_of_table OverflowError None = true
is_of_table e bound = false

abbrev pub of_table : Refusal → Option ℕ → Font → ℕ → ℕ → List ℕ → Option Reason
of_table e bound font tokens depth all = if is_of_table e bound then new_cff_reason e font tokens depth all else None

abbrev pub of_either : Refusal → Font → ℕ → ℕ → List ℕ → Option Reason
of_either e font tokens depth all =
    or_else (of_charstrings e font tokens depth all) (of_components e font tokens depth all)

abbrev pub of_any : Refusal → Option ℕ → Font → ℕ → ℕ → List ℕ → Option Reason
of_any e bound font tokens depth all =
    or_else (of_either e font tokens depth all) (of_table e bound font tokens depth all)

abbrev pub of_outlines : Question → Font → List ℕ → Option Reason
of_outlines a font all = if takes_outlines a.call then of_any a.error a.bound font a.tokens a.depth all else None

-- glyph 0 and the given glyphs, each once, if these are no more than 65,535
abbrev pub numbered : List ℕ → Option (List ℕ)
numbered glyphs =
    if nat_lt 65535 (length (with_glyphs (0 ∷ []) glyphs)) then None else Some (with_glyphs (0 ∷ []) glyphs)

-- where these are more, calls on outlines have no number for glyph 0: numGlyphs of `maxp` is 65,535 at most
abbrev pub is_overflow : Refusal → Bool
is_overflow OverflowError = true
is_overflow other = false

abbrev pub unnumbered : Call → Refusal → Option Reason
unnumbered call e = if takes_outlines call && is_overflow e then Some AllGlyphs else None

-- outlines, and then what varies
abbrev pub of_numbered : Question → Font → Option (List ℕ) → Option Reason
of_numbered a font None = unnumbered a.call a.error
of_numbered a font (Some all) = or_else (of_outlines a font all) (varied_reason a font all)

-- ---- what is looked at last

-- names that are kept, and names of glyphs
abbrev pub short_names : Call → Extras → Font → Option Reason
short_names call x font = if keeps_names call x then short_name font else None

abbrev pub no_indexes : Call → Extras → Font → List ℕ → Option Reason
no_indexes call x font glyphs = if keeps_glyph_names call x then no_index font glyphs else None

abbrev pub wrong_names : Call → Extras → Font → Option Reason
wrong_names call x font = or_else (short_post (keeps_glyph_names call x) font) (short_names call x font)

-- after the metrics of each glyph
unfoldable pub not_kept : Call → Extras → Font → List ℕ → Option Reason
not_kept call x font glyphs =
    or_else (no_metric font glyphs) (or_else (wrong_names call x font) (no_indexes call x font glyphs))

unfoldable pub not_kept_by : Call → Extras → Font → List ℕ → Option Reason
not_kept_by Subset x font glyphs = not_kept Subset x font glyphs
not_kept_by SubsetAt x font glyphs = not_kept SubsetAt x font glyphs
not_kept_by Embed x font glyphs = not_kept Embed x font glyphs
not_kept_by EmbedAt x font glyphs = not_kept EmbedAt x font glyphs
not_kept_by PdfFont x font glyphs = not_kept PdfFont x font glyphs
not_kept_by GlyphsOf x font glyphs = None
not_kept_by Advances x font glyphs = or_else (no_metric font glyphs) (no_table font (record { 0 = codes "maxp" }))

-- where the bytes of the new font have a bound, an overflow without another reason is that of it, of tokens or of a number
abbrev pub tight_limits : Call → ℕ → Option ℕ → Option Reason
tight_limits call tokens bytes =
    if takes_outlines call then option_map (λ most. TightLimits most tokens) bytes else None

abbrev pub shown_last : Refusal → Question → Font → Option Reason
shown_last MalformedFont a font = not_kept_by a.call a.extras font a.glyphs
shown_last OverflowError a font = tight_limits a.call a.tokens a.bytes
shown_last other a font = None

abbrev pub seen_last : Question → Font → Option Reason
seen_last a font = or_else (of_numbered a font (numbered a.glyphs)) (shown_last a.error a font)

abbrev pub explained_of : Question → List ℕ → Option Reason
explained_of a bytes = or_else (shown a.call a.error a.extras (face_in a bytes) a.glyphs) (seen_last a (face_in a bytes))

-- advances of no glyphs are those of all, as text takes them
abbrev pub all_of : Option ℕ → List ℕ
all_of None = []
all_of (Some count) = map (λ g. g) (range_with_len 0 count)

abbrev pub of_all : Question → Font → Question
of_all a font = record a { glyphs = all_of (face_glyphs font) }

abbrev pub explained_by : Call → List ℕ → Question → List ℕ → Option Reason
explained_by Advances [] a bytes = explained_of (of_all a (face_in a bytes)) bytes
explained_by call glyphs a bytes = explained_of a bytes

abbrev pub explained : Question → List ℕ → Option Reason
explained a bytes = explained_by a.call a.glyphs a bytes
