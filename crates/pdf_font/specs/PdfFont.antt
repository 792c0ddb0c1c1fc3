-- What a PDF has of a font for the glyphs in use (ISO 32000-1, 9.6 to 9.10), and why there is none.
use Rattle.std.specs.Prelude.{◌≡◌, ℕ, ◌-◌, nat_le, ◌&&◌, Bool, true, false, not, is_some, if◌then◌else◌, List, ◌++◌}
use Rattle.std.specs.Prelude.{map, length, take, codes, Option, Some, None, ℤ, IfSome, IsSome}
use Rattle.std.specs.Option.{option_map, unwrap_or}
use Rattle.subsetter_base.specs.declared.tag.Tag.{Tag}
use Rattle.subsetter_base.specs.declared.error.Error.{Error}
use Rattle.subsetter_base.specs.declared.error.Error.TheVariants.{MalformedFont, OverflowError}
use Rattle.subsetter_sfnt.specs.Read.{Font, as_font, flavor, records, stored, table}
use Rattle.subsetter_sfnt.specs.FontAt.{font_at}
use Rattle.subsetter_sfnt.specs.declared.flavor.FontFlavor.TheVariants.{TrueType}
use Rattle.subsetter.specs.Bound.{IsWithin}
use Rattle.subsetter.specs.Common.Hmtx.Read.{metric}
use Rattle.subsetter_variable.specs.Afresh.{HasGlyphsDrawn}
use Rattle.subsetter_variable.specs.Blended.{HasGlyphsBlended}
use Rattle.subsetter_variable.specs.DefaultLocation.{IsAtDefault, IsCff2Font}
use Rattle.subsetter_variable.specs.Subset.{IsStatic, IsTheAnswerAt, whole}
use Rattle.cid_embed.specs.Embed.{numbering}
use Rattle.cid_embed.specs.Width.{units_per_em, width}
use Rattle.cid_embed.specs.declared.embedding.Embedded.{Embedded}
use Rattle.cid_embed_at.specs.Embed.{HasEmbedFaultAt, IsEmbeddingAnswerAt}
use Rattle.subsetter_sfnt.specs.Alone.{has_outlines}
use Rattle.pdf_codes.specs.Codes.{AreCodes, IsOverfull, Used, coded, glyphs_of}
use Rattle.pdf_codes.specs.Cmaps.Leading.{AreLed, name_of, own_cmap, own_name, pairs_with, text_of}
use Rattle.pdf_codes.specs.Shown.{has_long_text}
use Rattle.pdf_codes.specs.Cmaps.Texts.{is_line_found, lines_of_codes, said_by, text_in}
use Rattle.pdf_glyphs.specs.Frequent.{most_frequent}
use Rattle.pdf_glyphs.specs.HeightVariation.{Variation}
use Rattle.pdf_glyphs.specs.Vertical.{Vertical, columns_at}
use Rattle.pdf_glyphs.specs.declared.columns.Columns.{Columns}
use Rattle.pdf_text.specs.Bits.{IsCidSet}
use Rattle.pdf_text.specs.Cmaps.Cmap.{cmap_text}
use Rattle.pdf_text.specs.Dictionaries.Fonts.{identity_name, name_end}
use Rattle.pdf_text.specs.SubsetName.{font_name, tag_of}
use Rattle.pdf_text.specs.declared.cmaps.named.NamedCmap.{NamedCmap}
use Rattle.pdf_text.specs.declared.values.ProgramKind.{ProgramKind}
use Rattle.pdf_values.specs.Permission.{is_permitted, permission}
use Rattle.pdf_source.specs.Chosen.{extras_of, is_vertical}
use Rattle.pdf_source.specs.Frequent.{IsMostFrequent}
use Rattle.pdf_source.specs.Moved.{program_box, values_in}
use Rattle.pdf_source.specs.Program.{IsProgram, kind_of}
use Rattle.pdf_source.specs.Named.{heights_there, name_there}
use Rattle.pdf_source.specs.Source.{tag_in, vertical_of}
use Rattle.pdf_source.specs.Tops.{tops_of}
use Rattle.pdf_source.specs.UnknownAxes.{unknown_axes}
use Rattle.pdf_source.specs.Widened.{widened}
use Rattle.pdf_source.specs.declared.choice.Direction.{Direction}
use Rattle.pdf_source.specs.declared.choice.Direction.TheVariants.{Horizontal, Vertical as TopToBottom}
use Rattle.pdf_source.specs.declared.choice.FontOptions.{FontOptions}
use Rattle.pdf_font.specs.declared.error.FontError.{FontError}
use Rattle.pdf_font.specs.declared.error.FontError.TheVariants.{Subset, NotPermitted, TextTooLong, BitmapsAlone}
use Rattle.pdf_font.specs.declared.font.PdfFont.{PdfFont}

-- the font that is read
abbrev pub font_of : List ℕ → ℕ → FontOptions → Font
font_of bytes index options = font_at bytes index (extras_of options)

-- the advance of a glyph, in the font's units
abbrev pub exact_width : Font → ℕ → Option ℕ
exact_width font g = option_map (λ m. m.advance_width) (metric font g)

-- codes of the glyphs in use, where they lead, and their texts
pub record IsCoded (options : FontOptions) (us : List Used) (f : PdfFont) : Type 0 where
  pub codes : AreCodes options.codes us f.codes.items
  -- no more glyphs or pairs than there are codes
  pub room : ¬ (IsOverfull options.codes us)
  -- the code of each entry leads to its CID, and code 0 to CID 0
  pub led : AreLed (text_of f.encoding) f.codes.items f.cids.items
  pub encoding : text_of f.encoding ≡ own_cmap (is_vertical options.direction) (pairs_with f.codes.items f.cids.items)
  pub encoding_name : name_of f.encoding
      ≡ own_name (is_vertical options.direction) (pairs_with f.codes.items f.cids.items)
  -- each code above 0 has the first text of its entries that isn't empty, else U+2060; what is said is that the first
  -- text is the entry's
  pub texts : (k : ℕ) → text_in f.to_unicode.items k ≡ Some (said_by (coded us f.codes.items) k)
  pub to_unicode : f.to_unicode.items ≡ cmap_text (lines_of_codes (coded us f.codes.items))
  pub said : f.is_said.items ≡ map (is_line_found (coded us f.codes.items)) (coded us f.codes.items)

-- columns of the CIDs that a string can show, in vertical writing alone; the tops of their glyphs may say origins
abbrev pub AreColumns : Direction → Vertical → Option Variation → List ℤ → List ℕ → List ℕ → Option Columns → Type 0
AreColumns Horizontal tables heights tops glyphs widths columns = columns ≡ None
AreColumns TopToBottom tables heights tops glyphs widths columns =
    IsSome columns
    × IfSome columns (λ c. (c.each.items ≡ columns_at tables heights tops (numbering glyphs) widths)
    × (c.default ≡ most_frequent c.each.items))

-- a CIDSet for `count` CIDs, where it is requested
abbrev pub IsCidSetIf : Bool → ℕ → Option (List ℕ) → Type 0
IsCidSetIf false count bytes = bytes ≡ None
IsCidSetIf true count bytes = IsSome bytes × IfSome bytes (IsCidSet count)

-- ---- its name

-- the name of the CMap of the codes: its own, or that of a predefined one
abbrev pub cmap_name : Option NamedCmap → Direction → List ℕ
cmap_name encoding direction = unwrap_or (name_of encoding) (identity_name (is_vertical direction))

-- the bytes that the font's name has room for before that: a name has at most 127 (Annex C)
abbrev pub name_room : ProgramKind → List ℕ → ℕ
name_room kind cmap = 127 - length (name_end kind cmap)

-- ten bytes less than there is room for, `-`, six letters of the name by the rule of a subset's tag, and `...`
abbrev pub cut_name : ℕ → List ℕ → List ℕ
cut_name room name = take (room - 10) name ++ (codes "-" ++ (tag_of name ++ codes "..."))

-- a name of more bytes than there is room for is cut
abbrev pub short_name : ℕ → List ℕ → List ℕ
short_name room name = if nat_le (length name) room then name else cut_name room name

-- what isn't read of the new font: of the source by a look-up at coordinates, of the glyphs in use, and of the new
-- font's CIDs, of which those of the glyphs in use have these widths
pub record IsFilled (find : List ℕ → Option (List ℕ)) (settings : List (Tag × ℤ)) (options : FontOptions)
    (us : List Used) (widths : List ℕ) (f : PdfFont) : Type 0 where
  pub coded : IsCoded options us f
  pub default_width : IsMostFrequent f.widths.items f.default_width
  pub columns : AreColumns options.direction (vertical_of find) (heights_there find settings)
      (tops_of find options.limits (numbering (glyphs_of us))) (glyphs_of us) widths f.columns
  -- cut where with the name of the CMap it had more than 127 bytes
  pub name : f.descriptor.font_name.items
      ≡ short_name (name_room f.kind (cmap_name f.encoding options.direction))
      (font_name (tag_in options.tag f.program.items) (name_there find settings))
  pub unknown_axes : f.unknown_axes.items ≡ unknown_axes find settings
  pub cid_set : IsCidSetIf options.cid_set f.glyph_count (option_map (λ v. v.items) f.cid_set)

pub record IsEmbeddedFor (font : Font) (settings : List (Tag × ℤ)) (options : FontOptions) (us : List Used)
    (f : PdfFont) : Type 0 where
  -- the new font: an embedding of glyph 0 and the glyphs in use, of the font as it is, of its instance, or of the font
  -- with outlines in `CFF ` that is made of outlines in CFF2
  pub new : Embedded
  pub embedded : IsEmbeddingAnswerAt options.limits.tokens options.limits.depth font settings (glyphs_of us) new
  pub within : IsWithin options.limits.bytes new.font.items
  -- there is one such font
  pub same : IsTheAnswerAt font settings (numbering (glyphs_of us)) new.font.items
  -- elsewhere than at its default it has each glyph exactly as it is drawn there
  pub drawn : ¬ (IsAtDefault (whole font) settings)
      → HasGlyphsDrawn (whole font) settings (numbering (glyphs_of us)) new.font.items
  -- of outlines in CFF2 alone it has each glyph with the outline that it has there, each coordinate and each edge of a
  -- stem rounded once
  pub drawn_cff : IsCff2Font (whole font)
      → HasGlyphsBlended (whole font) settings (numbering (glyphs_of us)) new.font.items
  -- the program is that font, whose `CFF ` has the advances as its widths, or this `CFF `; where FontBBox is to hold
  -- the kept glyphs, its `head` has their box; one of TrueType has `maxp` (9.9)
  pub kind : f.kind ≡ kind_of embedded.answer.embedded.subset.keeps.kind options.program
  pub program : IsProgram f.kind
      (program_box (stored font) (stored (as_font new.font.items)) f.glyph_count options.bounds)
      (widened f.exact_widths.items new.font.items) f.program.items
  pub maxp : embedded.answer.embedded.subset.keeps.kind ≡ TrueType
      → IsSome (table (as_font new.font.items) (codes "maxp"))
  -- each of its glyphs has a CID, and the width of its source, which is also in the font's units
  pub cids : f.cids.items ≡ new.cids.items
  pub counted : f.glyph_count ≡ length embedded.answer.embedded.subset.keeps.order
  pub widths : map Some f.widths.items ≡ map (width embedded.static) embedded.answer.embedded.subset.keeps.order
  pub exact : map Some f.exact_widths.items
      ≡ map (exact_width embedded.static) embedded.answer.embedded.subset.keeps.order
  pub units : units_per_em embedded.static ≡ Some f.units_per_em
  -- the values of the descriptor, of the source at these coordinates
  pub values : f.descriptor.values
      ≡ values_in (stored font) (stored (as_font new.font.items)) f.glyph_count options settings
  pub filled : IsFilled (stored font) settings options us new.widths.items f

pub record IsPdfFont (font : Font) (settings : List (Tag × ℤ)) (options : FontOptions) (us : List Used) (f : PdfFont)
    : Type 0 where
  pub made : IsEmbeddedFor font settings options us f
  -- what the font permits, and that it does or the caller holds the rights
  pub permission : f.permission ≡ permission (stored font (codes "OS/2"))
  pub permitted : is_permitted f.permission options.rights ≡ true
  pub short : has_long_text us ≡ false

-- ---- why there is none

-- its directory is read, and has no table of outlines
abbrev pub lacks_outlines : Font → Bool
lacks_outlines font = is_some (records (whole font)) && not (has_outlines (stored (whole font)))

-- the faults that stop it, each with its error; sizes are judged for an order of the new font's glyphs
pub data HasFontFault (font : Font) (settings : List (Tag × ℤ)) (options : FontOptions) (us : List Used)
    (order : List ℕ) : FontError → Type 0 where
  in_embedding : {e : Error}
      → HasEmbedFaultAt options.limits.bytes options.limits.tokens
      options.limits.depth font settings (glyphs_of us) order e
      → HasFontFault font settings options us order (Subset e)
  -- a TrueType program without `maxp` (ISO 32000-1, 9.9)
  no_maxp : (static : Font) → IsStatic font settings (numbering (glyphs_of us)) static → flavor static ≡ Some TrueType
      → table static (codes "maxp") ≡ None
      → HasFontFault font settings options us order (Subset MalformedFont)
  -- no codes are left
  overfull : IsOverfull options.codes us → HasFontFault font settings options us order (Subset OverflowError)
  -- `fsType` forbids it, and the caller holds no rights
  not_permitted : is_permitted (permission (stored font (codes "OS/2"))) options.rights ≡ false
      → HasFontFault font settings options us order (NotPermitted (permission (stored font (codes "OS/2"))))
  -- a text has more than 256 UTF-16 units
  long_text : has_long_text us ≡ true → HasFontFault font settings options us order TextTooLong
  -- it has no outlines
  bare : lacks_outlines font ≡ true → HasFontFault font settings options us order BitmapsAlone

-- there is no such font
abbrev pub HasNoPdfFont : Font → List (Tag × ℤ) → FontOptions → List Used → Type 0
HasNoPdfFont font settings options us = (f : PdfFont) → ¬ (IsPdfFont font settings options us f)
