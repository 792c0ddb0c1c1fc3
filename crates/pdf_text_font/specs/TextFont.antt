-- What a PDF has of the font of a text (ISO 32000-1, 9.6 to 9.10).
use Rattle.std.specs.Prelude.{◌≡◌, ℕ, false, List, [], ◌++◌, length, map, drop, Option, None, ℤ}
use Rattle.std.specs.Option.{option_map}
use Rattle.subsetter_base.specs.declared.tag.Tag.{Tag}
use Rattle.subsetter_base.specs.declared.error.Error.{Error}
use Rattle.subsetter_sfnt.specs.Read.{Font}
use Rattle.pdf_codes.specs.Codes.{Used}
use Rattle.pdf_codes.specs.declared.codes.Codes.TheVariants.{Consecutive}
use Rattle.pdf_glyphs.specs.declared.columns.Columns.{Columns}
use Rattle.pdf_text.specs.Cmaps.Cmap.{cmap_text}
use Rattle.pdf_text.specs.Metrics.Columns.{no_column}
use Rattle.pdf_text.specs.declared.metrics.columns.Column.{Column}
use Rattle.own_glyphs.specs.declared.glyph.OwnGlyph.{OwnGlyph}
use Rattle.own_glyphs.specs.declared.glyph.Part.{Part}
use Rattle.pdf_figures.specs.declared.ink.OwnInk.{OwnInk}
use Rattle.pdf_runs.specs.declared.codes.Pair.{Pair}
use Rattle.pdf_source.specs.Frequent.{IsMostFrequent}
use Rattle.pdf_source.specs.Source.{tag_in}
use Rattle.pdf_source.specs.declared.choice.FontOptions.{FontOptions}
use Rattle.pdf_source.specs.declared.choice.ProgramChoice.TheVariants.{Smallest}
use Rattle.pdf_source.specs.declared.tag.SubsetTag.{SubsetTag}
use Rattle.pdf_font.specs.PdfFont.{HasFontFault, IsCidSetIf, IsPdfFont}
use Rattle.pdf_font.specs.declared.error.FontError.{FontError}
use Rattle.pdf_font.specs.declared.error.FontError.TheVariants.{Subset}
use Rattle.pdf_font.specs.declared.font.PdfFont.{PdfFont}
use Rattle.pdf_text_font.specs.Drawn.{AreDrawn, HasDrawingFault}
use Rattle.pdf_text_font.specs.Own.{added, added_seen, advances_of, all_parts, parts_by, widths_of}
use Rattle.pdf_text_font.specs.Pairs.{drawings_of, has_blank, uses_of, values_of}
use Rattle.pdf_text_font.specs.Texts.{lines_of}
use Rattle.pdf_text_font.specs.declared.font.TextFont.{TextFont}
use Rattle.pdf_text_font.specs.declared.pairs.Drawing.{Drawing}

-- a subset has no codes of its own, nor a CIDSet, and outlines of CFF as the bare table
abbrev pub subset_options : FontOptions → FontOptions
subset_options o = record o { program = Smallest; codes = Consecutive; cid_set = false }

-- the name of a subset, with the tag of another program, or the caller's
abbrev pub renamed : Option SubsetTag → List ℕ → List ℕ → List ℕ
renamed tag program name = tag_in tag program ++ drop 6 name

abbrev pub each_of : Columns → List Column
each_of c = c.each.items

-- the columns of the codes, of those of the subset's glyphs; an own glyph has none
abbrev pub columns_by : List Drawing → Option Columns → Option (List Column)
columns_by ds columns = option_map (λ (c : Columns). values_of no_column c.each.items [] ds) columns

-- of a subset that draws the codes so, with others after its glyphs, of which the first are these own ones: each CID is
-- its code
pub record IsByCode (options : FontOptions) (own : List OwnInk) (ps : List Pair) (ds : List Drawing)
    (others : List OwnGlyph) (s : PdfFont) (t : TextFont) : Type 0 where
  pub drawn : AreDrawn s.kind s.program.items others (length own) t.font.exact_widths.items
      ds t.font.program.items (option_map (λ m. m.items) t.cid_to_gid_map)
  pub kind : t.font.kind ≡ s.kind
  pub count : t.font.glyph_count ≡ length ps
  -- the width of a code is that of its glyph, in thousandths of the em and in the font's units; that of a blank is 0
  pub widths : t.font.widths.items ≡ values_of 0 s.widths.items (widths_of s.units_per_em own) ds
  pub exact : t.font.exact_widths.items ≡ values_of 0 s.exact_widths.items (advances_of own) ds
  pub units : t.font.units_per_em ≡ s.units_per_em
  pub default_width : IsMostFrequent t.font.widths.items t.font.default_width
  pub columns : option_map each_of t.font.columns ≡ columns_by ds s.columns
  pub default_column : option_map (λ (c : Columns). c.default) t.font.columns
      ≡ option_map (λ (c : Columns). c.default) s.columns
  pub name : t.font.descriptor.font_name.items ≡ renamed options.tag t.font.program.items s.descriptor.font_name.items
  pub values : t.font.descriptor.values ≡ s.descriptor.values
  pub unknown_axes : t.font.unknown_axes.items ≡ s.unknown_axes.items
  pub permission : t.font.permission ≡ s.permission
  -- a line for each code above 0
  pub to_unicode : t.font.to_unicode.items ≡ cmap_text (lines_of ps)
  -- a code is its CID
  pub encoding : t.font.encoding ≡ None
  pub cid_set : IsCidSetIf options.cid_set (length ps) (option_map (λ v. v.items) t.font.cid_set)
  -- it has no entries
  pub cids : t.font.cids.items ≡ []
  pub codes : t.font.codes.items ≡ []
  pub is_said : t.font.is_said.items ≡ []

-- ---- of a subset

-- what draws the codes, by the numbers that their glyphs have there
abbrev pub drawn_by : ℕ → List OwnInk → List Pair → PdfFont → List Drawing
drawn_by count own ps s = drawings_of count (length own) ps s.cids.items

-- the parts of own glyphs, by the numbers that come after those of the codes
abbrev pub parts_in : List OwnInk → List Pair → PdfFont → List Part
parts_in own ps s = parts_by (all_parts own) (drop (length ps) s.cids.items)

-- the own glyphs, of these parts, and a blank, if a code draws one
abbrev pub AreOthers : ℕ → List OwnInk → List Pair → PdfFont → List OwnGlyph → Type 0
AreOthers count own ps s others =
    map added_seen others ≡ added own (parts_in own ps s) (has_blank (drawn_by count own ps s))

pub record IsOfSubset (options : FontOptions) (count : ℕ) (own : List OwnInk) (ps : List Pair) (s : PdfFont)
    (t : TextFont) : Type 0 where
  pub others : List OwnGlyph
  pub others_are : AreOthers count own ps s others
  pub by : IsByCode options own ps (drawn_by count own ps s) others s t

-- a subset doesn't draw the codes
pub record HasSubsetFault (count : ℕ) (own : List OwnInk) (ps : List Pair) (s : PdfFont) (e : Error) : Type 0 where
  pub others : List OwnGlyph
  pub others_are : AreOthers count own ps s others
  pub fault : HasDrawingFault s.kind s.program.items others (length own) (drawn_by count own ps s) e

-- ---- of a source

-- the font of a text with these pairs, code 0 among them: their figures are glyphs of the source, of which there are so
-- many, and after these own ones
pub record IsTextFont (font : Font) (settings : List (Tag × ℤ)) (options : FontOptions) (count : ℕ) (own : List OwnInk)
    (ps : List Pair) (t : TextFont) : Type 0 where
  -- what a PDF has of the subset of glyph 0, the glyphs that the codes want, and the parts of own ones, each once, in
  -- order of use
  pub subset : PdfFont
  pub made : IsPdfFont font settings (subset_options options) (uses_of count ps (all_parts own)) subset
  pub by : IsOfSubset options count own ps subset t

-- there is no subset of these glyphs
pub record HasNoSubset (font : Font) (settings : List (Tag × ℤ)) (options : FontOptions) (us : List Used)
    (e : FontError) : Type 0 where
  pub order : List ℕ
  pub fault : HasFontFault font settings (subset_options options) us order e

-- why there is none: there is no subset; or there is one, which doesn't draw the codes
pub data HasTextFault (font : Font) (settings : List (Tag × ℤ)) (options : FontOptions) (count : ℕ) (own : List OwnInk)
    (ps : List Pair) : FontError → Type 0 where
  in_subset : {e : FontError} → HasNoSubset font settings options (uses_of count ps (all_parts own)) e
      → HasTextFault font settings options count own ps e
  in_drawing : {e : Error} (subset : PdfFont)
      → IsPdfFont font settings (subset_options options) (uses_of count ps (all_parts own)) subset
      → HasSubsetFault count own ps subset e
      → HasTextFault font settings options count own ps (Subset e)
