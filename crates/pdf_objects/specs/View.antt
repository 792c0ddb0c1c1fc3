-- A font that is borrowed has what the font that was made has.
use Rattle.std.specs.Prelude.{◌≡◌, ◌∷◌, [], ℕ, List, Option, None}
use Rattle.std.specs.Option.{option_copied, option_map}
use Rattle.pdf_text.specs.declared.cmaps.named.NamedCmap.{NamedCmap}
use Rattle.pdf_text.specs.declared.metrics.columns.Column.{Column}
use Rattle.pdf_text.specs.declared.metrics.columns.DefaultColumn.{DefaultColumn}
use Rattle.pdf_text.specs.declared.values.Descriptor.{Descriptor}
use Rattle.pdf_text.specs.declared.values.FontColumns.{FontColumns}
use Rattle.pdf_text.specs.View.{name_of, text_of}
use Rattle.pdf_glyphs.specs.declared.columns.Columns.{Columns}
use Rattle.pdf_font.specs.declared.font.PdfFont.{PdfFont}
use Rattle.pdf_objects.specs.declared.view.FontView.{FontView}

pub record IsDescriptorOf (f : PdfFont) (d : Descriptor) : Type 0 where
  pub font_name : d.font_name.now ≡ f.descriptor.font_name.items
  pub flags : d.flags ≡ f.descriptor.values.flags
  pub bounds : d.bounds
      ≡ f.descriptor.values.bounds.x_min ∷ f.descriptor.values.bounds.y_min ∷ f.descriptor.values.bounds.x_max
      ∷ f.descriptor.values.bounds.y_max ∷ []
  pub italic_angle : d.italic_angle ≡ f.descriptor.values.italic_angle
  pub ascent : d.ascent ≡ f.descriptor.values.heights.ascent
  pub descent : d.descent ≡ f.descriptor.values.heights.descent
  pub cap_height : d.cap_height ≡ f.descriptor.values.heights.cap_height
  pub x_height : d.x_height ≡ f.descriptor.values.heights.x_height
  pub stem_v : d.stem_v ≡ f.descriptor.values.stem_v
  pub font_weight : d.font_weight ≡ f.descriptor.values.font_weight

-- the columns that are borrowed, and DW2
abbrev pub each_of : FontColumns → List Column
each_of c = c.each.now

abbrev pub default_of : FontColumns → DefaultColumn
default_of c = c.default

-- with these bytes of CIDToGIDMap, or with none
pub record IsViewWith (f : PdfFont) (glyph_map : Option (List ℕ)) (w : FontView) : Type 0 where
  pub kind : w.values.kind ≡ f.kind
  pub descriptor : IsDescriptorOf f w.values.descriptor
  pub widths : w.values.widths.now ≡ f.widths.items
  pub default_width : w.values.default_width ≡ f.default_width
  pub columns : option_map each_of w.values.columns ≡ option_map (λ (c : Columns). c.each.items) f.columns
  pub default_column : option_map default_of w.values.columns ≡ option_map (λ (c : Columns). c.default) f.columns
  pub program : w.values.program.now ≡ f.program.items
  pub cid_to_gid_map : option_copied w.values.cid_to_gid_map ≡ glyph_map
  pub to_unicode : w.values.to_unicode.now ≡ f.to_unicode.items
  pub cmap_name : option_map name_of w.values.encoding ≡ option_map (λ (c : NamedCmap). c.name.items) f.encoding
  pub cmap_text : option_map text_of w.values.encoding ≡ option_map (λ (c : NamedCmap). c.text.items) f.encoding
  pub cid_set : option_copied w.values.cid_set ≡ option_map (λ s. s.items) f.cid_set
  pub cids : w.cids.now ≡ f.cids.items
  pub codes : w.codes.now ≡ f.codes.items
  pub is_said : w.is_said.now ≡ f.is_said.items

-- a font of glyphs with their texts, of which each CID is the number of a glyph
abbrev pub IsViewOf : PdfFont → FontView → Type 0
IsViewOf f w = IsViewWith f None w
