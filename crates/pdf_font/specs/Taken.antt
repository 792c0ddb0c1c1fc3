-- What is taken over of a new font.
use Rattle.std.specs.Prelude.{◌≡◌, ℕ, List}
use Rattle.pdf_values.specs.declared.permission.Permission.{Permission}
use Rattle.pdf_source.specs.declared.program.NewFont.{NewFont}
use Rattle.pdf_font.specs.declared.font.PdfFont.{PdfFont}

-- its fields, with the CIDs of the glyphs in use and what the font permits
pub record Takes (n : NewFont) (numbers : List ℕ) (p : Permission) (f : PdfFont) : Type 0 where
  pub kind : f.kind ≡ n.kind
  pub program : f.program.items ≡ n.program.items
  pub count : f.glyph_count ≡ n.profile.count
  pub widths : f.widths.items ≡ n.profile.widths.items
  pub exact : f.exact_widths.items ≡ n.profile.exact.widths.items
  pub units : f.units_per_em ≡ n.profile.exact.units_per_em
  pub values : f.descriptor.values ≡ n.profile.values
  pub cids : f.cids.items ≡ numbers
  pub permission : f.permission ≡ p
