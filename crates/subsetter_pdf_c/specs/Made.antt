-- A font that C holds, as it is borrowed.
use Rattle.std.specs.Prelude.{◌≡◌, ℕ, ◌==◌, min, if◌then◌else◌, List, length, get_or, Option, Some, None, ℤ, pos}
use Rattle.std.specs.Option.{option_copied, option_map}
use Rattle.pdf_objects.specs.View.{default_of, each_of}
use Rattle.pdf_objects.specs.declared.view.FontView.{FontView}
use Rattle.pdf_text.specs.declared.values.Descriptor.{Descriptor}
use Rattle.pdf_text.specs.declared.values.ProgramKind.{ProgramKind}
use Rattle.pdf_text.specs.declared.values.ProgramKind.TheVariants.{TrueType, BareCff, OpenType}
use Rattle.pdf_text.specs.View.{name_of, text_of}
use Rattle.subsetter_pdf_c.specs.declared.made.PdfMade.{PdfMade}
use Rattle.subsetter_pdf_c.specs.declared.made.PdfNumbers.{PdfNumbers}

abbrev pub kind_of : ℕ → ProgramKind
kind_of n = if n == 0 then TrueType else if n == 1 then BareCff else OpenType

-- 0 means no value
abbrev pub unless_zero : {A : Type 0} → ℕ → A → Option A
unless_zero n value = if n == 0 then None else Some value

-- and an empty list for none
abbrev pub unless_empty : {A : Type 0} → List ℕ → A → Option A
unless_empty bytes value = unless_zero (length bytes) value

-- no weight is above 1000
abbrev pub weight_of : ℕ → ℕ
weight_of n = min n 1000

-- y of DW2, and its advance
abbrev pub default_y : PdfNumbers → ℤ
default_y n = get_or n.default_column 0 (pos 0)

abbrev pub default_advance : PdfNumbers → ℤ
default_advance n = get_or n.default_column 1 (pos 0)

pub record IsDescriptorOf (made : PdfMade) (d : Descriptor) : Type 0 where
  pub font_name : d.font_name.now ≡ made.font_name.now
  pub flags : d.flags ≡ made.numbers.flags
  pub bounds : d.bounds ≡ made.numbers.bounds
  pub italic_angle : d.italic_angle ≡ made.numbers.italic_angle
  pub ascent : d.ascent ≡ made.numbers.ascent
  pub descent : d.descent ≡ made.numbers.descent
  pub cap_height : d.cap_height ≡ made.numbers.cap_height
  pub x_height : d.x_height ≡ unless_zero made.numbers.has_x_height made.numbers.x_height
  pub stem_v : d.stem_v ≡ made.numbers.stem_v
  pub font_weight : d.font_weight ≡ weight_of made.numbers.font_weight

-- with these bytes of CIDToGIDMap
pub record IsViewOf (made : PdfMade) (glyph_map : List ℕ) (w : FontView) : Type 0 where
  pub kind : w.values.kind ≡ kind_of made.numbers.kind
  pub descriptor : IsDescriptorOf made w.values.descriptor
  pub widths : w.values.widths.now ≡ made.widths.now
  pub default_width : w.values.default_width ≡ made.numbers.default_width
  pub columns : option_map each_of w.values.columns ≡ unless_zero made.numbers.is_vertical made.columns.now
  pub default_column : option_map default_of w.values.columns
      ≡ unless_zero made.numbers.is_vertical
      (record { y = default_y made.numbers; advance = default_advance made.numbers })
  pub program : w.values.program.now ≡ made.program.now
  pub cid_to_gid_map : option_copied w.values.cid_to_gid_map ≡ unless_empty glyph_map glyph_map
  pub to_unicode : w.values.to_unicode.now ≡ made.to_unicode.now
  pub cmap_name : option_map name_of w.values.encoding ≡ unless_empty made.encoding.now made.encoding_name.now
  pub cmap_text : option_map text_of w.values.encoding ≡ unless_empty made.encoding.now made.encoding.now
  pub cid_set : option_copied w.values.cid_set ≡ unless_empty made.cid_set.now made.cid_set.now
  pub cids : w.cids.now ≡ made.cids.now
  pub codes : w.codes.now ≡ made.codes.now
  pub is_said : w.is_said.now ≡ made.is_said.now
