-- The values of a font descriptor (ISO 32000-1, Table 122) but its name.
use Rattle.std.specs.Prelude.{ℕ, List, Option}
use Rattle.std.specs.Option.{option_copied}
use Rattle.pdf_values.specs.Looks.Bounds.{bounds_of}
use Rattle.pdf_values.specs.Looks.Flags.{flags_by}
use Rattle.pdf_values.specs.Head.{units_per_em}
use Rattle.pdf_values.specs.Looks.Heights.{heights_of}
use Rattle.pdf_values.specs.Looks.ItalicAngle.{angle_at, is_italic_at}
use Rattle.pdf_values.specs.Looks.Weight.{weight_at, font_weight, stem_v}
use Rattle.pdf_values.specs.Movement.{Movement}
use Rattle.pdf_values.specs.declared.looks.bounds.Bounds.{Bounds}
use Rattle.pdf_values.specs.declared.descriptor.Known.{Known}
use Rattle.pdf_values.specs.declared.descriptor.Tables.{Tables}
use Rattle.pdf_values.specs.declared.descriptor.Values.{Values}

-- the bytes of the tables that are there
pub record SourceTables : Type 0 where
  pub head : Option (List ℕ)
  pub hhea : Option (List ℕ)
  pub os2 : Option (List ℕ)
  pub post : Option (List ℕ)

abbrev pub tables_view : Tables → SourceTables
tables_view t =
    record {
      head = option_copied t.head;
      hhea = option_copied t.hhea;
      os2 = option_copied t.os2;
      post = option_copied t.post;
    }

-- of a font that is moved, if it is; then FontBBox of `head` is that of its default
abbrev pub values_of : SourceTables → Known → Option Movement → Bounds → Values
values_of t known m choice =
    let units = units_per_em t.head in
    let lean = angle_at m t.post in
    let weight = weight_at m t.os2 t.head in
    record {
      flags = flags_by t.post t.os2 (is_italic_at m t.os2 t.head lean);
      bounds = bounds_of choice t.head known.kept units;
      italic_angle = lean;
      heights = heights_of m t.hhea t.os2 t.head known.cap_top known.x_top units;
      stem_v = stem_v known.stem weight;
      font_weight = font_weight weight;
    }
