-- The values of the descriptor, of the tables that look-ups find in the source and in the new font.
use Rattle.std.specs.Prelude.{ℕ, Bool, true, false, List, Option, Some, None, codes}
use Rattle.pdf_glyphs.specs.Boxes.{Outlines}
use Rattle.pdf_glyphs.specs.Vertical.{Vertical}
use Rattle.pdf_text.specs.SubsetName.{tag_of}
use Rattle.pdf_values.specs.Descriptor.{SourceTables}
use Rattle.pdf_values.specs.Name.{postscript_name}
use Rattle.pdf_values.specs.declared.looks.bounds.Bounds.{Bounds}
use Rattle.pdf_values.specs.declared.looks.bounds.Bounds.TheVariants.{Font}
use Rattle.pdf_source.specs.Cff.{cff_values_by}
use Rattle.pdf_source.specs.declared.tag.SubsetTag.{SubsetTag}

abbrev pub tables_of : (List ℕ → Option (List ℕ)) → SourceTables
tables_of find =
    record {
      head = find (codes "head");
      hhea = find (codes "hhea");
      os2 = find (codes "OS/2");
      post = find (codes "post");
    }

abbrev pub outlines_of : (List ℕ → Option (List ℕ)) → Outlines
outlines_of find = record { head = find (codes "head"); loca = find (codes "loca"); glyf = find (codes "glyf") }

abbrev pub vertical_of : (List ℕ → Option (List ℕ)) → Vertical
vertical_of find =
    record {
      vhea = find (codes "vhea");
      vmtx = find (codes "vmtx");
      vorg = find (codes "VORG");
      outlines = outlines_of find;
    }

-- boxes are known of outlines that may move: of others that of `head` is taken
abbrev pub bounds_by : Bool → Bounds → Bounds
bounds_by false choice = Font
bounds_by true choice = choice

-- the PostScript name, else the first name of `CFF `
unfoldable pub source_name : (List ℕ → Option (List ℕ)) → List ℕ
source_name find = postscript_name (find (codes "name")) (cff_values_by find).name

-- the caller's tag, or that of the program
abbrev pub tag_in : Option SubsetTag → List ℕ → List ℕ
tag_in None program = tag_of program
tag_in (Some tag) program = tag.letters
