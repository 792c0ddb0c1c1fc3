-- A new font whose `CFF ` has the advances of `hmtx` as its widths (ISO 19005-2, 6.2.11.5; OpenType, "Organization of
-- an OpenType Font").
use Rattle.std.specs.Prelude.{ℕ, nat_le, if◌then◌else◌, List, length, codes, unwrap_or, Option, Some, None}
use Rattle.std.specs.Result.{result_ok}
use Rattle.subsetter_base.specs.Options.{◌>>=◌}
use Rattle.subsetter_sfnt.specs.Laying.Rows.{FontTables, present, rows}
use Rattle.subsetter_sfnt.specs.Laying.Written.{kind_word, with_adjustment}
use Rattle.subsetter_sfnt.specs.Plain.{file_of, opened}
use Rattle.subsetter_sfnt.specs.Read.{as_font, table_in}
use Rattle.subsetter_sfnt.specs.declared.flavor.FontFlavor.TheVariants.{Cff}
use Rattle.pdf_widths.specs.Tables.{with_widths}

-- `head` with zeros in checkSumAdjustment; none of one that hasn't these bytes
abbrev pub unadjusted : List ℕ → Option (List ℕ)
unadjusted head = if nat_le 12 (length head) then Some (with_adjustment 0 head) else None

-- the tables of a file with outlines in `CFF `, with another one
abbrev pub tables_with : (List ℕ → Option (List ℕ)) → List ℕ → List ℕ → FontTables
tables_with find head cff = record {
  cff = Some cff;
  cvt = None;
  fpgm = None;
  glyf = None;
  head = Some head;
  hhea = find (codes "hhea");
  hmtx = find (codes "hmtx");
  loca = None;
  maxp = find (codes "maxp");
  name = find (codes "name");
  post = find (codes "post");
  prep = None;
}

-- the file that is laid out anew; none where each width is its glyph's advance
unfoldable pub widened_in : (List ℕ → Option (List ℕ)) → List ℕ → Option (List ℕ)
widened_in find advances = do
  cff ← find (codes "CFF ")
  new ← with_widths cff advances
  there ← find (codes "head")
  head ← unadjusted there
  result_ok (file_of (kind_word Cff) (present (rows (tables_with find head new))))

abbrev pub widened_by : List ℕ → List ℕ → Option (List ℕ)
widened_by advances file =
    result_ok (opened (as_font file)) >>= λ directory. widened_in (table_in file directory) advances

-- and else the file itself
unfoldable pub widened : List ℕ → List ℕ → List ℕ
widened advances file = unwrap_or (widened_by advances file) file
