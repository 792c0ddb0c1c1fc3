-- What the code's tables of a new font mean.
use Rattle.std.specs.Prelude.{ℕ, List, map}
use Rattle.std.specs.Option.{option_map}
use Rattle.subsetter_sfnt.specs.declared.laying.tables.NewTable.{NewTable}
use Rattle.subsetter_sfnt.specs.declared.laying.tables.FontTables.{FontTables as NewFont}
use Rattle.subsetter_sfnt.specs.Laying.Written.{Table}
use Rattle.subsetter_sfnt.specs.Laying.Rows.{FontTables}

-- a table by its tag and its bytes
abbrev pub view : {T : Type 0} → (T → List ℕ) → NewTable T → Table
view bytes_of t = record { tag = t.tag.0; bytes = bytes_of t.«data» }

abbrev pub views : {T : Type 0} → (T → List ℕ) → List (NewTable T) → List Table
views bytes_of ts = map (view bytes_of) ts

-- the bytes of a font's tables
abbrev pub font_seen : {T : Type 0} → (T → List ℕ) → NewFont T → FontTables
font_seen bytes_of t = record {
  cff = option_map bytes_of t.cff;
  cvt = option_map bytes_of t.cvt;
  fpgm = option_map bytes_of t.fpgm;
  glyf = option_map bytes_of t.glyf;
  head = option_map bytes_of t.head;
  hhea = option_map bytes_of t.hhea;
  hmtx = option_map bytes_of t.hmtx;
  loca = option_map bytes_of t.loca;
  maxp = option_map bytes_of t.maxp;
  name = option_map bytes_of t.name;
  post = option_map bytes_of t.post;
  prep = option_map bytes_of t.prep;
}
