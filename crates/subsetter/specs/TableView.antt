-- What the code's tables of a new font mean.
use Rattle.std.specs.Prelude.{ℕ, List}
use Rattle.subsetter_cff.specs.Write.Laying.TableBy.{table_bytes as piece_bytes}
use Rattle.subsetter.specs.declared.tables.TableData.{TableData}
use Rattle.subsetter.specs.declared.tables.TableData.TheVariants.{Whole, Outlines, Pieces, Head, Hhea, Hmtx, Maxp}
use Rattle.subsetter.specs.declared.tables.TableData.TheVariants.{Names}
use Rattle.subsetter_sfnt.specs.declared.laying.tables.NewTable.{NewTable}
use Rattle.subsetter_sfnt.specs.declared.laying.tables.FontTables.{FontTables as NewFont}
use Rattle.subsetter_sfnt.specs.View.{view as view_by, views as views_by, font_seen as font_seen_by}
use Rattle.subsetter_sfnt.specs.Laying.Written.{Table}
use Rattle.subsetter_sfnt.specs.Laying.Rows.{FontTables}
use Rattle.subsetter.specs.Glyf.Written.{glyf_bytes}

-- the bytes of a table, which is whole, a list of outlines, two pieces, or what a module writes
abbrev pub table_bytes : TableData → List ℕ
table_bytes (Whole bytes) = bytes.now
table_bytes (Outlines outlines long) = glyf_bytes long outlines.now.items
table_bytes (Pieces table) = piece_bytes table.now
table_bytes (Head head) = head.now
table_bytes (Hhea metrics) = metrics.now.hhea
table_bytes (Hmtx metrics) = metrics.now.hmtx
table_bytes (Maxp maxp) = maxp.now
table_bytes (Names names) = names.now

-- a table by its tag and its bytes
abbrev pub view : NewTable TableData → Table
view = view_by table_bytes

abbrev pub views : List (NewTable TableData) → List Table
views = views_by table_bytes

-- the bytes of a font's tables
abbrev pub font_seen : NewFont TableData → FontTables
font_seen = font_seen_by table_bytes
