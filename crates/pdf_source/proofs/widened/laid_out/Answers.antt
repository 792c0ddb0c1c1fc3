use Rattle.std.proofs.Common.{◌≡◌, ℕ, List, Option, Bor, length, ap, sym, subst, ◌∙◌, arith}
use Rattle.std.specs.List.{AllByRecursion}
use Rattle.std.proofs.lemmas.List.{length-map}
use Rattle.subsetter_sfnt.specs.Laying.Rows.{FontTables, present, rows}
use Rattle.subsetter_sfnt.specs.Laying.Written.{IsTable, Table}
use Rattle.subsetter_sfnt.specs.Read.{table_in}
use Rattle.subsetter_sfnt.specs.View.{view, views}
use Rattle.subsetter_sfnt.proofs.Laws.LayingLaws.Rows.{rows_few, rows_tables}
use Rattle.pdf_source.specs.Widened.{tables_with}
use Rattle.pdf_source.proofs.Widening.{has_room}
use Rattle.pdf_source.proofs.widened.laid_out.Goals as goal

pub finish-requires-clause-few : goal.finish-requires-clause-few
finish-requires-clause-few c =
    let find : List ℕ → Option (List ℕ) = table_in c.args.face.now.«data».now c.args.face.now.records.now in
    let list : views (λ (b : Bor (List ℕ)). b.now) c.deref.result.now ≡ present (rows (tables_with find c.args.head.now c.args.cff.now)) =
    ap (views (λ (b : Bor (List ℕ)). b.now)) c.deref.ensures.value ∙ c.in_ok-list.ensures.ok ∙ ap (λ (t : FontTables). present (rows t)) c.tables_with-tables.ensures in
    let count : length (views (λ (b : Bor (List ℕ)). b.now) c.deref.result.now) ≡ length c.deref.result.now = length-map c.deref.result.now (view (λ (b : Bor (List ℕ)). b.now)) in
    omega (arith, count, ap length list, rows_few (tables_with find c.args.head.now c.args.cff.now))

pub finish-requires-clause-tables : goal.finish-requires-clause-tables
finish-requires-clause-tables c =
    let find : List ℕ → Option (List ℕ) = table_in c.args.face.now.«data».now c.args.face.now.records.now in
    let list : views (λ (b : Bor (List ℕ)). b.now) c.deref.result.now ≡ present (rows (tables_with find c.args.head.now c.args.cff.now)) =
    ap (views (λ (b : Bor (List ℕ)). b.now)) c.deref.ensures.value ∙ c.in_ok-list.ensures.ok ∙ ap (λ (t : FontTables). present (rows t)) c.tables_with-tables.ensures in
    subst (λ (ts : List Table). AllByRecursion IsTable ts) (sym list) (rows_tables (tables_with find c.args.head.now c.args.cff.now) (has_room c.requires.0 c.args.head.now c.requires.1))
