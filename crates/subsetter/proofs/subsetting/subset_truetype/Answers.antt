use Rattle.std.proofs.Common.{ℕ, List, length, Option, ap, subst, ◌∙◌, arith}
use Rattle.std.proofs.lemmas.Result.{err_from_is_err_and}
use Rattle.subsetter.specs.Truetype.Answered.{IsAnswered, IsRefused, no_memory, unread}
use Rattle.subsetter_sfnt.specs.Extras.{requested}
use Rattle.subsetter_sfnt.specs.Read.{table_in}
use Rattle.subsetter.specs.Glyf.Reaching.Closure.{StopsClosure}
use Rattle.subsetter.specs.Glyf.View.{seen}
use Rattle.subsetter_sfnt.specs.Plain.{file_of}
use Rattle.subsetter.specs.Truetype.View.{made_seen}
use Rattle.subsetter.specs.TableView.{views}
use Rattle.subsetter_sfnt.specs.Laying.Rows.{FontTables, rows, present}
use Rattle.subsetter_sfnt.specs.Laying.Written.{kind_word}
use Rattle.subsetter_sfnt.specs.declared.flavor.FontFlavor.TheVariants.{TrueType}
use Rattle.subsetter.proofs.TruetypeLaws.PlainAnswers.{gave_ok_within, gave_err_within, refused_closure, refused_made, few_tables, all_tables, answered, refused_file, refused_long}
use Rattle.subsetter.proofs.subsetting.subset_truetype.Goals as goal

pub returns-in_err-table-clause-err : goal.returns-in_err-table-clause-err
returns-in_err-table-clause-err c =
    let p = err_from_is_err_and c.from_residual.result c.from_residual.ensures.1 in
    rw (p.1, p.2) (unread c.in_err-table.ensures.err)

pub returns-in_err-reached-clause-err : goal.returns-in_err-reached-clause-err
returns-in_err-reached-clause-err c =
    let p = err_from_is_err_and c.from_residual-in_err-reached.result c.from_residual-in_err-reached.ensures.1 in
    rw (p.1, p.2) (refused_closure c.args.face.now.extras.hinting (requested c.args.face.now.extras (table_in c.args.face.now.«data».now c.args.face.now.records.now)) c.args.bytes c.args.mapper.now (seen c.in_ok-table.table) c.in_err-reached.field-0.0 c.in_ok-table.ensures.ok
    (subst (λ n. StopsClosure (seen c.in_ok-table.table) c.args.mapper.now n c.in_err-reached.field-0.0) c.unwrap_or.ensures c.in_err-reached.ensures.err))

pub returns-in_err-made-clause-err : goal.returns-in_err-made-clause-err
returns-in_err-made-clause-err c =
    let p = err_from_is_err_and c.from_residual-in_err-made.result c.from_residual-in_err-made.ensures.1 in
    let find : List ℕ → Option (List ℕ) = requested c.args.face.now.extras (table_in c.args.face.now.«data».now c.args.face.now.records.now) in
    rw (p.1, p.2) (refused_made c.args.face.now.extras.hinting find c.args.mapper.now c.in_ok-reached.reached.order (seen c.in_ok-table.table) c.in_ok-table.ensures.ok c.in_ok-reached.ensures.ok c.args.bytes c.in_err-made.field-0.0 c.in_ok-reached.ensures.found c.in_err-made.ensures.exact)

pub returns-in_err-list-clause-err : goal.returns-in_err-list-clause-err
returns-in_err-list-clause-err c =
    let p = err_from_is_err_and c.from_residual-in_err-list.result c.from_residual-in_err-list.ensures.1 in
    rw (p.1, p.2, c.in_err-list.ensures.err) no_memory

pub finish-requires-clause-few : goal.finish-requires-clause-few
finish-requires-clause-few c =
    let find : List ℕ → Option (List ℕ) = requested c.args.face.now.extras (table_in c.args.face.now.«data».now c.args.face.now.records.now) in
    few_tables c.args.face.now.extras.hinting find c.args.mapper.now c.in_ok-reached.reached.order (seen c.in_ok-table.table) c.in_ok-table.ensures.ok c.in_ok-reached.ensures.ok (made_seen c.in_ok-made.made) c.in_ok-made.ensures.exact c.deref.result.now (ap views c.deref.ensures.value ∙ c.in_ok-list.ensures.ok ∙ ap (λ (t : FontTables). present (rows t)) c.font_tables.ensures)

pub finish-requires-clause-tables : goal.finish-requires-clause-tables
finish-requires-clause-tables c =
    let find : List ℕ → Option (List ℕ) = requested c.args.face.now.extras (table_in c.args.face.now.«data».now c.args.face.now.records.now) in
    all_tables c.args.face.now.extras.hinting find c.args.mapper.now c.in_ok-reached.reached.order (seen c.in_ok-table.table) c.in_ok-table.ensures.ok c.in_ok-reached.ensures.ok (made_seen c.in_ok-made.made) c.in_ok-made.ensures.exact c.deref.result.now (ap views c.deref.ensures.value ∙ c.in_ok-list.ensures.ok ∙ ap (λ (t : FontTables). present (rows t)) c.font_tables.ensures)

pub returns-clause-ok : goal.returns-clause-ok
returns-clause-ok c =
    let find : List ℕ → Option (List ℕ) = requested c.args.face.now.extras (table_in c.args.face.now.«data».now c.args.face.now.records.now) in
    gave_ok_within (λ v. v.items) c.args.bytes length c.finish.result (file_of (kind_word TrueType) (views c.deref.result.now)) (IsAnswered c.args.face.now.extras.hinting find c.args.mapper.now) c.finish.ensures.gives
    (λ out h. answered c.args.face.now.extras.hinting find c.args.mapper.now c.in_ok-reached.reached.order (seen c.in_ok-table.table) c.in_ok-table.ensures.ok c.in_ok-reached.ensures.ok (made_seen c.in_ok-made.made) c.in_ok-made.ensures.exact c.deref.result.now (ap views c.deref.ensures.value ∙ c.in_ok-list.ensures.ok ∙ ap (λ (t : FontTables). present (rows t)) c.font_tables.ensures) out c.in_ok-reached.ensures.found (omega (arith, c.num_gids-count.ensures.few)) h)

pub returns-clause-err : goal.returns-clause-err
returns-clause-err c =
    let find : List ℕ → Option (List ℕ) = requested c.args.face.now.extras (table_in c.args.face.now.«data».now c.args.face.now.records.now) in
    let there = ap views c.deref.ensures.value ∙ c.in_ok-list.ensures.ok ∙ ap (λ (t : FontTables). present (rows t)) c.font_tables.ensures in
    gave_err_within (λ v. v.items) c.args.bytes length c.finish.result (file_of (kind_word TrueType) (views c.deref.result.now)) (IsRefused c.args.face.now.extras.hinting find c.args.bytes c.args.mapper.now) c.finish.ensures.gives no_memory
    (refused_file c.args.face.now.extras.hinting find c.args.mapper.now c.in_ok-reached.reached.order (seen c.in_ok-table.table) c.in_ok-table.ensures.ok c.in_ok-reached.ensures.ok (made_seen c.in_ok-made.made) c.in_ok-made.ensures.exact c.deref.result.now there c.args.bytes c.in_ok-reached.ensures.found)
    (refused_long c.args.face.now.extras.hinting find c.args.mapper.now c.in_ok-reached.reached.order (seen c.in_ok-table.table) c.in_ok-table.ensures.ok c.in_ok-reached.ensures.ok (made_seen c.in_ok-made.made) c.in_ok-made.ensures.exact c.deref.result.now there c.args.bytes c.in_ok-reached.ensures.found)
