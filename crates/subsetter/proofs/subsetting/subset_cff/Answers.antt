use Rattle.std.proofs.Common.{◌≡◌, ℕ, List, length, Option, Some, false, ap, sym, subst, ◌∙◌}
use Rattle.std.specs.Prelude.{codes, IfOk}
use Rattle.std.specs.Option.{option_copied}
use Rattle.std.proofs.lemmas.Result.{err_from_is_err_and}
use Rattle.subsetter_base.specs.Within.{GivesWithin, is_past}
use Rattle.subsetter_base.specs.declared.error.Error.TheVariants.{MalformedFont}
use Rattle.subsetter_base.proofs.Results.{named_ok}
use Rattle.subsetter_sfnt.specs.Plain.{file_of}
use Rattle.subsetter_sfnt.specs.Laying.Written.{kind_word}
use Rattle.subsetter_sfnt.specs.declared.flavor.FontFlavor.TheVariants.{Cff}
use Rattle.subsetter.proofs.CffLaws.Bound.{made_fails, file_given}
use Rattle.subsetter_sfnt.specs.Extras.{requested}
use Rattle.subsetter_sfnt.specs.Read.{table_in}
use Rattle.subsetter_sfnt.specs.Laying.Rows.{FontTables, rows, present}
use Rattle.subsetter.specs.TableView.{views}
use Rattle.subsetter.specs.Cff.View.{made_seen}
use Rattle.subsetter.proofs.CffLaws.Steps.{few_tables, all_tables}
use Rattle.subsetter.proofs.subsetting.subset_cff.Goals as goal

pub finish-requires-clause-few : goal.finish-requires-clause-few
finish-requires-clause-few c = few_tables (made_seen c.in_ok-made.made) c.deref.result.now (ap views c.deref.ensures.value ∙ c.in_ok-list.ensures.ok ∙ ap (λ (t : FontTables). present (rows t)) c.font_tables.ensures)

pub finish-requires-clause-tables : goal.finish-requires-clause-tables
finish-requires-clause-tables c =
    all_tables (made_seen c.in_ok-made.made) c.deref.result.now (ap views c.deref.ensures.value ∙ c.in_ok-list.ensures.ok ∙ ap (λ (t : FontTables). present (rows t)) c.font_tables.ensures) (requested c.args.face.now.extras (table_in c.args.face.now.«data».now c.args.face.now.records.now)) c.in_ok-source.source.now
    c.args.limits.tokens c.args.limits.depth c.args.mapper.now c.in_ok-made.ensures

pub returns-in_err-made-clause-gives : goal.returns-in_err-made-clause-gives
returns-in_err-made-clause-gives c =
    let p = err_from_is_err_and c.from_residual-in_err-made.result c.from_residual-in_err-made.ensures.1 in
    let find : List ℕ → Option (List ℕ) = requested c.args.face.now.extras (table_in c.args.face.now.«data».now c.args.face.now.records.now) in
    let there : find (codes "CFF ") ≡ Some c.in_ok-source.source.now = sym c.table.ensures ∙ ap option_copied (named_ok c.table.result MalformedFont c.in_ok-source.source (sym c.in_ok-source.ensures.value)) in
    rw (p.1, p.2) (made_fails c.args.limits.bytes find c.in_ok-source.source.now c.args.limits.tokens c.args.limits.depth c.args.mapper.now c.in_err-made.field-0.0 there c.in_err-made.ensures)

pub returns-clause-gives : goal.returns-clause-gives
returns-clause-gives c =
    let find : List ℕ → Option (List ℕ) = requested c.args.face.now.extras (table_in c.args.face.now.«data».now c.args.face.now.records.now) in
    let there : find (codes "CFF ") ≡ Some c.in_ok-source.source.now = sym c.table.ensures ∙ ap option_copied (named_ok c.table.result MalformedFont c.in_ok-source.source (sym c.in_ok-source.ensures.value)) in
    let list_is = ap views c.deref.ensures.value ∙ c.in_ok-list.ensures.ok ∙ ap (λ (t : FontTables). present (rows t)) c.font_tables.ensures in
    file_given c.args.limits.bytes find c.in_ok-source.source.now c.args.limits.tokens c.args.limits.depth c.args.mapper.now (λ v. v.items) c.finish.result (made_seen c.in_ok-made.made) (views c.deref.result.now) there c.in_ok-made.ensures list_is
    (subst (λ (b : Option ℕ). GivesWithin (λ v. v.items) b length c.finish.result (file_of (kind_word Cff) (views c.deref.result.now))) c.bytes.ensures c.finish.ensures.gives)

pub returns-clause-within : goal.returns-clause-within
returns-clause-within c = subst (λ (b : Option ℕ). IfOk c.finish.result (λ v. is_past b (length v.items) ≡ false)) c.bytes.ensures c.finish.ensures.within
