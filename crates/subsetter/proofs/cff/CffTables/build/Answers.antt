use Rattle.std.proofs.Common.{List, ℕ, Option}
use Rattle.std.proofs.lemmas.Result.{err_from_is_err_and}
use Rattle.subsetter_cff.specs.Write.Laying.TableBy.{table_bytes}
use Rattle.subsetter_sfnt.specs.Extras.{requested}
use Rattle.subsetter_sfnt.specs.Read.{table_in}
use Rattle.subsetter.proofs.CffLaws.Bound.{table_fails, shared_fails}
use Rattle.subsetter.proofs.cff.CffTables.build.Goals as goal

pub returns-in_err-table : goal.returns-in_err-table
returns-in_err-table c =
    let p = err_from_is_err_and c.from_residual.result c.from_residual.ensures.1 in
    let find : List ℕ → Option (List ℕ) = requested c.args.face.now.extras (table_in c.args.face.now.«data».now c.args.face.now.records.now) in
    rw (p.1, p.2) (table_fails c.args.limits.bytes find c.args.source.now c.args.limits.tokens c.args.limits.depth c.args.mapper.now c.in_err-table.field-0.0 c.in_err-table.ensures.exact)

pub returns-in_err-shared : goal.returns-in_err-shared
returns-in_err-shared c =
    let p = err_from_is_err_and c.from_residual-in_err-shared.result c.from_residual-in_err-shared.ensures.1 in
    let find : List ℕ → Option (List ℕ) = requested c.args.face.now.extras (table_in c.args.face.now.«data».now c.args.face.now.records.now) in
    rw (p.1, p.2) (shared_fails c.args.limits.bytes find c.args.source.now c.args.limits.tokens c.args.limits.depth c.args.mapper.now (table_bytes c.in_ok-table.table) c.in_err-shared.field-0.0 c.in_ok-table.ensures.exact c.in_err-shared.ensures)
