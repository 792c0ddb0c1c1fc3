use Rattle.std.proofs.Common.{◌≡◌, ℕ, ◌+◌, ◌*◌, Some, sym, ap, ◌∙◌}
use Rattle.cmap.specs.Subtable.{unicode_table}
use Rattle.cmap.proofs.Steps.{tables_here}
use Rattle.cmap.proofs.mapping.find_of_format.Goals as goal

pub returns-in-Some : goal.returns-in-Some
returns-in-Some c =
    let s : unicode_table c.args.format c.args.cmap.now (4 + 8 * c.loop-record.record) ≡ Some c.in-Some.table.now = ap (λ (k : ℕ). unicode_table c.args.format c.args.cmap.now (4 + 8 * k)) (sym c.from.ensures) ∙ sym c.in-Some.ensures in
    sym (tables_here c.args.format c.args.cmap.now c.args.count c.loop-record.record s c.loop-record-test.true) ∙ c.loop-record.invariant
