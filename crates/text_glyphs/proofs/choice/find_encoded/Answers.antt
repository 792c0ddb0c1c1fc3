use Rattle.std.proofs.Common.{◌≡◌, ℕ, ◌+◌, ◌*◌, Some, sym, ap, ◌∙◌}
use Rattle.text_glyphs.specs.Choice.{encoded_table}
use Rattle.text_glyphs.proofs.RecordSteps.{encoded_here}
use Rattle.text_glyphs.proofs.choice.find_encoded.Goals as goal

pub returns-in-Some : goal.returns-in-Some
returns-in-Some c =
    let s : encoded_table c.args.encoding c.args.cmap.now (4 + 8 * c.loop-record.record) ≡ Some c.in-Some.table.now = ap (λ (k : ℕ). encoded_table c.args.encoding c.args.cmap.now (4 + 8 * k)) (sym c.from.ensures) ∙ sym c.in-Some.ensures in
    sym (encoded_here c.args.encoding c.args.cmap.now c.args.count c.loop-record.record s c.loop-record-test.true) ∙ c.loop-record.invariant
