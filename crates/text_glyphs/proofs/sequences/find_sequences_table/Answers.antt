use Rattle.std.proofs.Common.{◌≡◌, ℕ, ◌+◌, ◌*◌, Some, sym, ap, ◌∙◌}
use Rattle.text_glyphs.specs.Sequences.{sequences_table}
use Rattle.text_glyphs.proofs.RecordSteps.{sequences_here}
use Rattle.text_glyphs.proofs.sequences.find_sequences_table.Goals as goal

pub returns-in-Some : goal.returns-in-Some
returns-in-Some c =
    let s : sequences_table c.args.cmap.now (4 + 8 * c.loop-record.record) ≡ Some c.in-Some.table.now = ap (λ (k : ℕ). sequences_table c.args.cmap.now (4 + 8 * k)) (sym c.from.ensures) ∙ sym c.in-Some.ensures in
    sym (sequences_here c.args.cmap.now c.args.count c.loop-record.record s c.loop-record-test.true) ∙ c.loop-record.invariant
