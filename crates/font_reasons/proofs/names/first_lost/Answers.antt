use Rattle.std.proofs.Common.{◌≡◌, ℕ, ◌+◌, ◌*◌, Some, sym, ap, ◌∙◌}
use Rattle.font_reasons.specs.Names.{lost_at}
use Rattle.font_reasons.proofs.NameSteps.{lost_here}
use Rattle.font_reasons.proofs.names.first_lost.Goals as goal

pub returns-in-Some : goal.returns-in-Some
returns-in-Some c =
    let s : lost_at c.args.name.now c.args.storage.now (6 + 12 * c.loop-record.record) ≡ Some c.in-Some.reason = ap (λ (k : ℕ). lost_at c.args.name.now c.args.storage.now (6 + 12 * k)) (sym c.from.ensures) ∙ sym c.in-Some.ensures in
    sym (lost_here c.args.name.now c.args.storage.now c.args.count c.loop-record.record s c.loop-record-test.true) ∙ c.loop-record.invariant
