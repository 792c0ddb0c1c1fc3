use Rattle.std.proofs.Common.{◌≡◌, ℕ, ◌+◌, ◌*◌, Some, sym, ap, ◌∙◌}
use Rattle.pdf_values.specs.Name.{string_at}
use Rattle.pdf_values.proofs.Strings.{strings_here}
use Rattle.pdf_values.proofs.naming.string_from.Goals as goal

pub returns-in-Some : goal.returns-in-Some
returns-in-Some c =
    let s : string_at c.args.kind c.args.id c.args.name.now c.args.storage (6 + 12 * c.loop-place.place) ≡ Some c.in-Some.string.now = ap (λ (k : ℕ). string_at c.args.kind c.args.id c.args.name.now c.args.storage (6 + 12 * k)) (sym c.from.ensures) ∙ sym c.in-Some.ensures in
    sym (strings_here c.args.kind c.args.id c.args.name.now c.args.storage c.args.count c.loop-place.place s c.loop-place-test.true) ∙ c.loop-place.invariant
