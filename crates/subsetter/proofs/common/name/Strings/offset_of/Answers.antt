use Rattle.std.proofs.Common.{◌≡◌, length, ap, ◌∙◌, List, ℕ, arith}
use Rattle.subsetter.specs.Common.Name.Read.{joined}
use Rattle.subsetter.proofs.CommonLaws.NameLaws.Written.{placed_at, fits_16, too_far}
use Rattle.subsetter.proofs.common.name.Strings.offset_of.Goals as goal

pub returns-then-place-gt65535-clause-offset : goal.returns-then-place-gt65535-clause-offset
returns-then-place-gt65535-clause-offset c =
    let ts = c.args.self.now in
    let s = c.args.string.now in
    let size : c.self.inside.size ≡ length (joined ts) = c.self.invariant.size_is ∙ ap (λ (l : List (List ℕ)). length (joined l)) c.self.view_is in
    too_far ts s c.unwrap_or-place.result (placed_at ts s c.self.inside.size c.unwrap_or-place.result c.find-found.result c.find-found.ensures c.unwrap_or-place.ensures size) (omega (arith, c.if-place-gt65535.true))

pub returns-clause-offset : goal.returns-clause-offset
returns-clause-offset c =
    let ts = c.args.self.now in
    let s = c.args.string.now in
    let size : c.self.inside.size ≡ length (joined ts) = c.self.invariant.size_is ∙ ap (λ (l : List (List ℕ)). length (joined l)) c.self.view_is in
    fits_16 ts s c.unwrap_or-place.result (placed_at ts s c.self.inside.size c.unwrap_or-place.result c.find-found.result c.find-found.ensures c.unwrap_or-place.ensures size) (omega (arith, c.if-place-gt65535.false))
