use Rattle.std.proofs.Common.{◌≡◌, length, ap, ◌∙◌, rules}
use Rattle.std.specs.Prelude.{IsTrue}
use Rattle.subsetter_points.specs.Simple.{are_ends}
use Rattle.subsetter_points.proofs.Sound.{points_length}
use Rattle.subsetter_points.proofs.reading.read_simple.Goals as goal

pub returns-clause-sound : goal.returns-clause-sound
returns-clause-sound c =
    let flags = c.in-Some.columns.flags.items in
    let a : length c.in-Some.columns.xs.items ≡ length flags = search rules in
    let b : length c.in-Some.columns.ys.items ≡ length flags = search rules in
    let s : IsTrue (are_ends 0 c.in-Some.columns.ends.items (length flags)) = search rules in
    let n : length c.in_ok-points.points.items ≡ length flags = ap length (search rules) ∙ points_length flags c.in-Some.columns.xs.items c.in-Some.columns.ys.items a b in
    ap (are_ends 0 c.in-Some.columns.ends.items) n ∙ s
