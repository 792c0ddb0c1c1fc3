use Rattle.std.proofs.Common.{◌&&◌}
use Rattle.pdf_operators.specs.Places.{fits, narrowed}
use Rattle.pdf_operators.proofs.Near.{far_half, near_halves}
use Rattle.pdf_operators.proofs.places.narrow.Goals as goal

pub returns-in_err-first : goal.returns-in_err-first
returns-in_err-first c =
    let w = c.args.wide in
    rw c.from_residual.ensures (far_half (fits w.back && (fits w.x && fits w.y)) (fits w.at && fits w.rise) (narrowed w) c.in_err-first.ensures)

pub returns : goal.returns
returns c =
    let w = c.args.wide in
    near_halves (fits w.back && (fits w.x && fits w.y)) (fits w.at && fits w.rise) (narrowed w) _ c.in_ok-first.first c.in_ok-first.ensures c.last_two.ensures
