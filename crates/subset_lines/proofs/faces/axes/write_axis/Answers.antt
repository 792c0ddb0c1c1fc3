use Rattle.std.proofs.Common.{sym, rules, w32}
use Rattle.std.proofs.lemmas.Int.{to_z-of_z}
use mir.Val.{SFits}
use Rattle.subset_lines.specs.Faces.Axes.{axis_line}
use Rattle.subset_lines.proofs.faces.axes.write_axis.Goals as goal

pub returns : goal.returns
unfolding axis_line
returns g c =
    let least : SFits w32 c.args.axis.now.minimum = search rules in
    let default : SFits w32 c.args.axis.now.default = search rules in
    let greatest : SFits w32 c.args.axis.now.maximum = search rules in
    rw (sym c.tag_bytes.ensures, sym (to_z-of_z w32 c.args.axis.now.minimum least), sym (to_z-of_z w32 c.args.axis.now.default default), sym (to_z-of_z w32 c.args.axis.now.maximum greatest)) c.write_pieces.ensures
