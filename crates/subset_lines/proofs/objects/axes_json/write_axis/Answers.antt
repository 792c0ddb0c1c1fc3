use Rattle.std.proofs.Common.{sym, rules, w32}
use Rattle.std.proofs.lemmas.Int.{to_z-of_z}
use mir.Val.{SFits}
use Rattle.subset_lines.specs.Objects.AxesJson.{axis_object}
use Rattle.subset_lines.proofs.objects.axes_json.write_axis.Goals as goal

pub returns : goal.returns
unfolding axis_object
returns g c =
    let least : SFits w32 c.args.axis.now.minimum = search rules in
    let default : SFits w32 c.args.axis.now.default = search rules in
    let greatest : SFits w32 c.args.axis.now.maximum = search rules in
    rw (sym c.get.ensures, sym (to_z-of_z w32 c.args.axis.now.minimum least), sym (to_z-of_z w32 c.args.axis.now.default default), sym (to_z-of_z w32 c.args.axis.now.maximum greatest)) c.write_pieces.ensures
