use Rattle.std.proofs.Common.{◌<◌, length, arith}
use Rattle.subset_task.specs.Faces.Named.{after_same}
use Rattle.subset_task.proofs.FacesLaws.Naming.{same_cut}
use Rattle.subset_task.proofs.faces.named.after_same.Goals as goal

pub returns-in_default : goal.returns-in_default
returns-in_default c =
    let more : c.loop-byte.byte-index < length c.args.text.now = omega arith in
    same_cut c.args.text.now c.loop-byte.rest.now c.loop-byte.byte-index (after_same c.args.text.now c.args.name.now) more c.in_default.len_below c.loop-byte.invariant
