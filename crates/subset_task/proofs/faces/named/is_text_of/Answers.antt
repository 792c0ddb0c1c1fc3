use Rattle.std.proofs.Common.{sym}
use Rattle.subset_lines.specs.Faces.Names.{text_of_units}
use Rattle.subset_task.specs.Faces.Named.{is_same_name}
use Rattle.subset_task.proofs.FacesLaws.Naming.{same_later, same_not}
use Rattle.subset_task.proofs.faces.named.is_text_of.Goals as goal

pub returns-in-None : goal.returns-in-None
returns-in-None c = same_not c.loop-rest.rest.now c.encoded.result.now c.loop-rest.left.now _ (is_same_name (text_of_units c.args.units.now) c.args.name.now) c.in-len2-up.len_at_least c.encoded.ensures (sym c.in-None.ensures) c.loop-rest.invariant

pub loop-rest-preserved : goal.loop-rest-preserved
loop-rest-preserved c = same_later c.loop-rest.rest.now c.encoded.result.now c.loop-rest.left.now c.in-Some.following.now _ (is_same_name (text_of_units c.args.units.now) c.args.name.now) c.in-len2-up.len_at_least c.encoded.ensures (sym c.in-Some.ensures) c.loop-rest.invariant
