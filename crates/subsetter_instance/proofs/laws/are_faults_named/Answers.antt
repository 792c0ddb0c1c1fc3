-- Both ways.
use Rattle.subsetter_instance.proofs.FaultLaws.WalkLaws.Walk.{walk_refused, walk_stops}
use Rattle.subsetter_instance.proofs.laws.are_faults_named.Goals as goal

pub returns : goal.returns
returns c s at depth steps g e = (walk_refused s at depth steps g e, walk_stops s at depth steps g e)
