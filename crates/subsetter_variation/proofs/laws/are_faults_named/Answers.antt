-- Both ways.
use Rattle.subsetter_variation.proofs.GlyphsLaws.GvarFaults.{moving_refused, moving_stops}
use Rattle.subsetter_variation.proofs.laws.are_faults_named.Goals as goal

pub returns : goal.returns
returns c t g o at steps e = (moving_refused t g o at steps e, moving_stops t g o at steps e)
