use Rattle.subsetter_variation.proofs.LocationsLaws.Bent.{never_descends_bent}
use Rattle.subsetter_variation.proofs.laws.never_descends_bent.Goals as goal

pub returns : goal.returns
returns c = never_descends_bent
