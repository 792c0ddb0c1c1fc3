use Rattle.subsetter_variation.proofs.LocationsLaws.Ascent.{never_descends}
use Rattle.subsetter_variation.proofs.laws.never_descends.Goals as goal

pub returns : goal.returns
returns c = never_descends
