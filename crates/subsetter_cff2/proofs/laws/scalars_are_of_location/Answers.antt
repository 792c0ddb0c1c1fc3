use Rattle.subsetter_cff2.proofs.PlaceLaws as laws
use Rattle.subsetter_cff2.proofs.laws.scalars_are_of_location.Goals as goal

pub returns : goal.returns
returns c = laws.scalars_are_of_place
