use Rattle.subsetter_variation.proofs.LocationsLaws.Placing.{is_greatest_at_one}
use Rattle.subsetter_variation.proofs.laws.is_greatest_at_one.Goals as goal

pub returns : goal.returns
returns c = is_greatest_at_one
