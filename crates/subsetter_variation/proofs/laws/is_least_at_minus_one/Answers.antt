use Rattle.subsetter_variation.proofs.LocationsLaws.Placing.{is_least_at_minus_one}
use Rattle.subsetter_variation.proofs.laws.is_least_at_minus_one.Goals as goal

pub returns : goal.returns
returns c = is_least_at_minus_one
