use Rattle.subsetter_variation.proofs.LocationsLaws.Placing.{is_default_at_zero}
use Rattle.subsetter_variation.proofs.laws.is_default_at_zero.Goals as goal

pub returns : goal.returns
returns c = is_default_at_zero
