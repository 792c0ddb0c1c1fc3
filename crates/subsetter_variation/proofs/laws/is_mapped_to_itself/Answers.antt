use Rattle.subsetter_variation.proofs.LocationsLaws.Placing.{is_kept}
use Rattle.subsetter_variation.proofs.laws.is_mapped_to_itself.Goals as goal

pub returns : goal.returns
returns c = is_kept
