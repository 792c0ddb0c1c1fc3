use Rattle.subsetter_variation.proofs.Defaults.{stays_at_default}
use Rattle.subsetter_variation.proofs.laws.is_unvaried_at_default.Goals as goal

pub returns : goal.returns
returns c = stays_at_default
