use Rattle.subsetter_variation.proofs.Masters.{is_nothing_at_default}
use Rattle.subsetter_variation.proofs.laws.is_nothing_at_default.Goals as goal

pub returns : goal.returns
returns c = is_nothing_at_default
