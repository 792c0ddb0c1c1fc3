use Rattle.subsetter_variation.proofs.Scalars.{is_between_nothing_and_full}
use Rattle.subsetter_variation.proofs.laws.is_between_nothing_and_full.Goals as goal

pub returns : goal.returns
returns c = is_between_nothing_and_full
