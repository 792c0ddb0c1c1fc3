use Rattle.subsetter_variation.proofs.ItemsLaws.Items.{is_rounded_as_it_is}
use Rattle.subsetter_variation.proofs.laws.is_rounded_as_it_is.Goals as goal

pub returns : goal.returns
returns c = is_rounded_as_it_is
