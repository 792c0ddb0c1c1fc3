use Rattle.subsetter_variation.proofs.ItemsLaws.Items.{is_item_at_default}
use Rattle.subsetter_variation.proofs.laws.is_item_at_default.Goals as goal

pub returns : goal.returns
returns c = is_item_at_default
