use Rattle.subsetter_variation.proofs.ItemsLaws.Items.{is_item_at_master}
use Rattle.subsetter_variation.proofs.laws.is_item_at_master.Goals as goal

pub returns : goal.returns
returns c = is_item_at_master
