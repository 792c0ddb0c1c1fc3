use Rattle.subsetter_instance.proofs.TablesLaws.Boxes.{is_box_of_all}
use Rattle.subsetter_instance.proofs.laws.is_box_of_all.Goals as goal

pub returns : goal.returns
returns c = is_box_of_all
