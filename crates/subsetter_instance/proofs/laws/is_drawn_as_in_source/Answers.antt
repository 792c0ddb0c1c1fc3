use Rattle.subsetter_instance.proofs.Defaults.{is_drawn_as_it_stands}
use Rattle.subsetter_instance.proofs.laws.is_drawn_as_in_source.Goals as goal

pub returns : goal.returns
returns c = is_drawn_as_it_stands
