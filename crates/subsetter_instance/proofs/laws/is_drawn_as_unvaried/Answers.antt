use Rattle.subsetter_instance.proofs.Defaults.{is_drawn_as_unvaried}
use Rattle.subsetter_instance.proofs.laws.is_drawn_as_unvaried.Goals as goal

pub returns : goal.returns
returns c = is_drawn_as_unvaried
