use Rattle.subsetter_variable.proofs.Again.{itself_again}
use Rattle.subsetter_variable.proofs.laws.is_itself_again.Goals as goal

pub returns : goal.returns
returns c = itself_again
