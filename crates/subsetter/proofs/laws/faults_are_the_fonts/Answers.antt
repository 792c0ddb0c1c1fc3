use Rattle.subsetter.proofs.NoBound.{without_bound}
use Rattle.subsetter.proofs.laws.faults_are_the_fonts.Goals as goal

pub returns : goal.returns
returns c = without_bound
