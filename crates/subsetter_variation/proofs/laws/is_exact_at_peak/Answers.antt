use Rattle.subsetter_variation.proofs.Masters.{is_exact_at_peak}
use Rattle.subsetter_variation.proofs.laws.is_exact_at_peak.Goals as goal

pub returns : goal.returns
returns c = is_exact_at_peak
