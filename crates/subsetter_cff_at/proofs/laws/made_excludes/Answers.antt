use Rattle.subsetter_cff_at.proofs.Excluded.{made_excludes}
use Rattle.subsetter_cff_at.proofs.laws.made_excludes.Goals as goal

pub returns : goal.returns
returns c = made_excludes
