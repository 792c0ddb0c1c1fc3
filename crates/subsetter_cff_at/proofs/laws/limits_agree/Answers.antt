use Rattle.subsetter_cff_at.proofs.Agreeing.{limits_agree}
use Rattle.subsetter_cff_at.proofs.laws.limits_agree.Goals as goal

pub returns : goal.returns
returns c = limits_agree
