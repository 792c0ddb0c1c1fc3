use Rattle.cid_embed.proofs.AgainLaws.Joined as joined
use Rattle.cid_embed.proofs.laws.no_fault_again.Goals as goal

pub returns : goal.returns
returns c = joined.no_fault_again
