use Rattle.cid_embed.proofs.AgainLaws.Joined as joined
use Rattle.cid_embed.proofs.laws.unknown_is_fault.Goals as goal

pub returns : goal.returns
returns c = joined.unknown_is_fault
