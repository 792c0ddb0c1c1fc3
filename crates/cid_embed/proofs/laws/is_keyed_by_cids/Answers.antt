use Rattle.cid_embed.proofs.AgainLaws.Joined as joined
use Rattle.cid_embed.proofs.laws.is_keyed_by_cids.Goals as goal

pub returns : goal.returns
returns c = joined.is_keyed_by_cids
