use Rattle.cid_embed.proofs.AgainLaws.Joined as joined
use Rattle.cid_embed.proofs.laws.composes_less_afresh.Goals as goal

pub returns : goal.returns
returns c = joined.composes_less_afresh
