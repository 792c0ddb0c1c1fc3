use Rattle.cid_embed.proofs.AgainLaws.Joined as joined
use Rattle.cid_embed.proofs.laws.is_composed_of_less.Goals as goal

pub returns : goal.returns
returns c = joined.is_composed_of_less
