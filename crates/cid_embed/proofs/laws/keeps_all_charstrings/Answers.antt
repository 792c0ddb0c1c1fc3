use Rattle.cid_embed.proofs.AgainLaws.Joined as joined
use Rattle.cid_embed.proofs.laws.keeps_all_charstrings.Goals as goal

pub returns : goal.returns
returns c = joined.keeps_all_charstrings
