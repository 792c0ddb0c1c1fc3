use Rattle.subsetter_cff_at.proofs.Promised.{made_is_table}
use Rattle.subsetter_cff_at.proofs.laws.made_is_table.Goals as goal

pub returns : goal.returns
returns c = made_is_table
