use Rattle.subsetter.specs.Common.Name.View.{seen_table}
use Rattle.subsetter.proofs.CommonLaws.NameLaws.Placed.{all_written}
use Rattle.subsetter.proofs.common.name.subset_table.Goals as goal

pub returns : goal.returns
returns c = rw (all_written (seen_table c.args.table.now)) at c.laid_names.ensures
