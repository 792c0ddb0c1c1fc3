use Rattle.std.proofs.Common.{◌∙◌}
use Rattle.subsetter_sfnt.proofs.Laws.FieldsLaws.HmtxLaws.{all_pairs}
use Rattle.own_glyphs.proofs.adding.new_tables.Goals as goal

pub returns-clause-hmtx : goal.returns-clause-hmtx
returns-clause-hmtx c = c.in_ok-hmtx.ensures.ok ∙ all_pairs c.args.metrics.now c.args.count c.requires.pairs
