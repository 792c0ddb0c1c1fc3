use Rattle.std.proofs.Common.{sym}
use Rattle.subsetter_sfnt.specs.Read.{table_in}
use Rattle.subsetter_cff_instance.proofs.Making.{hhea_there}
use Rattle.subsetter_cff_instance.proofs.instancing.prepare.Goals as goal

pub lines_of-requires : goal.lines_of-requires
lines_of-requires c = hhea_there (table_in c.args.face.now.«data».now c.args.face.now.records.now) c.in_ok-source.source (sym c.in_ok-source.ensures)
