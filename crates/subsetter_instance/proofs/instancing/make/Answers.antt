use Rattle.std.proofs.Common.{sym}
use Rattle.subsetter_sfnt.specs.Read.{table_in}
use Rattle.subsetter_instance.proofs.FileLaws.Lines.{lines_long}
use Rattle.subsetter_instance.proofs.FileLaws.Steps.{source_read}
use Rattle.subsetter_instance.proofs.Opened.{head_there, hhea_there}
use Rattle.subsetter_instance.proofs.instancing.make.Goals as goal

pub lines_of-requires : goal.lines_of-requires
lines_of-requires c =
    let find = table_in c.args.face.now.«data».now c.args.face.now.records.now in
    hhea_there find c.len.result c.in_ok-source.source (source_read find c.len.result c.in_ok-source.source (sym c.in_ok-source.ensures.value)).1

pub laid-requires-clause-head : goal.laid-requires-clause-head
laid-requires-clause-head c =
    let find = table_in c.args.face.now.«data».now c.args.face.now.records.now in
    head_there find c.len.result c.in_ok-source.source (source_read find c.len.result c.in_ok-source.source (sym c.in_ok-source.ensures.value)).1

pub laid-requires-clause-hhea : goal.laid-requires-clause-hhea
laid-requires-clause-hhea c =
    let find = table_in c.args.face.now.«data».now c.args.face.now.records.now in
    lines_long find c.args.coordinates.now _ c.in_ok-lines.lines (hhea_there find c.len.result c.in_ok-source.source (source_read find c.len.result c.in_ok-source.source (sym c.in_ok-source.ensures.value)).1) c.in_ok-lines.ensures
