use Rattle.std.proofs.Common.{◌≤◌, length, sym, subst}
use Rattle.subsetter_sfnt.specs.Read.{table_in}
use Rattle.subsetter_cff_instance.specs.Plain.{Prepared}
use Rattle.subsetter_cff_instance.proofs.Making.{head_long, lines_long}
use Rattle.subsetter_cff_instance.proofs.instancing.make.Goals as goal

pub laid-requires-clause-head : goal.laid-requires-clause-head
laid-requires-clause-head c =
    let find = table_in c.args.face.now.«data».now c.args.face.now.records.now in
    subst (λ (p : Prepared). 44 ≤ length p.source.head) (sym c.prepared.view_is) (head_long find c.args.cff2.now c.args.coordinates.now c.args.mapper.now c.args.limits.tokens c.args.limits.depth c.args.limits.bytes _ c.in_ok-prepared.ensures)

pub laid-requires-clause-hhea : goal.laid-requires-clause-hhea
laid-requires-clause-hhea c =
    let find = table_in c.args.face.now.«data».now c.args.face.now.records.now in
    subst (λ (p : Prepared). 36 ≤ length p.lines.hhea) (sym c.prepared.view_is) (lines_long find c.args.cff2.now c.args.coordinates.now c.args.mapper.now c.args.limits.tokens c.args.limits.depth c.args.limits.bytes _ c.in_ok-prepared.ensures)
