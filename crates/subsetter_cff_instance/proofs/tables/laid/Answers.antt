use Rattle.std.proofs.Common.{ℕ, List, Option, refl, ap, ◌∙◌}
use Rattle.subsetter_sfnt.specs.Read.{table_in}
use Rattle.subsetter_sfnt.specs.View.{views}
use Rattle.subsetter_cff_instance.proofs.TablesLaws.{font_made, all_tables, given}
use Rattle.subsetter_cff_instance.proofs.tables.laid.Goals as goal

pub finish-requires-clause-tables : goal.finish-requires-clause-tables
finish-requires-clause-tables c =
    let find : List ℕ → Option (List ℕ) = table_in c.args.face.now.«data».now c.args.face.now.records.now in
    let s = c.args.source.now in
    let l = c.args.lines.now in
    let n = c.in_ok-new.ensures in
    let made = font_made find s l c.args.mapper.now c.args.metrics.now c.args.cff.now _ _ _ _ _ _ _ _ _ _ _ c.font_tables-tables.ensures refl n.head n.hhea c.hhea.ensures n.hmtx c.requires.all c.requires.boxes c.maxp.ensures c.stored.ensures c.post.ensures in
    all_tables find s l c.args.mapper.now c.args.metrics.now c.args.cff.now _ _ (ap (views (λ bytes. bytes.now)) c.deref.ensures.value ∙ c.in_ok-list.ensures.ok) made c.requires.head

pub returns : goal.returns
returns c =
    let find : List ℕ → Option (List ℕ) = table_in c.args.face.now.«data».now c.args.face.now.records.now in
    let s = c.args.source.now in
    let l = c.args.lines.now in
    let n = c.in_ok-new.ensures in
    let made = font_made find s l c.args.mapper.now c.args.metrics.now c.args.cff.now _ _ _ _ _ _ _ _ _ _ _ c.font_tables-tables.ensures refl n.head n.hhea c.hhea.ensures n.hmtx c.requires.all c.requires.boxes c.maxp.ensures c.stored.ensures c.post.ensures in
    given find s l c.args.mapper.now c.args.metrics.now c.args.cff.now _ _ (ap (views (λ bytes. bytes.now)) c.deref.ensures.value ∙ c.in_ok-list.ensures.ok) made (λ v. v.items) c.finish.result c.finish.ensures.gives
