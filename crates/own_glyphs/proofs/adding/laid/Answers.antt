use Rattle.std.proofs.Common.{ℕ, List, Option, Result, ap, subst, ◌∙◌}
use Rattle.subsetter_base.specs.declared.error.Error.{Error}
use Rattle.subsetter_base.specs.Gives.{Gives}
use Rattle.subsetter_sfnt.specs.Read.{table_in}
use Rattle.subsetter_sfnt.specs.View.{views}
use Rattle.own_glyphs.specs.View.{seen}
use Rattle.own_glyphs.proofs.Laid.{all_tables, few_tables, font_made, given, plainly}
use Rattle.own_glyphs.proofs.adding.laid.Goals as goal

pub finish-requires-clause-few : goal.finish-requires-clause-few
finish-requires-clause-few c = few_tables (λ bytes. bytes.now) c.deref.result.now _ (ap (views (λ bytes. bytes.now)) c.deref.ensures.value ∙ c.in_ok-list.ensures.ok)

pub finish-requires-clause-tables : goal.finish-requires-clause-tables
finish-requires-clause-tables c =
    let find : List ℕ → Option (List ℕ) = table_in c.args.face.now.«data».now c.args.face.now.records.now in
    let s = seen c.args.source.now in
    let o = c.args.outlines in
    let n = c.in_ok-new.ensures in
    let made = font_made find s o.glyf.items o.offsets.items c.args.metrics.now c.args.maxp.items c.args.count _ _ _ _ _ _ _ _ _ _ _ _ c.font_tables-tables.ensures c.stored-cvt.ensures c.stored-fpgm.ensures c.stored-name.ensures c.stored-post.ensures c.stored.ensures n.glyf n.head n.hhea n.hmtx n.loca n.maxp in
    all_tables find s o.glyf.items o.offsets.items c.args.metrics.now c.args.maxp.items c.args.count c.requires.head _ _ (ap (views (λ bytes. bytes.now)) c.deref.ensures.value ∙ c.in_ok-list.ensures.ok) made

pub returns : goal.returns
returns c =
    let find : List ℕ → Option (List ℕ) = table_in c.args.face.now.«data».now c.args.face.now.records.now in
    let s = seen c.args.source.now in
    let o = c.args.outlines in
    let n = c.in_ok-new.ensures in
    let made = font_made find s o.glyf.items o.offsets.items c.args.metrics.now c.args.maxp.items c.args.count _ _ _ _ _ _ _ _ _ _ _ _ c.font_tables-tables.ensures c.stored-cvt.ensures c.stored-fpgm.ensures c.stored-name.ensures c.stored-post.ensures c.stored.ensures n.glyf n.head n.hhea n.hmtx n.loca n.maxp in
    subst (λ (read : Result (List ℕ) Error). Gives (λ v. v.items) c.finish.result read)
    (plainly find s o.glyf.items o.offsets.items c.args.metrics.now c.args.maxp.items c.args.count c.requires.head _ _ (ap (views (λ bytes. bytes.now)) c.deref.ensures.value ∙ c.in_ok-list.ensures.ok) made) (given _ _ c.finish.result _ c.finish.ensures.gives)
