use Rattle.std.proofs.Common.{ℕ, List, Option, Result, ap, sym, subst, ◌∙◌}
use Rattle.subsetter_base.specs.declared.error.Error.{Error}
use Rattle.subsetter_base.specs.declared.error.Error.TheVariants.{MalformedFont}
use Rattle.subsetter_base.specs.Gives.{Gives}
use Rattle.subsetter_sfnt.specs.Read.{table_in}
use Rattle.subsetter_sfnt.specs.View.{views}
use Rattle.subsetter_instance.specs.Tables.Lines.{with_lines}
use Rattle.subsetter_instance.specs.Tables.Written.{by_glyph, tables}
use Rattle.subsetter_instance.proofs.FileLaws.Laid.{found_by, all_tables, plainly}
use Rattle.subsetter_instance.proofs.NoBound.{given}
use Rattle.subsetter_instance.proofs.TablesLaws.WriteLemmas.{font_made}
use Rattle.subsetter_instance.proofs.tables.file.laid.Goals as goal

pub finish-requires-clause-tables : goal.finish-requires-clause-tables
finish-requires-clause-tables c =
    let find : List ℕ → Option (List ℕ) = table_in c.args.face.now.«data».now c.args.face.now.records.now in
    let l = c.args.lines.now in
    let head = found_by c.stored.result c.in_ok-head.head _ MalformedFont c.stored.ensures (sym c.in_ok-head.ensures.value) in
    let n = c.in_ok-new.ensures in
    let all = by_glyph c.args.mapper.now c.args.drawn.now c.count.result in
    let made = font_made (with_lines find l) c.in_ok-head.head.now c.hhea.result.now c.count.result c.args.drawn.now all _ _ _ _ _ _ _ _ _ c.font_tables-tables.ensures n.glyf n.head n.hhea n.hmtx n.loca n.maxp c.stored-2.ensures c.post.ensures
    ∙ ap (λ (h : List ℕ). tables (with_lines find l) c.in_ok-head.head.now h c.count.result c.args.drawn.now all) c.hhea.ensures in
    all_tables find l c.args.source.now c.args.mapper.now c.args.drawn.now c.in_ok-head.head.now head _ _ c.count.result c.count.ensures (ap (views (λ bytes. bytes.now)) c.deref.ensures.value ∙ c.in_ok-list.ensures.ok) made c.requires.head

pub returns : goal.returns
returns c =
    let find : List ℕ → Option (List ℕ) = table_in c.args.face.now.«data».now c.args.face.now.records.now in
    let l = c.args.lines.now in
    let head = found_by c.stored.result c.in_ok-head.head _ MalformedFont c.stored.ensures (sym c.in_ok-head.ensures.value) in
    let n = c.in_ok-new.ensures in
    let all = by_glyph c.args.mapper.now c.args.drawn.now c.count.result in
    let made = font_made (with_lines find l) c.in_ok-head.head.now c.hhea.result.now c.count.result c.args.drawn.now all _ _ _ _ _ _ _ _ _ c.font_tables-tables.ensures n.glyf n.head n.hhea n.hmtx n.loca n.maxp c.stored-2.ensures c.post.ensures
    ∙ ap (λ (h : List ℕ). tables (with_lines find l) c.in_ok-head.head.now h c.count.result c.args.drawn.now all) c.hhea.ensures in
    subst (λ (read : Result (List ℕ) Error). Gives (λ v. v.items) c.finish.result read)
    (plainly find l c.args.source.now c.args.mapper.now c.args.drawn.now c.in_ok-head.head.now head _ _ c.count.result c.count.ensures (ap (views (λ bytes. bytes.now)) c.deref.ensures.value ∙ c.in_ok-list.ensures.ok) made) (given _ _ c.finish.result _ c.finish.ensures.gives)
