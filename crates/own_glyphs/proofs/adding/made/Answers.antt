use Rattle.std.proofs.Common.{ℕ, List, Option, length, ap, ◌∙◌}
use Rattle.std.proofs.lemmas.Result.{err_from_is_err_and}
use Rattle.subsetter_sfnt.specs.Read.{table_in}
use Rattle.subsetter.proofs.TruetypeLaws.PlainAnswers.{gave_err, gave_ok}
use Rattle.own_glyphs.specs.Own.{IsMade}
use Rattle.own_glyphs.specs.Refused.{IsUnmade, no_memory, too_many}
use Rattle.own_glyphs.specs.View.{seen}
use Rattle.own_glyphs.proofs.Afresh.{length-boxes}
use Rattle.own_glyphs.proofs.Making.{faulted, is_made, is_unmade, pairs, unboxed, unprofiled}
use Rattle.own_glyphs.proofs.adding.made.Goals as goal

pub returns-in_err-count-clause-err : goal.returns-in_err-count-clause-err
returns-in_err-count-clause-err c =
    let p = err_from_is_err_and c.from_residual.result c.from_residual.ensures.1 in
    rw (p.1, p.2, c.in_err-count.ensures.err.0) (too_many c.in_err-count.ensures.err.1)

pub returns-in_err-boxes-clause-err : goal.returns-in_err-boxes-clause-err
returns-in_err-boxes-clause-err c =
    let p = err_from_is_err_and c.from_residual-in_err-boxes.result c.from_residual-in_err-boxes.ensures.1 in
    let find : List ℕ → Option (List ℕ) = table_in c.args.face.now.«data».now c.args.face.now.records.now in
    rw (p.1, p.2) (unboxed find (seen c.args.source.now) c.args.own.now c.in_err-boxes.field-0.0 c.in_err-boxes.ensures)

pub returns-in_err-maxp-clause-err : goal.returns-in_err-maxp-clause-err
returns-in_err-maxp-clause-err c =
    let p = err_from_is_err_and c.from_residual-in_err-maxp.result c.from_residual-in_err-maxp.ensures.1 in
    let find : List ℕ → Option (List ℕ) = table_in c.args.face.now.«data».now c.args.face.now.records.now in
    rw (p.1, p.2) (unprofiled find (seen c.args.source.now) c.args.own.now c.in_ok-count.count c.in_ok-count.ensures.ok c.most_parts.result c.most_parts.ensures c.in_err-maxp.field-0.0 c.in_err-maxp.ensures)

pub returns-in_err-offsets-clause-err : goal.returns-in_err-offsets-clause-err
returns-in_err-offsets-clause-err c =
    let p = err_from_is_err_and c.from_residual-in_err-offsets.result c.from_residual-in_err-offsets.ensures.1 in
    let find : List ℕ → Option (List ℕ) = table_in c.args.face.now.«data».now c.args.face.now.records.now in
    rw (p.1, p.2) (faulted find (seen c.args.source.now) c.args.own.now c.in_err-offsets.field-0.0 c.in_err-offsets.ensures.err)

pub returns-in_err-glyf-clause-err : goal.returns-in_err-glyf-clause-err
returns-in_err-glyf-clause-err c =
    let p = err_from_is_err_and c.from_residual-in_err-glyf.result c.from_residual-in_err-glyf.ensures.1 in
    rw (p.1, p.2, c.in_err-glyf.ensures.err) no_memory

pub add_outlines-requires : goal.add_outlines-requires
add_outlines-requires c = ap length c.deref.ensures.value ∙ length-boxes (seen c.args.source.now) c.args.own.now c.in_ok-boxes.boxes.items c.in_ok-boxes.ensures

pub returns-in_err-add_outlines-clause-err : goal.returns-in_err-add_outlines-clause-err
returns-in_err-add_outlines-clause-err c =
    let p = err_from_is_err_and c.from_residual-in_err-add_outlines.result c.from_residual-in_err-add_outlines.ensures.1 in
    rw (p.1, p.2, c.in_err-add_outlines.ensures.err) no_memory

pub returns-in_err-metrics-clause-err : goal.returns-in_err-metrics-clause-err
returns-in_err-metrics-clause-err c =
    let p = err_from_is_err_and c.from_residual-in_err-metrics.result c.from_residual-in_err-metrics.ensures.1 in
    let find : List ℕ → Option (List ℕ) = table_in c.args.face.now.«data».now c.args.face.now.records.now in
    rw (p.1, p.2) (faulted find (seen c.args.source.now) c.args.own.now c.in_err-metrics.field-0.0 c.in_err-metrics.ensures.err)

pub add_metrics-requires : goal.add_metrics-requires
add_metrics-requires c = ap length c.deref-2.ensures.value ∙ length-boxes (seen c.args.source.now) c.args.own.now c.in_ok-boxes.boxes.items c.in_ok-boxes.ensures

pub returns-in_err-add_metrics-clause-err : goal.returns-in_err-add_metrics-clause-err
returns-in_err-add_metrics-clause-err c =
    let p = err_from_is_err_and c.from_residual-in_err-add_metrics.result c.from_residual-in_err-add_metrics.ensures.1 in
    rw (p.1, p.2, c.in_err-add_metrics.ensures.err) no_memory

pub laid-requires-clause-pairs : goal.laid-requires-clause-pairs
laid-requires-clause-pairs c =
    let find : List ℕ → Option (List ℕ) = table_in c.args.face.now.«data».now c.args.face.now.records.now in
    pairs find (seen c.args.source.now) c.args.own.now c.in_ok-count.count c.in_ok-count.ensures.ok c.most_parts.result c.most_parts.ensures c.in_ok-count.ensures.few c.in_ok-boxes.boxes.items c.in_ok-boxes.ensures c.in_ok-maxp.maxp.items c.in_ok-maxp.ensures
    c.in_ok-offsets.offsets.items c.in_ok-offsets.ensures.ok c.in_ok-metrics.metrics.items c.in_ok-metrics.ensures.ok
    c.in_ok-glyf.glyf.items c.add_outlines.new.glyf.items c.add_outlines.new.offsets.items c.deref-3.result.now c.deref.result.now c.deref-2.result.now c.deref.ensures.value c.deref-2.ensures.value c.in_ok-glyf.ensures.ok
    c.in_ok-add_outlines.ensures.glyf c.in_ok-add_outlines.ensures.offsets (c.deref-3.ensures.value ∙ c.in_ok-add_metrics.ensures.ok) c.in_ok-add_metrics.ensures.small

pub returns-clause-ok : goal.returns-clause-ok
returns-clause-ok c =
    let find : List ℕ → Option (List ℕ) = table_in c.args.face.now.«data».now c.args.face.now.records.now in
    gave_ok (λ v. v.items) c.laid.result _ (IsMade find (seen c.args.source.now) c.args.own.now) c.laid.ensures
    (is_made find (seen c.args.source.now) c.args.own.now c.in_ok-count.count c.in_ok-count.ensures.ok c.most_parts.result c.most_parts.ensures c.in_ok-count.ensures.few c.in_ok-boxes.boxes.items c.in_ok-boxes.ensures c.in_ok-maxp.maxp.items c.in_ok-maxp.ensures
    c.in_ok-offsets.offsets.items c.in_ok-offsets.ensures.ok c.in_ok-metrics.metrics.items c.in_ok-metrics.ensures.ok
    c.in_ok-glyf.glyf.items c.add_outlines.new.glyf.items c.add_outlines.new.offsets.items c.deref-3.result.now c.deref.result.now c.deref-2.result.now c.deref.ensures.value c.deref-2.ensures.value c.in_ok-glyf.ensures.ok
    c.in_ok-add_outlines.ensures.glyf c.in_ok-add_outlines.ensures.offsets (c.deref-3.ensures.value ∙ c.in_ok-add_metrics.ensures.ok) c.in_ok-add_metrics.ensures.small)

pub returns-clause-err : goal.returns-clause-err
returns-clause-err c =
    let find : List ℕ → Option (List ℕ) = table_in c.args.face.now.«data».now c.args.face.now.records.now in
    gave_err (λ v. v.items) c.laid.result _ (λ e. IsUnmade find (seen c.args.source.now) c.args.own.now e) c.laid.ensures no_memory
    (is_unmade find (seen c.args.source.now) c.args.own.now c.in_ok-count.count c.in_ok-count.ensures.ok c.most_parts.result c.most_parts.ensures c.in_ok-count.ensures.few c.in_ok-boxes.boxes.items c.in_ok-boxes.ensures c.in_ok-maxp.maxp.items c.in_ok-maxp.ensures
    c.in_ok-offsets.offsets.items c.in_ok-offsets.ensures.ok c.in_ok-metrics.metrics.items c.in_ok-metrics.ensures.ok
    c.in_ok-glyf.glyf.items c.add_outlines.new.glyf.items c.add_outlines.new.offsets.items c.deref-3.result.now c.deref.result.now c.deref-2.result.now c.deref.ensures.value c.deref-2.ensures.value c.in_ok-glyf.ensures.ok
    c.in_ok-add_outlines.ensures.glyf c.in_ok-add_outlines.ensures.offsets (c.deref-3.ensures.value ∙ c.in_ok-add_metrics.ensures.ok) c.in_ok-add_metrics.ensures.small)
