use Rattle.std.proofs.Common.{get_or}
use Rattle.pdf_text.specs.Metrics.Columns.{no_column}
use Rattle.pdf_text.specs.declared.metrics.columns.Column.{Column}
use Rattle.pdf_glyphs.specs.Keys.{key_of}
use Rattle.pdf_glyphs.proofs.CountSteps.{best_more}
use Rattle.pdf_glyphs.proofs.frequent.most_frequent.Goals as goal

pub loop-column-preserved : goal.loop-column-preserved
loop-column-preserved c =
    let item : Column = get_or c.args.columns.now c.loop-column.column-index no_column in
    best_more c.args.columns.now c.loop-column.column-index _ no_column c.loop-column.best c.better-best.result _ c.loop-column-test.true (c.in_ok-counts.ensures.ok (key_of item)) c.better-best.ensures c.loop-column.invariant
