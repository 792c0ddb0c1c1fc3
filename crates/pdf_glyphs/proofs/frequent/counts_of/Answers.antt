use Rattle.std.proofs.Common.{arith}
use Rattle.pdf_text.specs.Metrics.Columns.{no_column}
use Rattle.pdf_glyphs.proofs.CountSteps.{count_few, count_more}
use Rattle.pdf_glyphs.proofs.frequent.counts_of.Goals as goal

pub count_one-requires : goal.count_one-requires
count_one-requires c =
    omega (arith, c.loop-column.invariant c.key_of.result, count_few c.args.columns.now c.loop-column.column-index c.key_of.result.y c.key_of.result.advance c.requires)

pub loop-column-preserved : goal.loop-column-preserved
loop-column-preserved c = λ q. count_more c.args.columns.now c.loop-column.column-index no_column c.key_of.result q _ _ c.loop-column-test.true c.key_of.ensures (c.in_ok-count_one.ensures.more q) (c.loop-column.invariant q)
