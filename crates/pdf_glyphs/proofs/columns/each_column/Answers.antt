use Rattle.std.proofs.Common.{◌∙◌, List, Result, ℤ, ap, arith}
use Rattle.std.specs.Option.{option_map}
use Rattle.subsetter_base.specs.declared.error.Error.{Error}
use Rattle.pdf_glyphs.specs.HeightVariation.{known_at, variation_view}
use Rattle.pdf_glyphs.specs.Vertical.{vertical_view}
use Rattle.pdf_glyphs.proofs.ColumnSteps.{columns_done}
use Rattle.pdf_glyphs.proofs.DeltaSteps.{height_known, origin_known}
use Rattle.pdf_glyphs.proofs.columns.each_column.Goals as goal

pub returns-clause-ok : goal.returns-clause-ok
returns-clause-ok c =
    columns_done (vertical_view c.args.tables) (option_map variation_view c.args.variation) c.args.tops.now c.args.glyphs.now c.args.widths.now c.loop-index.index c.loop-index.columns.items _ (omega arith) c.loop-index.invariant.so_far

pub metric_at-column-requires-clause-height : goal.metric_at-column-requires-clause-height
metric_at-column-requires-clause-height c =
    height_known (option_map variation_view c.args.variation) c.args.glyphs.now c.args.deltas.now c.loop-index.index c.known_at.result c.requires.deltas (omega arith) (c.known_at.ensures ∙ ap (λ (l : List (Result ℤ Error)). known_at l c.loop-index.index) c.deref.ensures.value)

pub metric_at-column-requires-clause-shift : goal.metric_at-column-requires-clause-shift
metric_at-column-requires-clause-shift c =
    origin_known (option_map variation_view c.args.variation) c.args.glyphs.now c.args.deltas.now c.loop-index.index c.known_at-in-loop-index.result c.requires.deltas (omega arith) (c.known_at-in-loop-index.ensures ∙ ap (λ (l : List (Result ℤ Error)). known_at l c.loop-index.index) c.deref-in-loop-index.ensures.value)
