use Rattle.std.proofs.Common.{◌≡◌, drop}
use Rattle.pdf_glyphs.specs.Frequent.{most_frequent, most_from}
use Rattle.pdf_glyphs.proofs.frequent.most_frequent.Given as goal

abbrev pub invariant-loop-column : goal.invariant-loop-column
invariant-loop-column l = most_from l.columns l.best.count l.best.column (drop l.column-index l.columns) ≡ most_frequent l.columns
