use Rattle.std.proofs.Common.{◌≡◌, take}
use Rattle.std.specs.HashMap.{get}
use Rattle.std.specs.Option.{unwrap_or}
use Rattle.pdf_glyphs.specs.declared.frequent.Key.{Key}
use Rattle.pdf_glyphs.specs.Frequent.{count}
use Rattle.pdf_glyphs.specs.Keys.{same_key}
use Rattle.pdf_glyphs.proofs.frequent.counts_of.Given as goal

abbrev pub invariant-loop-column : goal.invariant-loop-column
invariant-loop-column l = (q : Key) → unwrap_or (get same_key l.counts q) 0 ≡ count (take l.column-index l.columns) q.y q.advance
