use Rattle.std.proofs.Common.{◌≡◌, ◌++◌, map, drop}
use Rattle.pdf_text.specs.Cmaps.Blocks.{rows_text}
use Rattle.pdf_text.specs.View.{cid_row}
use Rattle.pdf_text.proofs.cmaps.encoding.write_lines.Given as goal

abbrev pub invariant-loop-pair : goal.invariant-loop-pair
invariant-loop-pair l = l.text.items ++ rows_text (map cid_row (drop l.pair-index l.pairs)) ≡ l.fn.text.items ++ rows_text (map cid_row l.pairs)
