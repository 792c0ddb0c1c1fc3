use Rattle.std.proofs.Common.{◌≡◌, ◌++◌, map, drop}
use Rattle.pdf_text.specs.Cmaps.Blocks.{rows_text}
use Rattle.pdf_text.specs.View.{mapping_row}
use Rattle.pdf_text.proofs.cmaps.to_unicode.write_lines.Given as goal

abbrev pub invariant-loop-mapping : goal.invariant-loop-mapping
invariant-loop-mapping l = l.text.items ++ rows_text (map mapping_row (drop l.mapping-index l.mappings)) ≡ l.fn.text.items ++ rows_text (map mapping_row l.mappings)
