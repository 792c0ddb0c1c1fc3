use Rattle.std.proofs.Common.{◌≡◌, ◌++◌, map, length}
use Rattle.std.specs.Prelude.{codes}
use Rattle.pdf_text.specs.Cmaps.Blocks.{blocks}
use Rattle.pdf_text.specs.View.{mapping_row}
use Rattle.pdf_text.proofs.cmaps.to_unicode.write_blocks.Given as goal

abbrev pub invariant-loop-rest : goal.invariant-loop-rest
invariant-loop-rest l = l.text.items ++ blocks (codes "bfchar") (length l.rest) (map mapping_row l.rest) ≡ l.fn.text.items ++ blocks (codes "bfchar") (length l.mappings) (map mapping_row l.mappings)

abbrev pub decreases-loop-rest : goal.decreases-loop-rest
decreases-loop-rest l = length l.rest
