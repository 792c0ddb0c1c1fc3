use Rattle.std.proofs.Common.{◌≡◌, ◌++◌, map, length}
use Rattle.std.specs.Prelude.{codes}
use Rattle.pdf_text.specs.Cmaps.Blocks.{blocks}
use Rattle.pdf_text.specs.View.{cid_row}
use Rattle.pdf_text.proofs.cmaps.encoding.write_blocks.Given as goal

abbrev pub invariant-loop-rest : goal.invariant-loop-rest
invariant-loop-rest l = l.text.items ++ blocks (codes "cidchar") (length l.rest) (map cid_row l.rest) ≡ l.fn.text.items ++ blocks (codes "cidchar") (length l.pairs) (map cid_row l.pairs)

abbrev pub decreases-loop-rest : goal.decreases-loop-rest
decreases-loop-rest l = length l.rest
