use Rattle.std.proofs.Common.{◌≡◌, ◌++◌, drop, map}
use Rattle.subsetter_text_c.specs.Pairs.{piece_in}
use Rattle.subsetter_text_c.proofs.pairs.pieces_in.Given as goal

abbrev pub invariant-loop-entry : goal.invariant-loop-entry
invariant-loop-entry l = l.pieces.items ++ map piece_in (drop l.entry-index l.entries) ≡ map piece_in l.entries
