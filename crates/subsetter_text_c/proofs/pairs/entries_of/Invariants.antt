use Rattle.std.proofs.Common.{◌≡◌, ◌++◌, drop, map}
use Rattle.subsetter_text_c.specs.Pairs.{piece_in, piece_of}
use Rattle.subsetter_text_c.proofs.pairs.entries_of.Given as goal

abbrev pub invariant-loop-pair : goal.invariant-loop-pair
invariant-loop-pair l = map piece_in l.entries.items ++ map piece_of l.pair-iterator ≡ map piece_of (drop 1 l.pairs)
