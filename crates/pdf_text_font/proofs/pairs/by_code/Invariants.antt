use Rattle.std.proofs.Common.{◌≡◌, ◌++◌}
use Rattle.pdf_text_font.specs.Pairs.{by_code}
use Rattle.pdf_text_font.proofs.pairs.by_code.Given as goal

abbrev pub invariant-loop-pair : goal.invariant-loop-pair
invariant-loop-pair l = l.coded.items ++ l.pair-iterator ≡ by_code l.pairs
