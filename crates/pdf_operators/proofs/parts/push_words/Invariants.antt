use Rattle.std.proofs.Common.{◌≡◌, ◌++◌, drop, flat_map}
use Rattle.pdf_runs.specs.Words.{groups}
use Rattle.pdf_operators.specs.Runs.{word_parts}
use Rattle.pdf_operators.proofs.parts.push_words.Given as goal

abbrev pub invariant-loop-word : goal.invariant-loop-word
invariant-loop-word l = groups l.parts.items ++ flat_map word_parts (groups (drop l.word-index l.words)) ≡ groups l.fn.parts.items ++ flat_map word_parts (groups l.words)
