use Rattle.std.proofs.Common.{◌≡◌, drop}
use Rattle.std.specs.Char.{is_whitespace}
use Rattle.std.specs.List.{list_all}
use Rattle.pdf_runs.specs.Words.{is_blank}
use Rattle.pdf_runs.proofs.words.is_blank.Given as goal

abbrev pub invariant-loop-character : goal.invariant-loop-character
invariant-loop-character l = list_all is_whitespace (drop l.character-index l.character-items) ≡ is_blank l.cluster
