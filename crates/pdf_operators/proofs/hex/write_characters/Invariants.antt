use Rattle.std.proofs.Common.{◌≡◌, ◌<◌, ◌++◌, drop}
use Rattle.std.specs.Prelude.{All}
use Rattle.pdf_text.specs.Cmaps.Cmap.{words}
use Rattle.pdf_operators.specs.Operators.{units_of}
use Rattle.pdf_operators.proofs.hex.write_characters.Given as goal

abbrev pub invariant-loop-character : goal.invariant-loop-character
invariant-loop-character l = record {
  so_far : l.text.items ++ words (units_of (drop l.character-index l.characters)) ≡ l.fn.text.items ++ words (units_of l.characters);
  seen : All (λ c. c < 1114112) (drop l.character-index l.characters) → All (λ c. c < 1114112) l.characters;
}
