use Rattle.std.proofs.Common.{◌≡◌, ◌+◌, drop}
use Rattle.text_glyphs.specs.Reading.{ignorables_in}
use Rattle.text_glyphs.proofs.reading.ignorables_in.Given as goal

abbrev pub invariant-loop-character : goal.invariant-loop-character
invariant-loop-character l = record {
  so_far : l.n ≡ l.character-index;
  rest : l.n + ignorables_in (drop l.character-index l.text) ≡ ignorables_in l.text;
}
