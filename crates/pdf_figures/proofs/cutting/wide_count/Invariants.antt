use Rattle.std.proofs.Common.{◌≡◌, ◌+◌, ◌≤◌, drop}
use Rattle.pdf_figures.specs.Figures.{wide_count}
use Rattle.pdf_figures.proofs.cutting.wide_count.Given as goal

abbrev pub invariant-loop-character : goal.invariant-loop-character
invariant-loop-character l = record {
  count : l.count + wide_count (drop l.character-index l.share) ≡ wide_count l.share;
  bound : l.count ≤ l.character-index;
}
