use Rattle.std.proofs.Common.{◌≡◌, ◌≤◌, ◌++◌, drop}
use Rattle.pdf_text.specs.Strings.{depth_of, strings_from, strings_in}
use Rattle.pdf_text.proofs.strings.strings_of.Given as goal

abbrev pub invariant-loop-at : goal.invariant-loop-at
invariant-loop-at l = record {
  strings : l.strings.items ++ strings_from l.place l.start l.at (drop l.at l.text) ≡ strings_in l.text;
  depth : depth_of l.place ≤ l.at;
}
