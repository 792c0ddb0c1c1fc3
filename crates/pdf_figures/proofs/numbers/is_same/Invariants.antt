use Rattle.std.proofs.Common.{◌≡◌, take}
use Rattle.pdf_figures.proofs.numbers.is_same.Given as goal

abbrev pub invariant-loop-place : goal.invariant-loop-place
invariant-loop-place l = take l.place l.one.parts.items ≡ take l.place l.other.parts.items
