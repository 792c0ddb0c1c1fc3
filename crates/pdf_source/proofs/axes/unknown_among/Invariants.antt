use Rattle.std.proofs.Common.{◌≡◌, [], ◌++◌, drop, take}
use Rattle.pdf_source.specs.UnknownAxes.{unknown_after}
use Rattle.pdf_source.proofs.axes.unknown_among.Given as goal

abbrev pub invariant-loop-place : goal.invariant-loop-place
invariant-loop-place l = l.unknown.items ++ unknown_after l.axes (take l.place l.settings) (drop l.place l.settings) ≡ unknown_after l.axes [] l.settings
