use Rattle.std.proofs.Common.{◌≡◌, ◌++◌, drop}
use Rattle.pdf_codes.specs.Shown.{all_units, uses_of}
use Rattle.pdf_codes.proofs.shown.units_of_all.Given as goal

abbrev pub invariant-loop-entry : goal.invariant-loop-entry
invariant-loop-entry l = l.units.items ++ all_units (uses_of (drop l.entry-index l.shown)) ≡ all_units (uses_of l.shown)
