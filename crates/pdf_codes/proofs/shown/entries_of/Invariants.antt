use Rattle.std.proofs.Common.{◌≡◌, ◌++◌, drop, map}
use Rattle.pdf_codes.specs.Codes.{used_of}
use Rattle.pdf_codes.specs.Shown.{all_units, uses_of}
use Rattle.pdf_codes.proofs.shown.entries_of.Given as goal

abbrev pub invariant-loop-entry : goal.invariant-loop-entry
invariant-loop-entry l = record {
  so_far : map used_of l.entries.items ++ uses_of (drop l.entry-index l.shown) ≡ uses_of l.shown;
  left : l.rest ≡ all_units (uses_of (drop l.entry-index l.shown));
}
