use Rattle.std.proofs.Common.{◌≡◌, drop}
use Rattle.pdf_codes.specs.Shown.{has_long_text, uses_of}
use Rattle.pdf_codes.proofs.shown.has_long_text.Given as goal

abbrev pub invariant-loop-entry : goal.invariant-loop-entry
invariant-loop-entry l = has_long_text (uses_of (drop l.entry-index l.shown)) ≡ has_long_text (uses_of l.shown)
