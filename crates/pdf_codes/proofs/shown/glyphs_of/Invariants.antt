use Rattle.std.proofs.Common.{◌≡◌, ◌++◌, drop}
use Rattle.pdf_codes.specs.Codes.{glyphs_of}
use Rattle.pdf_codes.specs.Shown.{uses_of}
use Rattle.pdf_codes.proofs.shown.glyphs_of.Given as goal

abbrev pub invariant-loop-entry : goal.invariant-loop-entry
invariant-loop-entry l = l.glyphs.items ++ glyphs_of (uses_of (drop l.entry-index l.shown)) ≡ glyphs_of (uses_of l.shown)
