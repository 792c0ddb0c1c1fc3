use Rattle.std.proofs.Common.{◌≡◌, ◌++◌, drop, map}
use Rattle.pdf_codes.specs.Codes.{glyphs_of, used_of}
use Rattle.pdf_codes.proofs.codes.glyphs_in.Given as goal

abbrev pub invariant-loop-entry : goal.invariant-loop-entry
invariant-loop-entry l = l.glyphs.items ++ glyphs_of (map used_of (drop l.entry-index l.entries)) ≡ glyphs_of (map used_of l.entries)
