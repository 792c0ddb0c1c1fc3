use Rattle.std.proofs.Common.{◌≡◌, ◌++◌, length}
use Rattle.text_glyphs.specs.Own.{with_codes}
use Rattle.text_glyphs.proofs.characters.with_codes.Given as goal

abbrev pub invariant-loop-rest : goal.invariant-loop-rest
invariant-loop-rest l = l.found.items ++ with_codes l.encoding l.rest l.left ≡ with_codes l.encoding l.characters l.glyphs

abbrev pub decreases-loop-rest : goal.decreases-loop-rest
decreases-loop-rest l = length l.rest
