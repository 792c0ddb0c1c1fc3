use Rattle.std.proofs.Common.{◌≡◌, ◌++◌, drop, map}
use Rattle.text_glyphs.specs.Own.{code_or_zero}
use Rattle.text_glyphs.proofs.characters.codes_of.Given as goal

abbrev pub invariant-loop-character : goal.invariant-loop-character
invariant-loop-character l = l.codes.items ++ map (code_or_zero l.encoding) (drop l.character-index l.characters) ≡ map (code_or_zero l.encoding) l.characters
