use Rattle.std.proofs.Common.{◌≡◌, ◌++◌, drop, map}
use Rattle.pdf_codes.specs.Shown.{uses_of as uses}
use Rattle.pdf_text_font.specs.Pairs.{code_use, part_use, uses_of}
use Rattle.pdf_text_font.proofs.pairs.shown_of.Given as goal

abbrev pub invariant-loop-pair : goal.invariant-loop-pair
invariant-loop-pair l = uses l.shown.items ++ map (code_use l.count) (drop l.pair-index l.pairs) ≡ map (code_use l.count) l.pairs

abbrev pub invariant-loop-part : goal.invariant-loop-part
invariant-loop-part l = uses l.shown.items ++ map part_use (drop l.part-index l.parts) ≡ uses_of l.count l.pairs l.parts
