use Rattle.std.proofs.Common.{◌≡◌, drop}
use Rattle.pdf_text_font.specs.Drawn.{are_still}
use Rattle.pdf_text_font.proofs.drawn.are_still.Given as goal

abbrev pub invariant-loop-other : goal.invariant-loop-other
invariant-loop-other l = are_still (drop l.other-index l.others) ≡ are_still l.others
