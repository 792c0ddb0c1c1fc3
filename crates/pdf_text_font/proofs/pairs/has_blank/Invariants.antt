use Rattle.std.proofs.Common.{◌≡◌, drop}
use Rattle.pdf_text_font.specs.Pairs.{has_blank}
use Rattle.pdf_text_font.proofs.pairs.has_blank.Given as goal

abbrev pub invariant-loop-drawing : goal.invariant-loop-drawing
invariant-loop-drawing l = has_blank (drop l.drawing-index l.drawings) ≡ has_blank l.drawings
