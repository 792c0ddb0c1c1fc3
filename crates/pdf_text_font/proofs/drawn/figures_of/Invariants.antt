use Rattle.std.proofs.Common.{◌≡◌, ◌++◌, drop}
use Rattle.pdf_text_font.specs.Drawn.{figures_of}
use Rattle.pdf_text_font.proofs.drawn.figures_of.Given as goal

abbrev pub invariant-loop-drawing : goal.invariant-loop-drawing
invariant-loop-drawing l = l.figures.items ++ figures_of l.others (drop l.drawing-index l.drawings) ≡ figures_of l.others l.drawings
