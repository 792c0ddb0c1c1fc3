use Rattle.std.proofs.Common.{◌≡◌, ◌++◌, drop}
use Rattle.pdf_text_font.specs.Pairs.{values_of}
use Rattle.pdf_text_font.proofs.pairs.values_of.Given as goal

abbrev pub invariant-loop-drawing : goal.invariant-loop-drawing
invariant-loop-drawing g l = l.by_code.items ++ values_of l.none l.values l.owns (drop l.drawing-index l.drawings) ≡ values_of l.none l.values l.owns l.drawings
