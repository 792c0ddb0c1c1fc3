use Rattle.std.proofs.Common.{◌++◌}
use Rattle.pdf_runs.specs.Items.{visual}
use Rattle.pdf_figures.specs.Figures.{cut}
use Rattle.pdf_figures.specs.View.{cut_seen, figures_seen}
use Rattle.pdf_figures.proofs.WideCounts.{IsCut}
use Rattle.pdf_figures.proofs.cutting.push_cut.Given as goal

abbrev pub invariant-loop-place : goal.invariant-loop-place
invariant-loop-place l =
    IsCut (visual l.direction l.share) l.place (figures_seen l.figures.items) (cut_seen l.rest) l.width l.more (figures_seen l.fn.figures.items ++ cut (cut_seen l.fn.whole) l.fn.width (visual l.direction l.share))
