-- Figures that are put after others.
use Rattle.std.proofs.Common.{◌≡◌, List, [], ◌∷◌, ◌++◌, ap, ◌∙◌}
use Rattle.std.proofs.lemmas.List.{map-append}
use Rattle.pdf_figures.specs.declared.ink.Figure.{Figure}
use Rattle.pdf_figures.specs.Figures.{Figured}
use Rattle.pdf_figures.specs.View.{figure_seen, figures_seen}

pub seen_put : (old new : List Figure) (f : Figure) (g : Figured) → new ≡ old ++ f ∷ [] → figure_seen f ≡ g → figures_seen new ≡ figures_seen old ++ g ∷ []
seen_put old new f g put same = ap figures_seen put ∙ map-append figure_seen old (f ∷ []) ∙ ap (λ (h : Figured). figures_seen old ++ h ∷ []) same
