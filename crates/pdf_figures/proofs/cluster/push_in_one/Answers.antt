use Rattle.std.proofs.Common.{◌≡◌, ℕ, ◌∷◌, [], ◌++◌, Bool, cond, List, map, take, sym, ap, ◌∙◌}
use Rattle.pdf_runs.specs.Items.{visual}
use Rattle.pdf_runs.specs.Shares.{first_count}
use Rattle.pdf_runs.proofs.PieceSteps.{on_ok_then}
use Rattle.pdf_figures.specs.Figures.{Figured, cut_one, divided, first_share, plain, whole}
use Rattle.pdf_figures.specs.View.{figure_seen, figures_seen}
use Rattle.pdf_figures.proofs.Placing.{one_divided, whole_is}
use Rattle.pdf_figures.proofs.cluster.push_in_one.Goals as goal

pub returns-in-Some-clause-ok : goal.returns-in-Some-clause-ok
returns-in-Some-clause-ok c =
    let is = c.args.items.now in
    let d = c.args.direction in
    let share : List ℕ = c.first_share-share.result.now in
    let of_share : visual d share ≡ first_share d 1 is = ap (visual d) (c.first_share-share.ensures ∙ ap (λ (t : List ℕ). take (first_count 1 t) t) c.text_of.ensures) in
    let found = rw c.in-Some.is at c.in_ok-own.ensures.some in
    let w : Figured = whole c.args.choice.now is in
    on_ok_then c.push_cut_one.result c.push_cut_one.ensures.ok
    (λ put.
    put
    ∙ ap (λ (l : List Figured). figures_seen c.args.figures.now.items ++ l)
    (ap (λ (t : List ℕ). cut_one c.args.choice.now t (figure_seen c.in_one-figure.result)) of_share
    ∙ ap (cut_one c.args.choice.now (first_share d 1 is)) (c.in_one-figure.ensures ∙ whole_is c.args.choice.now is c.in-Some.own found.0 found.1)
    ∙ sym (one_divided d c.args.choice.now is w)
    ∙ sym (ap (λ (b : Bool). divided d c.args.choice.now is (cond b (w ∷ []) (map plain is))) found.0)))
