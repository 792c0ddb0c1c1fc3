use Rattle.std.proofs.Common.{◌≡◌, ℕ, ◌+◌, ◌++◌, List, length, map, take, drop, ap, ◌∙◌}
use Rattle.pdf_runs.specs.Items.{in_reading, visual}
use Rattle.pdf_runs.specs.Shares.{first_count}
use Rattle.pdf_runs.proofs.PieceSteps.{on_ok_then}
use Rattle.pdf_runs.specs.declared.items.Item.{Item}
use Rattle.pdf_figures.specs.Figures.{Figured, at_place, beside_unless, cut_one, first_share}
use Rattle.pdf_figures.specs.View.{figure_seen, figures_seen}
use Rattle.pdf_figures.proofs.Placing.{at_cut, three_put}
use Rattle.pdf_figures.proofs.cluster.push_divided.Goals as goal

pub returns-clause-ok : goal.returns-clause-ok
returns-clause-ok c =
    let is : List Item = c.args.items.now in
    let k : ℕ = c.in_reading-first.result in
    let f : Item → Figured = beside_unless c.args.as_they_are c.args.choice.now in
    let share : List ℕ = c.first_share-share.result.now in
    let of_share : visual c.args.direction share ≡ first_share c.args.direction (length is) is =
    ap (visual c.args.direction) (c.first_share-share.ensures ∙ ap (λ (t : List ℕ). take (first_count (length is) t) t) c.text_of-text.ensures) in
    let made : List Figured = cut_one c.args.choice.now (visual c.args.direction share) (figure_seen c.in_ok-figure.figure) in
    on_ok_then c.push_each-2.result c.push_each-2.ensures.ok
    (λ d. three_put (figures_seen c.args.figures.now.items) (figures_seen c.push_each.new.figures.items) (figures_seen c.push_cut_one.new.figures.items) (figures_seen c.push_each-2.new.figures.items)
    (map f (take k is)) made (map f (drop (k + 1) is)) (at_place (in_reading c.args.direction (length is) 0) (cut_one c.args.choice.now (first_share c.args.direction (length is) is)) (map f is))
    (c.in_ok-push_each.ensures.ok ∙ ap (λ (l : List Item). figures_seen c.args.figures.now.items ++ map f l) c.front-before.ensures) c.in_ok-push_cut_one.ensures.ok (d ∙ ap (λ (l : List Item). figures_seen c.push_cut_one.new.figures.items ++ map f l) c.after-others.ensures)
    (at_cut c.args.choice.now (visual c.args.direction share) (first_share c.args.direction (length is) is) f is (in_reading c.args.direction (length is) 0) k _ (figure_seen c.in_ok-figure.figure) c.in_reading-first.ensures.within c.in_reading-first.ensures.value of_share c.in_ok-figure.ensures.ok))
