use Rattle.std.proofs.Common.{◌≡◌, ℕ, List, length, map, sym, ap, ◌∙◌}
use Rattle.subsetter_pdf_c.specs.Entries.{are_scalars}
use Rattle.subsetter_text_c.specs.Items.{are_items, labelled_in}
use Rattle.subsetter_text_c.specs.Shown.{are_one, lists_given}
use Rattle.subsetter_text_c.proofs.ShownSteps.{both, one_shown, one_unshown}
use Rattle.subsetter_text_c.proofs.shown.show_items.Goals as goal

pub returns-clause-ok : goal.returns-clause-ok
returns-clause-ok c =
    let text = c.args.text.now in
    let is = c.args.items.now in
    let same : c.deref.result.now ≡ text = c.deref.ensures.value ∙ c.in_ok-characters.ensures.ok in
    one_shown c.args.font c.args.choice.now c.args.direction c.args.order (lists_given c.args.kept) (are_one text is) (map (labelled_in text) is) c.deref-2.result.now c.in_ok-items.items.items
    (c.in_ok-items.ensures.ok ∙ ap (λ (l : List ℕ). map (labelled_in l) is) same) c.deref-2.ensures.value c.args.size c.show.result
    (both (are_scalars text) (are_items (length text) is) c.in_ok-characters.ensures.scalars (sym (ap (λ (l : List ℕ). are_items (length l) is) same) ∙ c.in_ok-items.ensures.valid))
    c.show.ensures.ok

pub returns-clause-err : goal.returns-clause-err
returns-clause-err c =
    let text = c.args.text.now in
    let is = c.args.items.now in
    let same : c.deref.result.now ≡ text = c.deref.ensures.value ∙ c.in_ok-characters.ensures.ok in
    one_unshown c.args.font c.args.choice.now c.args.direction c.args.order (lists_given c.args.kept) (are_one text is) (map (labelled_in text) is) c.deref-2.result.now c.in_ok-items.items.items
    (c.in_ok-items.ensures.ok ∙ ap (λ (l : List ℕ). map (labelled_in l) is) same) c.deref-2.ensures.value c.show.result c.show.ensures.err
