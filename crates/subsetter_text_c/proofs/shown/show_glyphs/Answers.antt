use Rattle.pdf_runs.specs.Shaped.{is_shaped, items_of}
use Rattle.subsetter_text_c.specs.Shown.{lists_given}
use Rattle.subsetter_text_c.proofs.ShownSteps.{one_shown, one_unshown}
use Rattle.subsetter_text_c.proofs.shown.show_glyphs.Goals as goal

pub returns-clause-ok : goal.returns-clause-ok
returns-clause-ok c =
    let cs = c.args.characters.now in
    let gs = c.args.glyphs.now in
    let d = c.args.direction in
    one_shown c.args.font c.args.choice.now d c.args.order (lists_given c.args.kept) (is_shaped d c.args.unit cs gs) (items_of d c.args.unit cs gs) c.deref.result.now c.in_ok-items.items.items c.in_ok-items.ensures.ok c.deref.ensures.value c.args.size c.show.result
    c.in_ok-items.ensures.valid c.show.ensures.ok

pub returns-clause-err : goal.returns-clause-err
returns-clause-err c =
    let cs = c.args.characters.now in
    let gs = c.args.glyphs.now in
    let d = c.args.direction in
    one_unshown c.args.font c.args.choice.now d c.args.order (lists_given c.args.kept) (is_shaped d c.args.unit cs gs) (items_of d c.args.unit cs gs) c.deref.result.now c.in_ok-items.items.items c.in_ok-items.ensures.ok c.deref.ensures.value c.show.result c.show.ensures.err
