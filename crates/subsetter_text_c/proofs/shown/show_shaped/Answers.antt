use Rattle.subsetter_text_c.specs.Shown.{lists_given}
use Rattle.subsetter_text_c.proofs.ShownSteps.{text_unshown}
use Rattle.subsetter_text_c.proofs.shown.show_shaped.Goals as goal

pub returns-clause-err : goal.returns-clause-err
returns-clause-err c =
    text_unshown c.args.font c.args.choice.now c.args.direction c.args.order (lists_given c.args.kept) c.args.units c.args.glyphs.now c.deref.result.now c.in_ok-characters.characters.items c.unit_of.result c.show_glyphs.result
    c.in_ok-characters.ensures.ok c.deref.ensures.value c.unit_of.ensures c.show_glyphs.ensures.err
