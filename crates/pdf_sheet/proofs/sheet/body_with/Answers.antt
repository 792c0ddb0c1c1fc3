use Rattle.std.proofs.Common.{◌∙◌}
use Rattle.pdf_text.specs.Objects.{font_objects}
use Rattle.pdf_sheet.specs.View.{texts_view}
use Rattle.pdf_sheet.proofs.Steps.{font_within, joined_text, joined_offsets, view_after}
use Rattle.pdf_sheet.proofs.sheet.body_with.Goals as goal

pub push_objects-requires : goal.push_objects-requires
push_objects-requires c =
    font_within c.deref.result.now c.deref-2.result.now (font_objects c.args.first c.args.values) (c.deref.ensures.value ∙ c.in_ok-font.ensures.text) (c.deref-2.ensures.value ∙ c.in_ok-font.ensures.offsets)

pub returns-clause-text : goal.returns-clause-text
returns-clause-text c =
    joined_text (texts_view c.args.front.now) c.args.values c.args.first c.in_ok-body.body.text.items c.deref.result.now c.push_objects.new.body.text.items
    (c.requires ∙ view_after c.args.front.now) c.in_ok-body.ensures.text (c.deref.ensures.value ∙ c.in_ok-font.ensures.text) c.in_ok-push_objects.ensures.text

pub returns-clause-offsets : goal.returns-clause-offsets
returns-clause-offsets c =
    joined_offsets (texts_view c.args.front.now) c.args.values c.args.first c.in_ok-body.body.text.items c.in_ok-body.body.offsets.items c.deref-2.result.now c.push_objects.new.body.offsets.items
    (c.requires ∙ view_after c.args.front.now) c.in_ok-body.ensures.text c.in_ok-body.ensures.offsets (c.deref-2.ensures.value ∙ c.in_ok-font.ensures.offsets) c.in_ok-push_objects.ensures.offsets
