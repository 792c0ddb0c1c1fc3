use Rattle.std.proofs.Common.{ap, ◌∙◌}
use Rattle.pdf_codes.specs.Shown.{uses_of as uses}
use Rattle.pdf_text_font.specs.Pairs.{uses_of}
use Rattle.pdf_text_font.proofs.CallSteps.{all_made, all_refused}
use Rattle.pdf_text_font.proofs.call.subset_of.Goals as goal

pub returns-in-Ok-clause-ok : goal.returns-in-Ok-clause-ok
returns-in-Ok-clause-ok c =
    all_made c.args.«data».now c.args.index c.args.coordinates.now c.args.options.now c.subset_options.result (uses_of c.args.count c.args.pairs.now c.args.parts.now) (uses c.deref.result.now) c.subset_options.ensures (ap uses c.deref.ensures.value ∙ c.in-Ok.ensures.ok) c.pdf_font.result
    c.pdf_font.ensures.ok

pub returns-in-Ok-clause-err : goal.returns-in-Ok-clause-err
returns-in-Ok-clause-err c =
    all_refused c.args.«data».now c.args.index c.args.coordinates.now c.args.options.now c.subset_options.result (uses_of c.args.count c.args.pairs.now c.args.parts.now) (uses c.deref.result.now) c.subset_options.ensures (ap uses c.deref.ensures.value ∙ c.in-Ok.ensures.ok) c.pdf_font.result
    c.pdf_font.ensures.err
