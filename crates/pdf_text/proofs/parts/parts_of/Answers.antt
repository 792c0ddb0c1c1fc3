use Rattle.std.proofs.Common.{◌∙◌}
use Rattle.pdf_text.proofs.ObjectLaws.Parts.{all_parts}
use Rattle.pdf_text.proofs.parts.parts_of.Goals as goal

pub returns-clause-ok : goal.returns-clause-ok
returns-clause-ok c =
    all_parts c.args.values c.args.numbers.now c.deref.result.now c.references_in-references.result c.write_each.result
    (c.deref.ensures.value ∙ c.in_ok-objects.ensures.ok) c.references_in-references.ensures c.write_each.ensures.ok
