use Rattle.std.proofs.Common.{◌∙◌}
use Rattle.pdf_text.proofs.ObjectLaws.At.{answer_text, answer_offsets, answer_at}
use Rattle.pdf_text.proofs.objects.write_objects.Goals as goal

pub returns-clause-text : goal.returns-clause-text
returns-clause-text c = answer_text c.args.first c.args.values c.references_from.result c.deref.result.now c.write_all.result c.references_from.ensures (c.deref.ensures.value ∙ c.in_ok-objects.ensures.ok) c.write_all.ensures.text

pub returns-clause-offsets : goal.returns-clause-offsets
returns-clause-offsets c = answer_offsets c.args.first c.args.values c.references_from.result c.deref.result.now c.write_all.result c.references_from.ensures (c.deref.ensures.value ∙ c.in_ok-objects.ensures.ok) c.write_all.ensures.offsets

pub returns-clause-at : goal.returns-clause-at
returns-clause-at c = answer_at c.args.first c.args.values c.references_from.result c.deref.result.now c.write_all.result c.references_from.ensures (c.deref.ensures.value ∙ c.in_ok-objects.ensures.ok) c.write_all.ensures.text c.write_all.ensures.offsets
