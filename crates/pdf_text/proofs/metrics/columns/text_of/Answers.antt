use Rattle.std.proofs.Common.{ap, sym, ◌∙◌}
use Rattle.std.proofs.lemmas.Result.{IfOk-weaker}
use Rattle.pdf_text.specs.View.{parts_view}
use Rattle.pdf_text.proofs.MetricsLaws.ColumnLaws.Steps.{lists_written}
use Rattle.pdf_text.proofs.metrics.columns.text_of.Goals as goal

pub returns-clause-ok : goal.returns-clause-ok
returns-clause-ok c =
    IfOk-weaker c.text_of_parts-2.result _ _
    (λ text e.
    lists_written c.args.default c.args.columns.now c.deref-2.result.now c.deref-4.result.now c.deref.result.now c.deref-3.result.now text.items
    (c.deref.ensures.value ∙ c.in_ok-marks.ensures.ok) (ap parts_view c.deref-2.ensures.value ∙ c.in_ok-parts.ensures.ok) (sym c.has_room.ensures ∙ c.if-has_room.false)
    (c.deref-3.ensures.value ∙ c.in_ok-marks-2.ensures.ok) (ap parts_view c.deref-4.ensures.value ∙ c.in_ok-parts-2.ensures.ok) e)
    c.text_of_parts-2.ensures.ok
