use Rattle.std.proofs.Common.{refl, ◌∙◌}
use Rattle.pdf_operators.specs.declared.places.Font.{Font}
use Rattle.subset_pdf.specs.Line.{IsRunFont}
use Rattle.text_metrics.specs.Metrics.{metrics_seen}
use Rattle.subset_pdf.proofs.Lines.{line_unmade}
use Rattle.subset_pdf.proofs.line.line_for.Goals as goal

pub returns-clause-err : goal.returns-clause-err
returns-clause-err c =
    let font : Font = record { units = 1000; metrics = c.font-found.result.metrics; inked = c.font-found.result.inked } in
    let is : IsRunFont c.args.data.now c.args.request.now font = record { metrics = metrics_seen c.in_ok-metrics.metrics; read = c.in_ok-metrics.ensures; units = refl; metrics_are = c.font-found.ensures.metrics; inked = c.font-found.ensures.inked } in
    line_unmade c.args.data.now c.args.request.now c.args.shown.now font c.direction_of.result c.deref.result.now c.line_of.result is c.direction_of.ensures (c.deref.ensures.value ∙ c.in_ok-items.ensures.ok) c.line_of.ensures.err
