use Rattle.pdf_text.proofs.MetricsLaws.WidthLaws.Steps.{parts_begun}
use Rattle.pdf_text.proofs.metrics.arrays.write_parts.Goals as goal

pub loop-part-init : goal.loop-part-init
loop-part-init c = parts_begun _ c.args.text.now.items c.write_part.new.text.items c.args.parts.now c.in-len1-up.len_at_least c.in_ok-write_part.ensures.ok
