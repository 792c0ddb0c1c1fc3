use Rattle.std.proofs.Common.{◌+◌, length, arith}
use Rattle.pdf_text.specs.Metrics.Arrays.{lists_from}
use Rattle.pdf_text.specs.View.{parts_view}
use Rattle.pdf_text.proofs.MetricsLaws.WidthLaws.Lists.{one_more_list}
use Rattle.pdf_text.proofs.metrics.arrays.lists_of.Goals as goal

pub loop-first-preserved : goal.loop-first-preserved
loop-first-preserved c =
    let widths = c.args.widths.now in
    record {
      so_far =
          one_more_list c.args.most c.loop-first.first (c.loop-first.first + c.min.result) (parts_view c.loop-first.parts.items) (parts_view c.push_part.new.parts.items)
          (lists_from c.args.most (length widths) 0 widths) widths c.requires (omega arith) (omega (arith, c.min.ensures)) c.in_ok-push_part.ensures.ok c.loop-first.invariant.so_far;
      within = omega (arith, c.min.ensures);
    }
