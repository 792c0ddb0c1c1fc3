use Rattle.std.proofs.Common.{rules, ◌≡◌, true, length}
use Rattle.pdf_runs.specs.Items.{is_run}
use Rattle.subset_pdf.proofs.Lines.{unshown_by}
use Rattle.subset_pdf.proofs.line.line_of.Goals as goal

pub returns-in-Err-clause-err : goal.returns-in-Err-clause-err
returns-in-Err-clause-err c =
    let run : is_run c.args.direction (length c.args.font.metrics.now) c.args.items.now ≡ true = search rules in
    unshown_by c.args.font c.args.direction c.args.items.now c.in_ok-pairs.pairs c.show_run.new.pairs c.in-Err.error c.named.result c.named.ensures run c.in_ok-pairs.ensures.ok c.in-Err.ensures.err
