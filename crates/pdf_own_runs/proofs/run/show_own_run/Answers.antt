use Rattle.pdf_own_runs.proofs.WithOwn.{run_shown}
use Rattle.pdf_own_runs.proofs.run.show_own_run.Goals as goal

pub returns-clause-shown : goal.returns-clause-shown
returns-clause-shown c =
    run_shown _ c.show_items.result c.args.font c.args.choice.now c.args.direction c.args.order c.args.size c.args.pairs.now c.show_items.new.pairs _ c.deref.result.now c.args.items.now _ c.deref-2.result.now c.in_ok-count.count
    c.in_ok-count.ensures.ok c.deref.ensures.value c.deref-2.ensures.value c.in_ok-count.ensures.run c.in_ok-figures.ensures.ok c.show_items.ensures.shown
