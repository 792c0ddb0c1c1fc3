use Rattle.std.proofs.Common.{◌+◌, List, ℕ, sym, subst}
use Rattle.subsetter_cff2.specs.RegionRuns.{AreRuns}
use Rattle.subsetter_cff2.proofs.RunLaws.{none_yet, one_more_run}
use Rattle.subsetter_cff2.proofs.region_runs.region_runs.Goals as goal

pub loop-left-init : goal.loop-left-init
loop-left-init c = subst (λ (l : List ℕ). AreRuns c.args.bound c.args.bytes.now l 0) (sym c.in_ok-runs.ensures.items) (none_yet c.args.bound c.args.bytes.now)

pub loop-left-preserved : goal.loop-left-preserved
loop-left-preserved c =
    subst (λ (l : List ℕ). AreRuns c.args.bound c.args.bytes.now l (c.loop-left.left + 1)) (sym c.in_ok-push.ensures.items)
    (one_more_run c.args.bound c.args.bytes.now c.loop-left.runs.items c.loop-left.left c.next_run-run.result c.loop-left.invariant c.next_run-run.ensures)
