use Rattle.std.proofs.Common.{arith}
use Rattle.pdf_runs.specs.Clusters.{clusters}
use Rattle.pdf_runs.proofs.ClusterLaws.{found_more}
use Rattle.pdf_runs.proofs.clusters.clusters_of_run.Goals as goal

pub loop-rest-preserved : goal.loop-rest-preserved
loop-rest-preserved c =
    found_more c.loop-rest.found.items c.push.new.self.items c.front-first.result c.loop-rest.rest.now c.following-after.result.now c.cluster_size-count.result (clusters c.args.items.now) (omega arith)
    c.cluster_size-count.ensures.value c.front-first.ensures c.following-after.ensures c.in_ok-push.ensures.items c.loop-rest.invariant
