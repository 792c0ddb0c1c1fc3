use Rattle.pdf_runs.proofs.ClusterLaws.{clusters_are_the_run}
use Rattle.pdf_runs.proofs.laws.clusters_are_the_run.Goals as goal

pub returns : goal.returns
returns c = clusters_are_the_run
