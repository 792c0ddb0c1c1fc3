use Rattle.pdf_runs.proofs.ClusterLaws.{clusters_begin_once}
use Rattle.pdf_runs.proofs.laws.clusters_begin_once.Goals as goal

pub returns : goal.returns
returns c = clusters_begin_once
