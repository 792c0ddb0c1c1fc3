use Rattle.subset_batch.proofs.Requests.{request_back}
use Rattle.subset_batch.proofs.laws.read_again.Goals as goal

pub returns : goal.returns
returns c = λ members w. request_back members w
