use Rattle.pdf_names.proofs.Shortest.{shortest}
use Rattle.pdf_names.proofs.laws.shortest_is_taken.Goals as goal

pub returns : goal.returns
returns c = shortest
