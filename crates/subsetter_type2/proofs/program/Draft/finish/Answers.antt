use Rattle.subsetter_type2.proofs.ProgramLemmas.{all_bytes}
use Rattle.subsetter_type2.proofs.program.Draft.finish.Goals as goal

pub returns : goal.returns
returns c = rw (← c.self.view_is) (all_bytes c.self.inside.program _ c.self.inside.operands c.self.invariant)
