use Rattle.subsetter_base.proofs.ByteLemmas.{stays_inside}
use Rattle.subsetter_base.proofs.read.Reader.read.Goals as goal

pub returns-clause-inside : goal.returns-clause-inside
returns-clause-inside g c = λ h. stays_inside c.args.self.now c.read.new.r g.T.Readable.SIZE g.T.Readable.value_of c.read.result c.read.ensures.value c.read.ensures.moves h
