use Rattle.std.proofs.Common.{[]}
use Rattle.subsetter_base.specs.Texts.{views}
use Rattle.pdf_codes.proofs.CmapsLaws.JoinerSteps.{joiner_put}
use Rattle.pdf_codes.proofs.cmaps.texts.put_joiner.Goals as goal

pub returns-clause-put : goal.returns-clause-put
returns-clause-put c = λ k.
    joiner_put (views c.args.texts.now.items) (views c.put.new.texts.items) c.args.code c.joiner.result.now k c.joiner.ensures (c.put.ensures.put k [])
