use Rattle.std.proofs.lemmas.Result.{IfOk-weaker}
use Rattle.pdf_text.specs.View.{pairs_view}
use Rattle.pdf_text.proofs.CmapsLaws.CmapSteps.{codes_of_text}
use Rattle.pdf_text.proofs.cmaps.encoding.write_encoding.Goals as goal

pub returns-clause-read : goal.returns-clause-read
returns-clause-read c = IfOk-weaker c.text_of.result _ _ (λ text e h. codes_of_text c.args.vertical (pairs_view c.args.pairs.now) text.items e h) c.text_of.ensures.ok
