use Rattle.std.proofs.lemmas.Result.{IfOk-weaker}
use Rattle.pdf_text.specs.View.{pairs_view}
use Rattle.pdf_text.proofs.CmapsLaws.NamedSteps.{named_codes_of_text}
use Rattle.pdf_text.proofs.cmaps.named.write_named_encoding.Goals as goal

pub returns-clause-read : goal.returns-clause-read
returns-clause-read c = IfOk-weaker c.cmap_of.result _ _ (λ m e h. named_codes_of_text c.args.vertical (pairs_view c.args.pairs.now) m.text.items e h) c.cmap_of.ensures.text
