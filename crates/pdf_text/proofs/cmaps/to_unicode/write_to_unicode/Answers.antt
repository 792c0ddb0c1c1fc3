use Rattle.std.proofs.lemmas.Result.{IfOk-weaker}
use Rattle.pdf_text.specs.View.{lines_view}
use Rattle.pdf_text.proofs.CmapsLaws.CmapSteps.{read_of_text}
use Rattle.pdf_text.proofs.cmaps.to_unicode.write_to_unicode.Goals as goal

pub returns-clause-read : goal.returns-clause-read
returns-clause-read c = IfOk-weaker c.text_of.result _ _ (λ text e h. read_of_text (lines_view c.args.mappings.now) text.items e h) c.text_of.ensures.ok
