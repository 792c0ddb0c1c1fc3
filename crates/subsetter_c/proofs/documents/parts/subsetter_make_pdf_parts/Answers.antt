use Rattle.subsetter_pdf_c.specs.Written.{ArePartsOf, HasNoPartsOf}
use Rattle.subsetter_c.proofs.DocumentsLaws.Parts.{parts_handed}
use Rattle.subsetter_c.proofs.documents.parts.subsetter_make_pdf_parts.Goals as goal

pub returns-clause-made : goal.returns-clause-made
returns-clause-made c = λ own. parts_handed (ArePartsOf c.args.font.now.pdf c.args.font.now.cid_to_gid_map.now c.args.numbers.now) (HasNoPartsOf c.args.font.now.pdf c.args.font.now.cid_to_gid_map.now c.args.numbers.now) c.parts_of-answer.result c.hand_parts.new.made c.hand_parts.result c.parts_of-answer.ensures.ok c.parts_of-answer.ensures.err c.hand_parts.ensures
