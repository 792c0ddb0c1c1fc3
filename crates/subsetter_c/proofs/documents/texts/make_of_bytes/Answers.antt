use Rattle.std.proofs.Common.{List, ℕ, subst}
use Rattle.subsetter_c.specs.Documents.Texts.{IsTextHandedBy}
use Rattle.subsetter_c.specs.Settings.{settings_of}
use Rattle.subsetter_c.proofs.documents.texts.make_of_bytes.Goals as goal

pub returns-in-Ok-clause-no_text : goal.returns-in-Ok-clause-no_text
returns-in-Ok-clause-no_text c = λ no. absurd (no c.in-Ok.ensures.cases.1)

pub returns-in-Ok-clause-made : goal.returns-in-Ok-clause-made
returns-in-Ok-clause-made c = λ yes. subst (λ (l : List ℕ). IsTextHandedBy c.args.font.now c.args.index (settings_of c.args.coordinates.now) l c.args.options.now c.make_of_text.new.made c.make_of_text.result) c.in-Ok.ensures.cases.0 c.make_of_text.ensures

pub returns-in-Err-clause-made : goal.returns-in-Err-clause-made
returns-in-Err-clause-made c = λ yes. absurd (c.in-Err.ensures.cases.0 yes)
