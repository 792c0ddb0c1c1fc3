use Rattle.std.specs.Option.{option_copied}
use Rattle.std.proofs.lemmas.Result.{IfOk-weaker}
use Rattle.pdf_values.proofs.Characters.{named}
use Rattle.pdf_values.proofs.naming.postscript_name.Goals as goal

pub returns-clause-characters : goal.returns-clause-characters
returns-clause-characters c = IfOk-weaker c.name_of.result _ _ (λ text e. named (option_copied c.args.name) (option_copied c.args.cff) text.items e) c.name_of.ensures.ok
