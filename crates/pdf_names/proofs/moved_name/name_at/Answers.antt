use Rattle.std.specs.Option.{option_copied}
use Rattle.std.proofs.lemmas.Result.{IfOk-weaker}
use Rattle.pdf_values.specs.Movement.{movement_view}
use Rattle.pdf_names.proofs.ShortNames.{named}
use Rattle.pdf_names.proofs.moved_name.name_at.Goals as goal

pub returns-clause-short : goal.returns-clause-short
returns-clause-short c = IfOk-weaker c.name_of.result _ _ (λ text e. named (option_copied c.args.name) (option_copied c.args.fvar) (movement_view c.args.movement) (option_copied c.args.cff) text.items e) c.name_of.ensures.ok
