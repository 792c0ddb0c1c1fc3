use Rattle.std.proofs.Common.{rules}
use Rattle.std.specs.Prelude.{nat_eq}
use Rattle.std.specs.HashMap.{get}
use Rattle.pdf_source.proofs.Counting.{none_counted}
use Rattle.pdf_source.proofs.widths.Counts.new.Goals as goal

pub returns-clause-ok : goal.returns-clause-ok
returns-clause-ok c = λ w. none_counted c.in_ok-vec.field-0.items 2048 w (get nat_eq c.new.result) (search rules) (search rules)
