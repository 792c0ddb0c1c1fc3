use Rattle.std.proofs.Common.{arith}
use Rattle.pdf_runs.proofs.ShapedLaws.{rise_is, starts_all}
use Rattle.pdf_runs.proofs.shaped.starts_of.Goals as goal

pub returns-clause-rise : goal.returns-clause-rise
returns-clause-rise c =
    rise_is c.args.unit c.args.text.now c.loop-character.found.items
    (starts_all c.args.unit c.args.text.now c.loop-character.found.items c.loop-character.character-index c.loop-character.at (omega arith) c.loop-character.invariant.so_far)
