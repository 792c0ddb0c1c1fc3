use Rattle.std.proofs.Common.{arith}
use Rattle.subsetter_cffdata.specs.Views.{number_of}
use Rattle.subsetter_cff2.specs.PrivateDicts.Blend.{in_parts}
use Rattle.subsetter_cff2.proofs.Lists2.{filled_by}
use Rattle.subsetter_cff2.proofs.private_dicts.stack.fill_parts.Goals as goal

pub returns-clause-value : goal.returns-clause-value
returns-clause-value c = filled_by in_parts number_of c.loop-i.places c.args.operands.now c.loop-i.i (omega (arith, c.requires.same, c.loop-i.auto.places)) (omega arith) c.loop-i.invariant.same
