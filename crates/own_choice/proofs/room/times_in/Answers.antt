use Rattle.std.proofs.Common.{max, arith}
use Rattle.std.proofs.Math.Nat.{div-le_self}
use Rattle.own_choice.proofs.room.times_in.Goals as goal

pub overflow_cast-result : goal.overflow_cast-result
overflow_cast-result c = omega (arith, div-le_self 65535 (max c.args.number 1))
