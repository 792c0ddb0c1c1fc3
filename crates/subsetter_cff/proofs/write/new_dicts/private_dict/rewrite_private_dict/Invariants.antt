use Rattle.std.proofs.Common.{◌≡◌, length}
use Rattle.subsetter_cff.specs.Write.NewDicts.Rewritten.{rewritten_private}
use Rattle.subsetter_base.specs.Gives.{following}
use Rattle.subsetter_cff.proofs.write.new_dicts.private_dict.rewrite_private_dict.Given as goal

abbrev pub invariant-loop-rest : goal.invariant-loop-rest
invariant-loop-rest l = following l.w (rewritten_private l.left) ≡ following l.initial.w (rewritten_private l.private_dict)

abbrev pub decreases-loop-rest : goal.decreases-loop-rest
decreases-loop-rest l = length l.left
