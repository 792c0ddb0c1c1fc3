use Rattle.std.proofs.Common.{length}
use Rattle.subsetter_cff.specs.Write.NewDicts.Rewritten.{IsCopied}
use Rattle.subsetter_cff.proofs.write.new_dicts.private_dict.skip_plain.Given as goal

abbrev pub invariant-loop-entry : goal.invariant-loop-entry
invariant-loop-entry l = IsCopied l.bytes l.rest

abbrev pub decreases-loop-entry : goal.decreases-loop-entry
decreases-loop-entry l = length l.rest
