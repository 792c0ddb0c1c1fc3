use Rattle.std.proofs.Common.{◌≡◌, drop}
use Rattle.subsetter_cff.specs.Write.Strings.SidRemapping.{known_number}
use Rattle.subsetter_cff.proofs.write.strings.sid_remapper.find_known.Given as goal

abbrev pub invariant-loop-pair : goal.invariant-loop-pair
invariant-loop-pair l = known_number (drop l.pair-index l.known) l.old ≡ known_number l.known l.old
