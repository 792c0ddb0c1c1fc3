use Rattle.std.proofs.Common.{◌≡◌}
use Rattle.subsetter_cffdata.specs.Dicts.Plain.{plain_in, plain_at}
use Rattle.subsetter_cffdata.proofs.dicts.plain.plain_entry.Given as goal

-- the entry that is left is the whole one's end
abbrev pub invariant-loop-after : goal.invariant-loop-after
invariant-loop-after l = plain_in l.left l.rest ≡ plain_at l.bytes

abbrev pub decreases-loop-after : goal.decreases-loop-after
decreases-loop-after l = l.left
