use Rattle.std.proofs.Common.{◌≡◌, length}
use Rattle.subsetter_sfnt.specs.Extras.{all_extras}
use Rattle.subset_task.specs.Making.Picked.{picked_view}
use Rattle.subset_task.specs.Making.Requested.{following, picked_each}
use Rattle.subset_task.proofs.making.requested.pick_each.Given as goal

abbrev pub invariant-loop-rest : goal.invariant-loop-rest
invariant-loop-rest l = following (picked_view l.picked) (picked_each (record { bytes = l.font; index = l.index; extras = all_extras }) l.rest) ≡ picked_each (record { bytes = l.font; index = l.index; extras = all_extras }) l.asked

abbrev pub decreases-loop-rest : goal.decreases-loop-rest
decreases-loop-rest l = length l.rest
