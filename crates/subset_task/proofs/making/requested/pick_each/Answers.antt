use Rattle.subsetter_sfnt.specs.Extras.{all_extras}
use Rattle.subset_task.specs.Making.Picked.{picked_view}
use Rattle.subset_task.proofs.Requesting.{pick_step}
use Rattle.subset_task.proofs.making.requested.pick_each.Goals as goal

pub loop-rest-preserved : goal.loop-rest-preserved
loop-rest-preserved c = pick_step (record { bytes = c.args.font.now; index = c.args.index; extras = all_extras }) (picked_view c.loop-rest.picked) (picked_view c.push_picked.new.picked) (picked_view c.in_ok-more.more) c.loop-rest.rest.now _ _ c.in-len1-up.len_at_least c.in_ok-push_picked.ensures.ok c.in_ok-more.ensures.ok c.loop-rest.invariant
