use Rattle.subset_task.proofs.Steps.{note_later}
use Rattle.subset_task.proofs.notes.notes_of.Goals as goal

pub loop-setting-preserved : goal.loop-setting-preserved
loop-setting-preserved c = note_later c.args.axes.now c.args.at.now c.loop-setting.setting-index _ _ _ _ c.loop-setting-test.true c.in_ok-push_note.ensures c.loop-setting.invariant
