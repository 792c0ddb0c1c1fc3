use Rattle.std.proofs.Common.{refl}
use Rattle.std.specs.Prelude.{string_bytes}
use Rattle.std.specs.Option.{option_map}
use Rattle.subsetter_sfnt.specs.Extras.{all_extras}
use Rattle.subset_task.specs.declared.task.RequestedGlyphs.TheVariants.{Every}
use Rattle.subset_font.proofs.FacesLaws.Showing.{cause_of}
use Rattle.subset_font.proofs.faces.accepted.reason_of.Goals as goal

pub returns : goal.returns
returns c =
    cause_of (option_map string_bytes) (record { bytes = c.args.font.now; index = c.args.index; extras = all_extras }) c.args.failure.now c.deref.result.now c.limits_for-limits.result c.task_for-task.result c.in_ok-hint.hint c.count_glyphs.result c.unwrap_or-count.result c.in_ok-glyphs.glyphs.items c.text_of.result
    c.deref.ensures.value c.in_ok-glyphs.ensures c.unwrap_or-count.ensures c.count_glyphs.ensures c.limits_for-limits.ensures (c.task_for-task.ensures Every refl) c.in_ok-hint.ensures c.text_of.ensures
