use Rattle.std.proofs.Common.{rules, arith, ◌≡◌, Some, sym, ◌∙◌}
use Rattle.std.proofs.lemmas.Int.{to_z-of_z}
use Rattle.subsetter_base.specs.declared.error.Error.TheVariants.{MalformedFont}
use Rattle.subsetter_variation.specs.Locations.Segments.{segment_map_at}
use Rattle.subsetter_variation.proofs.PackingLaws.Listed.{coordinates_step, no_axis}
use Rattle.subsetter_variation.proofs.locations.coordinates.coordinates_at.Goals as goal

pub loop-axis-preserved : goal.loop-axis-preserved
loop-axis-preserved c =
    let there : segment_map_at c.args.avar.now c.loop-axis.r.offset ≡ Some c.in_ok-ends.ends = rw (← c.loop-axis.invariant.bytes) (sym c.next_segment_map.ensures.value ∙ c.in_ok-ends.ensures.ok_part) in
    let step = coordinates_step c.loop-axis.coordinates.items c.args.axes.now c.loop-axis.axis-index no_axis c.args.settings.now c.args.avar.now c.loop-axis.r.offset c.in_ok-ends.ends MalformedFont c.loop-axis-test.true there in
    record { bytes = search rules; read = grind (arith, to_z-of_z, step) }
