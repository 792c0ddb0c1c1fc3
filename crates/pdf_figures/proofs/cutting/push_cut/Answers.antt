use Rattle.std.proofs.Common.{◌-◌, ap, sym, ◌∙◌, rules, arith, refl}
use Rattle.pdf_runs.specs.Items.{visual}
use Rattle.pdf_runs.proofs.Joined.{visual_length}
use Rattle.pdf_figures.specs.Figures.{blank}
use Rattle.pdf_figures.specs.View.{cut_seen, figures_seen}
use Rattle.pdf_figures.proofs.Seen.{seen_put}
use Rattle.pdf_figures.proofs.WideCounts.{mark_on, part_with, wide_on}
use Rattle.pdf_figures.proofs.cutting.push_cut.Goals as goal
use Rattle.pdf_figures.proofs.cutting.push_cut.Goals.{then-is_mark_at+in_ok-push, else-is_mark_at+in_ok-push-2}

pub loop-place-preserved : goal.loop-place-preserved
loop-place-preserved c =
    let xs = visual c.args.direction c.args.share.now in
    elim c.if-is_mark_at.branch [
      | then-is_mark_at+in_ok-push w ↦
          mark_on xs c.loop-place.place 0 (figures_seen c.loop-place.figures.items) (figures_seen c.if-is_mark_at.figures.items) (cut_seen c.loop-place.rest) (cut_seen c.if-is_mark_at.rest) c.if-is_mark_at.width c.if-is_mark_at.more _
          (omega (arith, visual_length c.args.direction c.args.share.now, c.loop-place-test.true)) (sym c.is_mark_at.ensures ∙ w.if-is_mark_at.true)
          (seen_put c.loop-place.figures.items c.if-is_mark_at.figures.items w.blank.result (blank c.loop-place.rest.text) (search rules) w.blank.ensures) (ap cut_seen w.rest-is) (rw w.width-is (rw w.more-is c.loop-place.invariant))
      | else-is_mark_at+in_ok-push-2 w ↦
          rw w.more-is (wide_on xs c.loop-place.place 0 (figures_seen c.loop-place.figures.items) (figures_seen c.if-is_mark_at.figures.items) (cut_seen c.loop-place.rest) (cut_seen c.if-is_mark_at.rest) c.loop-place.width c.if-is_mark_at.width (c.loop-place.more - 1) c.loop-place.more w.equal_part-part.result _
          (omega (arith, visual_length c.args.direction c.args.share.now, c.loop-place-test.true)) (sym c.is_mark_at.ensures ∙ w.if-is_mark_at.false) refl w.equal_part-part.ensures.value w.equal_part-part.ensures.within
          (seen_put c.loop-place.figures.items c.if-is_mark_at.figures.items w.part_and_rest-parted.result.part (part_with (cut_seen c.loop-place.rest) w.equal_part-part.result (c.loop-place.more - 1)) (search rules) w.part_and_rest-parted.ensures.part)
          (ap cut_seen w.rest-is ∙ w.part_and_rest-parted.ensures.rest) w.width-is c.loop-place.invariant)
    ]
