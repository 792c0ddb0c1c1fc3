use Rattle.std.proofs.Common.{sym, subst, arith}
use Rattle.subsetter.specs.Common.Post.Marks.{AreMarks, step_of}
use Rattle.subsetter.specs.Common.Post.Read.{names_in}
use Rattle.subsetter.proofs.CommonLaws.PostLaws.Marks.{no_marks, mark_last, mark_more}
use Rattle.subsetter.proofs.CommonLaws.PostLaws.Runs.{no_places, first_place, places_more, here_more}
use Rattle.subsetter.proofs.common.post.marks.NameList.new.Goals as goal

pub loop-init : goal.loop-init
loop-init c =
    let all = c.args.all.now in
    let marks = c.in_ok-marks.marks.items in
    let none = c.in_ok-marks.ensures.items in
    record {
      at = no_marks (step_of c.args.is_dense) all marks none;
      within = omega arith;
      marks = subst (AreMarks (step_of c.args.is_dense) all (names_in all)) (sym none) tt;
      room = omega (arith, c.in_ok-marks.ensures.len, c.in_ok-marks.ensures.capacity);
      here = λ d le. first_place (names_in all) marks none;
      places = λ d. no_places (names_in all) marks none;
    }

pub loop-preserved : goal.loop-preserved
loop-preserved c =
    let all = c.args.all.now in
    let marks = c.loop.marks.items in
    let after = c.push_reserved.new.self.items in
    let at = c.loop.at in
    let next = c.skip_step-next.result.0 in
    let i = c.loop.invariant in
    record {
      at = mark_more (step_of c.args.is_dense) all (names_in all) marks after at at next c.push_reserved.ensures.items i.at c.skip_step-next.ensures.names;
      within = c.skip_step-next.ensures.within;
      marks = mark_last (step_of c.args.is_dense) all (names_in all) marks after at c.push_reserved.ensures.items i.marks i.at i.within;
      room = omega (arith, i.room, c.push_reserved.ensures.len, c.push_reserved.ensures.capacity);
      here = λ d. here_more all c.args.is_dense marks after at next d c.push_reserved.ensures.items i.at (i.here d) (c.skip_step-next.ensures.place d);
      places = λ d. places_more (names_in all) marks after at c.push_reserved.ensures.items (i.here d) (i.places d);
    }
