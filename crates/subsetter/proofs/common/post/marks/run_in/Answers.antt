use Rattle.std.proofs.Common.{◌≡◌, ◌+◌, ◌-◌, true, refl, subst, arith}
use Rattle.subsetter_base.specs.Bytes.{IsBytes}
use Rattle.subsetter.specs.Common.Post.Marks.{AreMarks, step_of}
use Rattle.subsetter.specs.Common.Post.Read.{names_in}
use Rattle.subsetter.proofs.CommonLaws.PostLaws.Runs.{entries_are, part_between}
use Rattle.subsetter.proofs.common.post.marks.run_in.Goals as goal

pub returns : goal.returns
returns c =
    let all = c.args.all.now in
    let marks = c.args.marks.now in
    let start = c.in_ok-start.start in
    let end = c.in_ok-end.end in
    let last = c.args.from + c.args.count - 1 in
    let dense : c.args.is_dense ≡ true = cc in
    let bytes : IsBytes all = λ k. omega (arith, c.type_inv.all k) in
    let are = subst (λ b. AreMarks (step_of b) all (names_in all) marks) dense c.requires.marks in
    part_between c.between_offsets.result all _ start end c.between_offsets.ensures
    (entries_are all marks c.args.from c.args.count last start c.in_ok-last.last end bytes are (c.requires.places dense) (omega arith) refl c.in_ok-start.ensures c.in_ok-last.ensures c.in_ok-end.ensures.there)
