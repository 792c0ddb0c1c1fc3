use Rattle.std.proofs.Common.{◌++◌, List, ℕ, sym, ap, ◌∙◌}
use Rattle.std.proofs.lemmas.List.{append-nil}
use Rattle.subsetter.specs.Common.Post.Marks.{run_bytes}
use Rattle.subsetter.proofs.CommonLaws.PostLaws.Runs.{run_last}
use Rattle.subsetter.proofs.common.post.write.write_each.Goals as goal

pub loop-i-init : goal.loop-i-init
loop-i-init c = sym (append-nil c.args.w.now)

pub loop-i-preserved : goal.loop-i-preserved
loop-i-preserved c =
    let before = c.args.w.now ++ run_bytes c.args.names.now c.args.from c.loop-i.i in
    c.in_ok-extend.ensures.ok ∙ ap (λ (l : List ℕ). l ++ c.entry.result.now) c.loop-i.invariant ∙ ap (λ (l : List ℕ). before ++ l) c.entry.ensures ∙ run_last c.args.w.now c.args.names.now c.args.from c.loop-i.i
