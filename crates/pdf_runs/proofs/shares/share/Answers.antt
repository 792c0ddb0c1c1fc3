use Rattle.std.proofs.Common.{ℕ, ◌-◌, List, take, drop, ap, ◌∙◌, arith}
use Rattle.pdf_runs.proofs.ShareLaws.{share_later}
use Rattle.pdf_runs.proofs.shares.share.Goals as goal

pub returns : goal.returns
returns c =
    c.one_at.ensures
    ∙ ap (λ (l : List ℕ). take 1 (drop (c.args.place - 1) l)) c.following.ensures
    ∙ share_later c.args.count c.args.text.now c.first_count-first.result c.args.place (omega arith) c.requires c.first_count-first.ensures.value
