use Rattle.std.proofs.Common.{ℕ, [], get_or, ap, ◌∙◌}
use Rattle.pdf_runs.specs.Shares.{shares}
use Rattle.pdf_runs.proofs.ShareLaws.{seen_share}
use Rattle.pdf_runs.proofs.shares.share_at.Goals as goal

pub returns : goal.returns
returns c =
    c.share.ensures
    ∙ ap (λ (n : ℕ). get_or (shares c.args.count c.args.text.now) n []) c.in_reading.ensures.value
    ∙ seen_share c.args.direction c.args.count c.args.text.now c.args.place c.requires
