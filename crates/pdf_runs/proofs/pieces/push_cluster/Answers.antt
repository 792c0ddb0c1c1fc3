use Rattle.std.proofs.Common.{ℕ, List, [], length, get_or, ◌++◌, ap, ◌∙◌}
use Rattle.pdf_runs.specs.Items.{visual}
use Rattle.pdf_runs.specs.Pieces.{pieces_of_cluster}
use Rattle.pdf_runs.specs.Shares.{shares}
use Rattle.pdf_runs.proofs.PieceSteps.{cluster_more}
use Rattle.pdf_runs.proofs.pieces.push_cluster.Goals as goal

pub loop-place-preserved : goal.loop-place-preserved
loop-place-preserved c =
    cluster_more c.args.direction c.args.inked.now c.args.items.now c.loop-place.place _ c.share_at-share.result.now c.loop-place.pieces.items c.push_spread-in-loop-place.new.pieces.items
    (c.args.pieces.now.items ++ pieces_of_cluster c.args.direction c.args.inked.now c.args.items.now) c.loop-place-test.true
    (c.share_at-share.ensures ∙ ap (λ (t : List ℕ). get_or (visual c.args.direction (shares (length c.args.items.now) t)) c.loop-place.place []) c.text_of-text.ensures)
    c.in_ok-push_spread.ensures.ok c.loop-place.invariant
