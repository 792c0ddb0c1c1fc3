use Rattle.std.proofs.Common.{sym, ◌∙◌, below_more, arith}
use Rattle.pdf_runs.specs.Items.{visual}
use Rattle.pdf_runs.proofs.Joined.{visual_length}
use Rattle.pdf_runs.proofs.PieceSteps.{bearer_found, bearer_none}
use Rattle.pdf_runs.proofs.pieces.bearer.Goals as goal

pub returns-then-is_wide : goal.returns-then-is_wide
returns-then-is_wide c =
    bearer_found (visual c.args.direction c.args.share.now) c.loop-place.place (omega (arith, visual_length c.args.direction c.args.share.now, c.loop-place-test.true)) c.loop-place.invariant
    (sym c.is_wide.ensures ∙ c.if-is_wide.true)

pub loop-place-preserved : goal.loop-place-preserved
loop-place-preserved c = below_more _ _ c.loop-place.invariant (sym c.is_wide.ensures ∙ c.if-is_wide.false)

pub returns : goal.returns
returns c =
    bearer_none (visual c.args.direction c.args.share.now)
    (λ k h. c.loop-place.invariant k (omega (arith, visual_length c.args.direction c.args.share.now, c.loop-place-test.false, h)))
