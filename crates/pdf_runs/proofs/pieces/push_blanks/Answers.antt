use Rattle.std.proofs.Common.{◌-◌, ◌++◌, ◌∷◌, [], map, take, drop, ap, ◌∙◌, arith}
use Rattle.pdf_runs.specs.declared.pieces.Piece.{Piece}
use Rattle.pdf_runs.specs.Items.{visual}
use Rattle.pdf_runs.specs.Pieces.{blank_of}
use Rattle.pdf_runs.proofs.Joined.{visual_length}
use Rattle.pdf_runs.proofs.PieceSteps.{blanks_more}
use Rattle.pdf_runs.proofs.pieces.push_blanks.Goals as goal

pub loop-place-preserved : goal.loop-place-preserved
loop-place-preserved c =
    blanks_more (visual c.args.direction c.args.share.now) c.loop-place.place c.args.end c.character_at.result c.loop-place.pieces.items c.push.new.self.items
    (c.args.pieces.now.items ++ map blank_of (take (c.args.end - c.args.start) (drop c.args.start (visual c.args.direction c.args.share.now))))
    c.loop-place-test.true (omega (arith, visual_length c.args.direction c.args.share.now, c.requires.within)) c.character_at.ensures
    (c.in_ok-push.ensures.items ∙ ap (λ (p : Piece). c.loop-place.pieces.items ++ p ∷ []) c.blank_of.ensures) c.loop-place.invariant
