use Rattle.std.proofs.Common.{length, ◌++◌, ◌∷◌, [], sym, ap, ◌∙◌, arith}
use Rattle.pdf_runs.specs.declared.pieces.Piece.{Piece}
use Rattle.pdf_runs.specs.Items.{visual}
use Rattle.pdf_runs.proofs.Joined.{visual_length}
use Rattle.pdf_runs.proofs.PieceSteps.{bearer_below, on_ok_then, spread_written}
use Rattle.pdf_runs.proofs.pieces.push_spread.Goals as goal

pub returns-clause-ok : goal.returns-clause-ok
returns-clause-ok c =
    let cs = visual c.args.direction c.args.share.now in
    on_ok_then c.push_blanks-2.result c.push_blanks-2.ensures.ok (λ d. spread_written c.args.inked.now c.args.item.now cs c.bearer-bearer.result (length c.args.share.now) c.character_at-character.result c.args.pieces.now.items c.push_blanks.new.pieces.items c.push-2.new.self.items c.push_blanks-2.new.pieces.items c.bearer-bearer.ensures (sym (visual_length c.args.direction c.args.share.now)) (bearer_below cs c.bearer-bearer.result c.bearer-bearer.ensures (omega (arith, visual_length c.args.direction c.args.share.now))) c.character_at-character.ensures c.in_ok-push_blanks.ensures.ok (c.in_ok-push-2.ensures.items ∙ ap (λ (p : Piece). c.push_blanks.new.pieces.items ++ p ∷ []) c.piece_of-2.ensures) d)
