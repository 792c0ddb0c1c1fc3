use Rattle.std.proofs.Common.{◌≡◌, ℕ, ◌+◌, ◌++◌, List, map, drop, ap, ◌∙◌, Some}
use Rattle.subsetter_base.specs.Remap.{index_by}
use Rattle.pdf_runs.specs.declared.codes.Pair.{Pair}
use Rattle.pdf_runs.specs.declared.pieces.Piece.{Piece}
use Rattle.pdf_runs.specs.Codes.{pair_of, same, with_pairs}
use Rattle.pdf_runs.proofs.PairLaws.{all_more, codes_more, first_put, has_room, on_err}
use Rattle.pdf_runs.proofs.codes.codes_with_room.Goals as goal

pub code_of-requires : goal.code_of-requires
code_of-requires c = has_room c.args.pieces.now c.loop-piece.piece-index _ c.loop-piece.pairs (with_pairs c.args.pairs.now c.args.pieces.now) c.pair_of.result c.loop-piece-test.true c.pair_of.ensures c.loop-piece.invariant.all c.requires

pub loop-piece-preserved : goal.loop-piece-preserved
loop-piece-preserved c =
    let ps = c.args.pieces.now in
    let k = c.loop-piece.piece-index in
    let now : List Pair = c.code_of.new.pairs in
    let total : List Pair = with_pairs c.args.pairs.now ps in
    let all : with_pairs now (drop (k + 1) ps) ≡ total =
    all_more ps k _ c.loop-piece.pairs now total c.pair_of.result c.loop-piece-test.true c.pair_of.ensures c.in_ok-code_of.ensures.list c.loop-piece.invariant.all
    in
    record {
      all = all;
      first = first_put ps k _ c.args.pairs.now c.loop-piece.pairs now c.pair_of.result c.loop-piece-test.true c.pair_of.ensures c.loop-piece.invariant.first c.in_ok-code_of.ensures.list;
      stay = λ p n e. c.code_of.ensures.stay p n (c.loop-piece.invariant.stay p n e);
      so_far =
          ap (λ (l : List ℕ). map Some l ++ map (λ (p : Piece). index_by same total (pair_of p)) (drop (k + 1) ps)) c.in_ok-push.ensures.items
          ∙ codes_more ps k _ now total c.pair_of.result c.loop-piece.codes.items c.in_ok-code_of.field-0 _ c.loop-piece-test.true c.pair_of.ensures c.in_ok-code_of.ensures.number all c.loop-piece.invariant.so_far;
    }

pub returns-in_err-code_of-clause-stay : goal.returns-in_err-code_of-clause-stay
returns-in_err-code_of-clause-stay c = λ p n e. c.code_of.ensures.stay p n (c.loop-piece.invariant.stay p n e)

pub returns-in_err-push-clause-stay : goal.returns-in_err-push-clause-stay
returns-in_err-push-clause-stay c = λ p n e. c.code_of.ensures.stay p n (c.loop-piece.invariant.stay p n e)

pub returns-in_err-code_of-clause-first : goal.returns-in_err-code_of-clause-first
returns-in_err-code_of-clause-first c =
    on_err c.from_residual-in_err-code_of.result (record { count = c.loop-piece.piece-index; first = c.in_err-code_of.ensures.same ∙ c.loop-piece.invariant.first })

pub returns-in_err-push-clause-first : goal.returns-in_err-push-clause-first
returns-in_err-push-clause-first c =
    on_err c.from_residual-in_err-push.result (record {
      count = c.loop-piece.piece-index + 1;
      first = first_put c.args.pieces.now c.loop-piece.piece-index _ c.args.pairs.now c.loop-piece.pairs c.code_of.new.pairs c.pair_of.result c.loop-piece-test.true c.pair_of.ensures c.loop-piece.invariant.first c.in_ok-code_of.ensures.list;
    })
