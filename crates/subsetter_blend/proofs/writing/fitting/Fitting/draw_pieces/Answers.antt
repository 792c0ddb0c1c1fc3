use Rattle.std.proofs.Common.{◌≡◌, ◌∙◌, ◌+◌, ◌-◌, ◌*◌, ◌^◌, ◌<◌, ◌≤◌, ℕ, ℤ, Bool, List, length, take, drop, unsigned_abs, to_z, of_z, refl, ap, sym, subst, arith, rules, FitsSigned, w64, length-take}
use Rattle.std.proofs.lemmas.Int.{to_z-of_z}
use Rattle.std.proofs.lemmas.List.{take_rest}
use Rattle.std.proofs.lemmas.Result.{err_from_is_err_and}
use Rattle.subsetter_blend.specs.Hint.{is_hint}
use Rattle.subsetter_blend.specs.Writing.Split.{moved_by, sum_before, split}
use Rattle.subsetter_blend.specs.Writing.Taking.{Event, all_taken}
use Rattle.subsetter_blend.specs.Writing.Written.{Fitted, width, fitted_piece}
use Rattle.subsetter_blend.proofs.WritingLaws.SplitLaws.Pieces.{length_moved}
use Rattle.subsetter_blend.proofs.WritingLaws.Splits.{did_from, piece_last, piece_fails, piece_on}
use Rattle.subsetter_blend.proofs.writing.fitting.Fitting.draw_pieces.Goals as goal

pub draw_piece-requires-clause-few : goal.draw_piece-requires-clause-few
draw_piece-requires-clause-few c =
    let operands = c.args.operands.now in
    let start = c.loop-start.start in
    let part = take (start + c.cut-len.result - start) (drop start operands) in
    omega (arith, ap length c.as_slice.ensures, ap length c.part_of.ensures.value, length_moved (to_z w64 c.loop-start.before-bits) part, length-take (start + c.cut-len.result - start) (drop start operands), c.cut-len.ensures.high, c.front.ensures.few, c.front.ensures.value)

pub returns-in_err-draw_piece : goal.returns-in_err-draw_piece
returns-in_err-draw_piece c =
    let operands = c.args.operands.now in
    let start = c.loop-start.start in
    let len = c.cut-len.result in
    let before = to_z w64 c.loop-start.before-bits in
    let p = err_from_is_err_and c.from_residual.result c.from_residual.ensures.1 in
    let few : length (width c.loop-start.self.pen.advance) ≤ 1 = omega (arith, c.front.ensures.few, c.front.ensures.value) in
    let many : 48 < length (width c.loop-start.self.pen.advance) + (length operands - start) = omega (arith, c.front.ensures.value, c.loop-start-test.true) in
    let same_len : start + len - start ≡ len = omega arith in
    let part_is : c.as_slice.result.now ≡ moved_by before (take len (drop start operands)) = c.as_slice.ensures ∙ c.part_of.ensures.value ∙ ap (λ (k : ℕ). moved_by before (take k (drop start operands))) same_len in
    rw (p.1, p.2)
    (λ ne. sym c.loop-start.invariant.same
    ∙ piece_fails c.args.operator c.args.mask.now operands start len before _ c.loop-start.self c.piece_operator.result c.as_slice.result.now few many c.cut-len.ensures.value c.piece_operator.ensures part_is refl _ (c.in_err-draw_piece.ensures.did ne))

pub loop-start-preserved : goal.loop-start-preserved
loop-start-preserved c =
    let operands = c.args.operands.now in
    let start = c.loop-start.start in
    let len = c.cut-len.result in
    let before = to_z w64 c.loop-start.before-bits in
    let f : FitsSigned w64 c.carried-before.result = search rules in
    let here = to_z-of_z w64 c.carried-before.result f in
    let few : length (width c.loop-start.self.pen.advance) ≤ 1 = omega (arith, c.front.ensures.few, c.front.ensures.value) in
    let many : 48 < length (width c.loop-start.self.pen.advance) + (length operands - start) = omega (arith, c.front.ensures.value, c.loop-start-test.true) in
    let inside : start + len ≤ length operands = omega (arith, few, many, c.cut-len.ensures.high) in
    let same_len : start + len - start ≡ len = omega arith in
    let part_is : c.as_slice.result.now ≡ moved_by before (take len (drop start operands)) = c.as_slice.ensures ∙ c.part_of.ensures.value ∙ ap (λ (k : ℕ). moved_by before (take k (drop start operands))) same_len in
    let next_is : to_z w64 (of_z w64 c.carried-before.result) ≡ sum_before (is_hint c.args.operator.0) (moved_by before (take len (drop start operands))) =
    here ∙ c.carried-before.ensures.value
    ∙ ap (λ (h : Bool). sum_before h (moved_by before (take (start + len - start) (drop start operands)))) c.is_hint-hint.ensures
    ∙ ap (λ (k : ℕ). sum_before (is_hint c.args.operator.0) (moved_by before (take k (drop start operands)))) same_len in
    record {
      same = piece_on c.args.operator c.args.mask.now operands start len before _ c.loop-start.self c.piece_operator.result c.as_slice.result.now few many c.cut-len.ensures.value c.piece_operator.ensures part_is next_is c.draw_piece.new.self c.in_ok-draw_piece.ensures.did c.in_ok-draw_piece.ensures.written
          ∙ c.loop-start.invariant.same;
      inside = inside;
      before = subst (λ (z : ℤ). unsigned_abs z ≤ (start + len) * 2 ^ 48) (sym here) (omega (arith, c.carried-before.ensures.bound, c.loop-start.invariant.before, length-take (start + len - start) (drop start operands)));
    }

pub returns : goal.returns
returns c =
    let operands = c.args.operands.now in
    let start = c.loop-start.start in
    let before = to_z w64 c.loop-start.before-bits in
    let few : length (width c.loop-start.self.pen.advance) + (length operands - start) ≤ 48 = omega (arith, c.front.ensures.value, c.loop-start-test.false) in
    let last_is : c.as_slice-2.result.now ≡ moved_by before (drop start operands) = c.as_slice-2.ensures ∙ c.part_of-2.ensures.value ∙ ap (moved_by before) (take_rest operands start) in
    let e : Event = record { operator = c.args.operator; operands = c.as_slice-2.result.now; mask = c.args.mask.now } in
    did_from (fitted_piece e) (λ (f : Fitted). all_taken fitted_piece (split (length (width f.pen.advance)) (record { operator = c.args.operator; operands = operands; mask = c.args.mask.now })) f) c.loop-start.self c.args.self.now c.draw_piece-2.new.self c.draw_piece-2.result
    (ap (λ (l : List ℤ). fitted_piece (record { operator = c.args.operator; operands = l; mask = c.args.mask.now }) c.loop-start.self) last_is
    ∙ sym (piece_last c.args.operator c.args.mask.now operands start 0 before before c.loop-start.self few)
    ∙ c.loop-start.invariant.same)
    c.draw_piece-2.ensures.did
