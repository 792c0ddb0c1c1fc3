use Rattle.std.proofs.Common.{◌∙◌, ◌∷◌, [], ◌-◌, ◌<◌, ◌≤◌, ◌^◌, ℤ, pos, length, get_or, take, drop, unsigned_abs, refl, ap, arith, rules, FitsSigned, w64, length-append}
use Rattle.std.proofs.lemmas.Int.{to_z-of_z}
use Rattle.std.proofs.lemmas.List.Elements.{All-take, All-drop}
use Rattle.subsetter_blend.proofs.WritingLaws.Splits.{all_more, part_more}
use Rattle.subsetter_blend.proofs.writing.splitting.part_of.Goals as goal

pub loop-operand-preserved : goal.loop-operand-preserved
loop-operand-preserved c =
    let operands = c.args.operands.now in
    let rest = take (length operands - 1) (drop 1 operands) in
    let i = c.loop-operand.operand-index in
    let less : i < length rest = c.loop-operand-test.true in
    let v = get_or rest i (pos 0) in
    let f : FitsSigned w64 (get_or (take (length c.args.operands.now - 1) (drop 1 c.args.operands.now)) c.loop-operand.operand-index (pos 0)) = search rules in
    let pushed = simp to_z-of_z at c.push-in-loop-operand.ensures in
    let small : unsigned_abs v ≤ 2 ^ 48 = All-take (λ (z : ℤ). unsigned_abs z ≤ 2 ^ 48) (length operands - 1) (drop 1 operands) (All-drop (λ (z : ℤ). unsigned_abs z ≤ 2 ^ 48) 1 operands c.requires.small) i (pos 0) less in
    record {
      same = part_more c.loop-operand.part c.push.new.self rest c.push-in-loop-operand.new.self i v less c.loop-operand.invariant.same refl pushed;
      many = ap length pushed ∙ omega (arith, length-append c.loop-operand.part (v ∷ []), c.loop-operand.invariant.many);
      small = all_more (λ z. unsigned_abs z ≤ 2 ^ 59) c.loop-operand.part c.push-in-loop-operand.new.self v c.loop-operand.invariant.small (omega (arith, small)) pushed;
    }
