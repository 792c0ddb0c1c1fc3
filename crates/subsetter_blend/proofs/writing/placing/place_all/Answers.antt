use Rattle.std.proofs.Common.{pos, length, get_or, refl, sym, ◌∙◌, arith, rules, FitsSigned, w64, inr}
use Rattle.std.proofs.lemmas.Int.{to_z-of_z}
use Rattle.subsetter_blend.proofs.WritingLaws.Following.{laid_more, laid_end, laid_none}
use Rattle.subsetter_blend.proofs.writing.placing.place_all.Goals as goal

pub returns-in_default-clause-err : goal.returns-in_default-clause-err
returns-in_default-clause-err c =
    let operands = c.args.operands.now in
    let v = get_or c.args.operands.now c.loop-i.i (pos 0) in
    let f : FitsSigned w64 (get_or c.args.operands.now c.loop-i.i (pos 0)) = search rules in
    let none = sym (simp to_z-of_z at c.in_default.ensures.value) in
    inr (refl, laid_none c.args.operator (length operands) c.loop-i.i operands c.loop-i.at c.loop-i.bytes.items c.args.bytes.now.items c.moves_along-along.result v _ c.loop-i-test.true c.moves_along-along.ensures refl none c.loop-i.invariant.same)

pub loop-i-preserved : goal.loop-i-preserved
loop-i-preserved c =
    let operands = c.args.operands.now in
    let v = get_or c.args.operands.now c.loop-i.i (pos 0) in
    let f : FitsSigned w64 (get_or c.args.operands.now c.loop-i.i (pos 0)) = search rules in
    let some = sym (simp to_z-of_z at c.in-Some.ensures.value) in
    let to_is = simp to_z-of_z at c.position_after-to.ensures.value in
    record {
      same = laid_more c.args.operator (length operands) c.loop-i.i operands c.loop-i.at c.position_after-to.result c.loop-i.bytes.items c.append.new.bytes.items c.moves_along-along.result v c.in-Some.number c.loop-i-test.true c.moves_along-along.ensures refl to_is some c.in_ok-append.ensures.ok
          ∙ c.loop-i.invariant.same;
      at = c.in-Some.ensures.within;
    }

pub returns-clause-ok : goal.returns-clause-ok
returns-clause-ok c =
    sym c.loop-i.invariant.same
    ∙ laid_end c.args.operator (length c.args.operands.now) c.loop-i.i c.args.operands.now c.loop-i.at c.loop-i.bytes.items (omega arith)
