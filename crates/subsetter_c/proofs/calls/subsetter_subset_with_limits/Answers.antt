use Rattle.std.proofs.Common.{arith, inr, None}
use Rattle.std.specs.Prelude.{IfOk, IfErr}
use Rattle.subsetter_sfnt.specs.Extras.{all_extras}
use Rattle.subsetter_sfnt.specs.Read.{Font}
use Rattle.subsetter_c.specs.Answers.Handed.{IsSoundSubset, IsRefusal}
use Rattle.subsetter_c.proofs.AnswersLaws.Bytes.{answer_handed, at_limits}
use Rattle.subsetter_c.proofs.calls.subsetter_subset_with_limits.Goals as goal

pub returns-in-Some : goal.returns-in-Some
returns-in-Some c =
    let font : Font = record { bytes = c.args.font.now; index = c.args.index; extras = all_extras } in
    inr (
      omega (arith, c.in-Some.limits.holds_a_charstring, c.in-Some.ensures.1),
      answer_handed (IsSoundSubset None c.args.tokens c.args.depth font c.args.glyphs.now) (IsRefusal None c.args.tokens c.args.depth font c.args.glyphs.now) c.whole_subset_for.result c.args.out.now c.hand_answer.new.buffer c.hand_answer.new.told c.hand_answer.result
          (at_limits (λ b t d. IfOk c.whole_subset_for.result (λ v. IsSoundSubset b t d font c.args.glyphs.now v.items)) c.in-Some.limits.bytes None c.in-Some.limits.tokens c.args.tokens c.in-Some.limits.depth c.args.depth c.in-Some.ensures.2 c.in-Some.ensures.0 c.in-Some.ensures.1 c.whole_subset_for.ensures.ok)
          (at_limits (λ b t d. IfErr c.whole_subset_for.result (IsRefusal b t d font c.args.glyphs.now)) c.in-Some.limits.bytes None c.in-Some.limits.tokens c.args.tokens c.in-Some.limits.depth c.args.depth c.in-Some.ensures.2 c.in-Some.ensures.0 c.in-Some.ensures.1 c.whole_subset_for.ensures.err)
          c.hand_answer.ensures,
    )
