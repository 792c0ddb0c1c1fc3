use Rattle.std.proofs.Common.{None}
use Rattle.std.specs.Prelude.{IfOk, IfErr}
use Rattle.subsetter_sfnt.specs.Extras.{all_extras}
use Rattle.subsetter.specs.Limits.{token_limit, depth_limit}
use Rattle.subsetter_sfnt.specs.Read.{Font}
use Rattle.subsetter_c.specs.Answers.Handed.{IsSoundSubset, IsRefusal}
use Rattle.subsetter_c.proofs.AnswersLaws.Bytes.{answer_handed, at_limits}
use Rattle.subsetter_c.proofs.calls.subsetter_subset.Goals as goal

pub returns : goal.returns
returns c =
    let font : Font = record { bytes = c.args.font.now; index = c.args.index; extras = all_extras } in
    answer_handed (IsSoundSubset None token_limit depth_limit font c.args.glyphs.now) (IsRefusal None token_limit depth_limit font c.args.glyphs.now) c.whole_subset_for.result c.args.out.now c.hand_answer.new.buffer c.hand_answer.new.told c.hand_answer.result
    (at_limits (λ b t d. IfOk c.whole_subset_for.result (λ v. IsSoundSubset b t d font c.args.glyphs.now v.items)) c.default.result.bytes None c.default.result.tokens token_limit c.default.result.depth depth_limit c.default.ensures.2 c.default.ensures.0 c.default.ensures.1 c.whole_subset_for.ensures.ok)
    (at_limits (λ b t d. IfErr c.whole_subset_for.result (IsRefusal b t d font c.args.glyphs.now)) c.default.result.bytes None c.default.result.tokens token_limit c.default.result.depth depth_limit c.default.ensures.2 c.default.ensures.0 c.default.ensures.1 c.whole_subset_for.ensures.err)
    c.hand_answer.ensures
