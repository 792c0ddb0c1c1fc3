use Rattle.std.proofs.Common.{inl, inr, refl}
use Rattle.subsetter_sfnt.specs.declared.extras.Extras.{Extras}
use Rattle.subsetter_sfnt.specs.Read.{Font}
use Rattle.subsetter_c.specs.Answers.Handed.{IsSoundSubset, IsRefusal, IsSubsetHanded}
use Rattle.subsetter_c.proofs.AnswersLaws.Bytes.{answer_handed}
use Rattle.subsetter_c.proofs.Asked.{at_asked}
use Rattle.subsetter_c.proofs.calls.subsetter_subset_by_words.Goals as goal

pub returns-in-Some : goal.returns-in-Some
returns-in-Some c =
    let font : Extras → Font = λ x. record { bytes = c.args.font.now; index = c.args.index; extras = x } in
    let bound = c.in-Some.options.limits.bytes in
    let tokens = c.in-Some.options.limits.tokens in
    let depth = c.in-Some.options.limits.depth in
    let asked = font c.in-Some.options.extras in
    let glyphs = c.args.glyphs.now in
    inr (
      c.in-Some.ensures.0,
      at_asked (λ b t d x. IsSubsetHanded b t d (font x) glyphs c.args.out.now c.hand_answer.new.buffer c.hand_answer.new.told c.hand_answer.result) c.args.options.now c.in-Some.options c.in-Some.ensures.1
          (answer_handed (IsSoundSubset bound tokens depth asked glyphs) (IsRefusal bound tokens depth asked glyphs) c.subset_for.result c.args.out.now c.hand_answer.new.buffer c.hand_answer.new.told c.hand_answer.result c.subset_for.ensures.ok c.subset_for.ensures.err c.hand_answer.ensures),
    )

pub returns-in-None : goal.returns-in-None
returns-in-None c = inl (c.in-None.ensures, record { unchanged = refl; none = refl; status_is = refl })
