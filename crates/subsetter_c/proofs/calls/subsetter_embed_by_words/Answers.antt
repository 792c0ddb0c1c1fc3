use Rattle.std.proofs.Common.{inl, inr, refl}
use Rattle.subsetter_sfnt.specs.declared.extras.Extras.{Extras}
use Rattle.subsetter_sfnt.specs.Read.{Font}
use Rattle.subsetter_c.specs.Answers.Embedding.{Buffers, IsSoundEmbedding, IsEmbeddingRefusal, IsEmbeddingHanded}
use Rattle.subsetter_c.proofs.AnswersLaws.Lists.{answer_handed, embedding_sound, embedding_refused}
use Rattle.subsetter_c.proofs.Asked.{at_asked}
use Rattle.subsetter_c.proofs.calls.subsetter_embed_by_words.Goals as goal

pub returns-in-Some : goal.returns-in-Some
returns-in-Some c =
    let font : Extras → Font = λ x. record { bytes = c.args.font.now; index = c.args.index; extras = x } in
    let bound = c.in-Some.options.limits.bytes in
    let tokens = c.in-Some.options.limits.tokens in
    let depth = c.in-Some.options.limits.depth in
    let asked = font c.in-Some.options.extras in
    let glyphs = c.args.glyphs.now in
    let before : Buffers = record { font = c.args.out.now; cids = c.args.cids.now; widths = c.args.widths.now } in
    let after : Buffers = record { font = c.hand_embedded.new.font; cids = c.hand_embedded.new.cids; widths = c.hand_embedded.new.widths } in
    let answer = c.embed_with_options-answer.result in
    let of = c.embed_with_options-answer.ensures in
    inr (
      c.in-Some.ensures.0,
      at_asked (λ b t d x. IsEmbeddingHanded b t d (font x) glyphs before after c.hand_embedded.new.told c.hand_embedded.result) c.args.options.now c.in-Some.options c.in-Some.ensures.1
          (answer_handed (IsSoundEmbedding bound tokens depth asked glyphs) (IsEmbeddingRefusal bound tokens depth asked glyphs) answer before after c.hand_embedded.new.told c.hand_embedded.result (embedding_sound bound tokens depth asked glyphs answer of.promise) (embedding_refused bound tokens depth asked glyphs answer of.promise) c.hand_embedded.ensures),
    )

pub returns-in-None : goal.returns-in-None
returns-in-None c = inl (c.in-None.ensures, record { unchanged = refl; none = refl; status_is = refl })
