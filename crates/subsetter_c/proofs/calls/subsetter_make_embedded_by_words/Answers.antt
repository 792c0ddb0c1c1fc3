use Rattle.std.proofs.Common.{inl, inr, refl}
use Rattle.subsetter_sfnt.specs.declared.extras.Extras.{Extras}
use Rattle.subsetter_sfnt.specs.Read.{Font}
use Rattle.subsetter_c.specs.Answers.Embedding.{IsSoundEmbedding, IsEmbeddingRefusal}
use Rattle.subsetter_c.specs.Answers.Made.{IsEmbeddingMade, lists_in}
use Rattle.subsetter_c.proofs.AnswersLaws.Lists.{embedding_sound, embedding_refused}
use Rattle.subsetter_c.proofs.AnswersLaws.Made.{embedding_made}
use Rattle.subsetter_c.proofs.Asked.{at_asked}
use Rattle.subsetter_c.proofs.calls.subsetter_make_embedded_by_words.Goals as goal

pub returns-in-Some : goal.returns-in-Some
returns-in-Some c =
    let font : Extras → Font = λ x. record { bytes = c.args.font.now; index = c.args.index; extras = x } in
    let bound = c.in-Some.options.limits.bytes in
    let tokens = c.in-Some.options.limits.tokens in
    let depth = c.in-Some.options.limits.depth in
    let asked = font c.in-Some.options.extras in
    let glyphs = c.args.glyphs.now in
    let answer = c.embed_with_options-answer.result in
    let of = c.embed_with_options-answer.ensures in
    inr (
      c.in-Some.ensures.0,
      at_asked (λ b t d x. IsEmbeddingMade b t d (font x) glyphs (lists_in c.make_embedded.new.made) c.make_embedded.result) c.args.options.now c.in-Some.options c.in-Some.ensures.1
          (embedding_made (IsSoundEmbedding bound tokens depth asked glyphs) (IsEmbeddingRefusal bound tokens depth asked glyphs) answer (lists_in c.make_embedded.new.made) c.make_embedded.result (embedding_sound bound tokens depth asked glyphs answer of.promise) (embedding_refused bound tokens depth asked glyphs answer of.promise) c.make_embedded.ensures),
    )

pub returns-in-None : goal.returns-in-None
returns-in-None c = inl (c.in-None.ensures, record { empty = c.nothing.ensures; status_is = refl })
