use Rattle.subsetter_sfnt.specs.Extras.{all_extras}
use Rattle.subsetter.specs.Limits.{token_limit, depth_limit}
use Rattle.subsetter_sfnt.specs.Read.{Font}
use Rattle.subsetter_c.specs.Answers.Embedding.{Buffers, IsSoundEmbedding, IsEmbeddingRefusal}
use Rattle.subsetter_c.proofs.AnswersLaws.Lists.{answer_handed, embedding_sound, embedding_refused}
use Rattle.std.proofs.Common.{None}
use Rattle.subsetter_c.proofs.calls.subsetter_embed.Goals as goal

pub returns : goal.returns
returns c =
    let font : Font = record { bytes = c.args.font.now; index = c.args.index; extras = all_extras } in
    let before : Buffers = record { font = c.args.out.now; cids = c.args.cids.now; widths = c.args.widths.now } in
    let after : Buffers = record { font = c.hand_embedded.new.font; cids = c.hand_embedded.new.cids; widths = c.hand_embedded.new.widths } in
    answer_handed (IsSoundEmbedding None token_limit depth_limit font c.args.glyphs.now) (IsEmbeddingRefusal None token_limit depth_limit font c.args.glyphs.now) c.embed.result before after c.hand_embedded.new.told c.hand_embedded.result (embedding_sound None token_limit depth_limit font c.args.glyphs.now c.embed.result c.embed.ensures.promise) (embedding_refused None token_limit depth_limit font c.args.glyphs.now c.embed.result c.embed.ensures.promise) c.hand_embedded.ensures
