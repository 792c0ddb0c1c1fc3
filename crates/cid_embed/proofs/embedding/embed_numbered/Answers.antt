use Rattle.std.proofs.Common.{Err, sym, ap, subst, ◌∙◌}
use Rattle.std.proofs.lemmas.Result.{err_from_is_err_and}
use Rattle.subsetter_sfnt.specs.FontAt.{font_at}
use Rattle.subsetter_sfnt.specs.Read.{Font}
use Rattle.subsetter_sfnt.proofs.Laws.Opening.{refused}
use Rattle.cid_embed.specs.Embed.{IsEmbedPromised}
use Rattle.cid_embed.proofs.Promises.{closed}
use Rattle.cid_embed.proofs.embedding.embed_numbered.Goals as goal

pub returns-in_err-opened : goal.returns-in_err-opened
returns-in_err-opened c =
    let limits = c.args.options.now.limits in
    let font : Font = font_at c.args.«data».now c.args.index c.args.options.now.extras in
    let p = err_from_is_err_and c.from_residual.result c.from_residual.ensures.1 in
    record {
      promise = subst (IsEmbedPromised limits.bytes limits.tokens limits.depth font c.args.glyphs.now) (sym (p.1 ∙ ap Err p.2))
          (closed limits.bytes limits.tokens limits.depth font c.args.glyphs.now c.in_err-opened.field-0.0 (refused font c.in_err-opened.field-0.0 c.in_err-opened.ensures.err));
    }

pub returns : goal.returns
returns c =
    let limits = c.args.options.now.limits in
    record { promise = subst (λ (f : Font). IsEmbedPromised limits.bytes limits.tokens limits.depth f c.args.glyphs.now c.embed_opened.result) c.in_ok-opened.ensures.font c.embed_opened.ensures.promise }
