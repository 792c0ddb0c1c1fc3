use Rattle.std.proofs.Common.{Err, sym, ap, subst, ◌∙◌}
use Rattle.std.proofs.lemmas.Result.{err_from_is_err_and}
use Rattle.subsetter_sfnt.specs.Read.{Font}
use Rattle.cid_embed.specs.Embed.{IsEmbedPromised}
use Rattle.cid_embed.proofs.Promises.{refused, mapper_refused, mapper_final}
use Rattle.cid_embed.proofs.embedding.embed_with_options.Goals as goal

pub returns-in_err-mapper : goal.returns-in_err-mapper
returns-in_err-mapper c =
    let font : Font = record { bytes = c.args.«data».now; index = c.args.index; extras = c.args.options.now.extras } in
    let p = err_from_is_err_and c.from_residual.result c.from_residual.ensures.1 in
    record {
      promise = subst (IsEmbedPromised c.args.options.now.limits.bytes c.args.options.now.limits.tokens c.args.options.now.limits.depth font c.args.glyphs.now) (sym (p.1 ∙ ap Err p.2))
          (refused c.args.options.now.limits.bytes c.args.options.now.limits.tokens c.args.options.now.limits.depth font c.args.glyphs.now c.in_err-mapper.field-0.0
          (mapper_refused c.args.options.now.limits.bytes c.args.options.now.limits.tokens c.args.options.now.limits.depth font c.args.glyphs.now c.in_err-mapper.field-0.0 c.in_err-mapper.ensures.err)
          (mapper_final c.args.options.now.limits.bytes c.args.options.now.limits.tokens c.args.options.now.limits.depth font c.args.glyphs.now c.in_err-mapper.field-0.0 c.in_err-mapper.ensures.err)
          (λ e fault k. c.in_err-mapper.ensures.before_memory e fault (ap Err k)));
    }
