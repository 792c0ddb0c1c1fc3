use Rattle.std.proofs.Common.{ℕ, List, Vec, Global, Err, inl, refl, sym, ap, subst, ◌∙◌}
use Rattle.std.proofs.lemmas.Result.{err_from_is_err_and}
use Rattle.subsetter_sfnt.specs.Opening.{font_opened}
use Rattle.subsetter_sfnt.specs.Read.{Font}
use Rattle.subsetter.specs.Answer.{IsAnswer}
use Rattle.subsetter.specs.Fault.{in_opening}
use Rattle.cid_embed.specs.Embed.{IsEmbedPromised}
use Rattle.cid_embed.proofs.Promises.{asked_known, refused, subset_refused, subset_final, widths_refused, widths_final, answered}
use Rattle.cid_embed.proofs.embedding.embed_opened.Goals as goal

pub cids-requires : goal.cids-requires
cids-requires c = λ k d lt. asked_known c.args.glyphs.now c.args.mapper.now k d c.requires.numbers lt

pub returns-in_err-font : goal.returns-in_err-font
returns-in_err-font c =
    let font : Font = font_opened c.args.opened.now in
    let p = err_from_is_err_and c.from_residual.result c.from_residual.ensures.1 in
    record {
      promise = subst (IsEmbedPromised c.args.limits.now.bytes c.args.limits.now.tokens c.args.limits.now.depth font c.args.glyphs.now) (sym (p.1 ∙ ap Err p.2))
          (refused c.args.limits.now.bytes c.args.limits.now.tokens c.args.limits.now.depth font c.args.glyphs.now c.in_err-font.field-0.0
          (subset_refused c.args.limits.now.bytes c.args.limits.now.tokens c.args.limits.now.depth font c.args.glyphs.now c.args.mapper.now c.in_err-font.field-0.0 c.requires.numbers c.in_err-font.ensures.promise.err)
          (subset_final c.args.limits.now.bytes c.args.limits.now.tokens c.args.limits.now.depth font c.args.glyphs.now c.args.mapper.now c.in_err-font.field-0.0 c.requires.numbers c.in_err-font.ensures.promise.no_answer)
          (λ e fault k. c.in_err-font.ensures.promise.before_memory e fault (ap Err k)));
    }

pub returns-in_err-widths : goal.returns-in_err-widths
returns-in_err-widths c =
    let font : Font = font_opened c.args.opened.now in
    let p = err_from_is_err_and c.from_residual-in_err-widths.result c.from_residual-in_err-widths.ensures.1 in
    record {
      promise = subst (IsEmbedPromised c.args.limits.now.bytes c.args.limits.now.tokens c.args.limits.now.depth font c.args.glyphs.now) (sym (p.1 ∙ ap Err p.2))
          (refused c.args.limits.now.bytes c.args.limits.now.tokens c.args.limits.now.depth font c.args.glyphs.now c.in_err-widths.field-0.0
          (widths_refused c.args.limits.now.bytes c.args.limits.now.tokens c.args.limits.now.depth font c.args.glyphs.now c.args.mapper.now c.in_ok-font.font.items c.deref.result.now c.num_gids.result c.requires.numbers c.deref.ensures.value c.num_gids.ensures.count (c.in_ok-font.ensures.promise.exact.subset, c.in_ok-font.ensures.promise.exact.clean) {X = Vec ℕ Global} (λ v. v.items) c.in_err-widths.field-0.0 c.in_err-widths.ensures)
          (widths_final c.args.limits.now.bytes c.args.limits.now.tokens c.args.limits.now.depth font c.args.glyphs.now c.args.mapper.now c.in_ok-font.font.items c.deref.result.now c.num_gids.result c.requires.numbers c.deref.ensures.value c.num_gids.ensures.count (c.in_ok-font.ensures.promise.exact.subset, c.in_ok-font.ensures.promise.exact.clean) {X = Vec ℕ Global} (λ v. v.items) c.in_err-widths.field-0.0 c.in_err-widths.ensures)
          (λ e fault k. c.in_ok-font.ensures.promise.exact.clean e (in_opening fault)));
    }

pub returns-in_err-cids : goal.returns-in_err-cids
returns-in_err-cids c =
    let font : Font = font_opened c.args.opened.now in
    let p = err_from_is_err_and c.from_residual-in_err-cids.result c.from_residual-in_err-cids.ensures.1 in
    record {
      promise = subst (IsEmbedPromised c.args.limits.now.bytes c.args.limits.now.tokens c.args.limits.now.depth font c.args.glyphs.now) (sym (p.1 ∙ ap Err p.2))
          (refused c.args.limits.now.bytes c.args.limits.now.tokens c.args.limits.now.depth font c.args.glyphs.now c.in_err-cids.field-0.0
          (inl c.in_err-cids.ensures.err)
          (inl c.in_err-cids.ensures.err)
          (λ e fault k. c.in_ok-font.ensures.promise.exact.clean e (in_opening fault)));
    }

pub returns : goal.returns
returns c =
    let font : Font = font_opened c.args.opened.now in
    let all = answered c.args.limits.now.bytes c.args.limits.now.tokens c.args.limits.now.depth font c.args.glyphs.now c.args.mapper.now c.in_ok-font.font.items c.deref.result.now c.num_gids.result c.requires.numbers c.deref.ensures.value c.num_gids.ensures.count (c.in_ok-font.ensures.promise.exact.subset, c.in_ok-font.ensures.promise.exact.clean) (record { font = c.in_ok-font.font; cids = c.in_ok-cids.cids; widths = c.in_ok-widths.widths }) refl c.in_ok-widths.ensures c.in_ok-cids.ensures.ok c.requires.room in
    record {
      promise = record {
        exact = record { embedded = all.0; clean = all.1; font_is = subst (λ (l : List ℕ). IsAnswer c.args.limits.now.tokens c.args.limits.now.depth font l c.in_ok-font.font.items) c.requires.numbers c.in_ok-font.ensures.promise.exact };
        within = c.in_ok-font.ensures.promise.within;
        err = tt;
        no_answer = tt;
        before_memory = λ e f k. absurd (let is = k in cc);
      };
    }
