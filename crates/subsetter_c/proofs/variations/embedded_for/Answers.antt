use Rattle.std.proofs.Common.{◌∙◌}
use Rattle.std.proofs.lemmas.Result.{err_from_is_err_and}
use Rattle.subsetter_sfnt.specs.Read.{Font}
use Rattle.subsetter_c.specs.Settings.{settings_of}
use Rattle.subsetter_c.proofs.AtCoordinates.{embedding_unopened, embedding_sound, embedding_refused}
use Rattle.subsetter_c.proofs.variations.embedded_for.Goals as goal

pub returns-in_err-settings-clause-err : goal.returns-in_err-settings-clause-err
returns-in_err-settings-clause-err c =
    let p = err_from_is_err_and c.from_residual.result c.from_residual.ensures.1 in
    let font : Font = record { bytes = c.args.font.now; index = c.args.index; extras = c.args.options.now.extras } in
    rw (p.1, p.2) (embedding_unopened c.args.options.now.limits.bytes c.args.options.now.limits.tokens c.args.options.now.limits.depth font (settings_of c.args.coordinates.now) c.args.glyphs.now c.in_err-settings.field-0.0 c.in_err-settings.ensures.err c.in_err-settings.ensures.before_memory)

pub returns-clause-ok : goal.returns-clause-ok
returns-clause-ok c =
    let font : Font = record { bytes = c.args.font.now; index = c.args.index; extras = c.args.options.now.extras } in
    let of = c.embed_with_variations_and_options.ensures in
    embedding_sound c.args.options.now.limits.bytes c.args.options.now.limits.tokens c.args.options.now.limits.depth font (settings_of c.args.coordinates.now) c.args.glyphs.now c.deref.result.now (c.deref.ensures.value ∙ c.in_ok-settings.ensures.ok) c.embed_with_variations_and_options.result of.promise of.drawn of.drawn_cff

pub returns-clause-err : goal.returns-clause-err
returns-clause-err c =
    let font : Font = record { bytes = c.args.font.now; index = c.args.index; extras = c.args.options.now.extras } in
    let of = c.embed_with_variations_and_options.ensures in
    embedding_refused c.args.options.now.limits.bytes c.args.options.now.limits.tokens c.args.options.now.limits.depth font (settings_of c.args.coordinates.now) c.args.glyphs.now c.deref.result.now (c.deref.ensures.value ∙ c.in_ok-settings.ensures.ok) c.embed_with_variations_and_options.result of.promise
