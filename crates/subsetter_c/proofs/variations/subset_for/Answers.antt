use Rattle.std.proofs.Common.{◌∙◌}
use Rattle.std.proofs.lemmas.Result.{err_from_is_err_and}
use Rattle.subsetter_sfnt.specs.Read.{Font}
use Rattle.subsetter_c.specs.Settings.{settings_of}
use Rattle.subsetter_c.proofs.AtCoordinates.{opening_refused, mapper_refused, subset_refused, subset_sound}
use Rattle.subsetter_c.proofs.variations.subset_for.Goals as goal

pub returns-in_err-settings-clause-err : goal.returns-in_err-settings-clause-err
returns-in_err-settings-clause-err c =
    let p = err_from_is_err_and c.from_residual.result c.from_residual.ensures.1 in
    let font : Font = record { bytes = c.args.font.now; index = c.args.index; extras = c.args.options.now.extras } in
    rw (p.1, p.2) (opening_refused c.args.options.now.limits.bytes c.args.options.now.limits.tokens c.args.options.now.limits.depth font (settings_of c.args.coordinates.now) c.args.glyphs.now c.in_err-settings.field-0.0 c.in_err-settings.ensures.err c.in_err-settings.ensures.before_memory)

pub returns-in_err-mapper-clause-err : goal.returns-in_err-mapper-clause-err
returns-in_err-mapper-clause-err c =
    let p = err_from_is_err_and c.from_residual-in_err-mapper.result c.from_residual-in_err-mapper.ensures.1 in
    let font : Font = record { bytes = c.args.font.now; index = c.args.index; extras = c.args.options.now.extras } in
    rw (p.1, p.2) (mapper_refused c.args.options.now.limits.bytes c.args.options.now.limits.tokens c.args.options.now.limits.depth font (settings_of c.args.coordinates.now) c.args.glyphs.now c.in_err-mapper.field-0.0 c.in_err-mapper.ensures.err c.in_err-mapper.ensures.before_memory)

pub returns-clause-ok : goal.returns-clause-ok
returns-clause-ok c =
    let font : Font = record { bytes = c.args.font.now; index = c.args.index; extras = c.args.options.now.extras } in
    let of = c.subset_with_variations_and_options.ensures in
    subset_sound c.args.options.now.limits.bytes c.args.options.now.limits.tokens c.args.options.now.limits.depth font (settings_of c.args.coordinates.now) c.args.glyphs.now c.deref.result.now c.in_ok-mapper.mapper (c.deref.ensures.value ∙ c.in_ok-settings.ensures.ok) c.in_ok-mapper.ensures.ok c.subset_with_variations_and_options.result of.promise of.drawn of.drawn_cff

pub returns-clause-err : goal.returns-clause-err
returns-clause-err c =
    let font : Font = record { bytes = c.args.font.now; index = c.args.index; extras = c.args.options.now.extras } in
    let of = c.subset_with_variations_and_options.ensures in
    subset_refused c.args.options.now.limits.bytes c.args.options.now.limits.tokens c.args.options.now.limits.depth font (settings_of c.args.coordinates.now) c.args.glyphs.now c.deref.result.now c.in_ok-mapper.mapper (c.deref.ensures.value ∙ c.in_ok-settings.ensures.ok) c.in_ok-mapper.ensures.ok c.subset_with_variations_and_options.result of.promise
