use Rattle.std.proofs.Common.{ℕ, Vec, Global, None, Err, sym, ap, subst, ◌∙◌}
use Rattle.std.proofs.lemmas.Result.{err_from_is_err_and}
use Rattle.subsetter_base.proofs.Results.{ok_not_err}
use Rattle.subsetter_sfnt.specs.FontAt.{font_at}
use Rattle.subsetter_sfnt.specs.Read.{Font}
use Rattle.subsetter.proofs.Headline.{promised_subset}
use Rattle.subsetter_variable.specs.DefaultLocation.{IsAtDefault, IsCff2Font, IsStaticFile}
use Rattle.subsetter_variable.specs.Promise.{IsPromisedAt}
use Rattle.subsetter_variable.specs.Subset.{as_it_is, whole}
use Rattle.subsetter_variable.proofs.Afresh.{not_drawn, drawn_by}
use Rattle.subsetter_variable.proofs.Blended.{not_blended, blended_by}
use Rattle.subsetter_variable.proofs.Static.{static_of, opened_at, some_apart, promised_at, unmade_promise}
use Rattle.subsetter_variable.proofs.subsetting.subset_with_variations_and_options.Goals as goal

pub returns-in_err-made-clause-promise : goal.returns-in_err-made-clause-promise
returns-in_err-made-clause-promise c =
    let p = err_from_is_err_and c.from_residual.result c.from_residual.ensures.1 in
    let font : Font = font_at c.args.«data».now c.args.index c.args.options.now.extras in
    subst (λ r. IsPromisedAt (λ v. v.items) c.args.options.now.limits.bytes c.args.options.now.limits.tokens c.args.options.now.limits.depth font c.args.coordinates.now c.args.mapper.now r) (sym (p.1 ∙ ap Err p.2))
    (unmade_promise c.args.options.now.limits.bytes c.args.options.now.limits.tokens c.args.options.now.limits.depth font c.args.coordinates.now c.args.mapper.now {X = Vec ℕ Global} (λ v. v.items) c.in_err-made.field-0.0 c.in_err-made.ensures.err
    (λ e fault. ok_not_err c.static_font.result None c.in_err-made.field-0.0 (opened_at font e fault c.static_font.result c.static_font.ensures.without_memory) c.in_err-made.was))

pub returns-in-None-clause-promise : goal.returns-in-None-clause-promise
returns-in-None-clause-promise c =
    let font : Font = font_at c.args.«data».now c.args.index c.args.options.now.extras in
    let d : IsAtDefault (whole font) c.args.coordinates.now × (IsCff2Font (whole font) → ⊥) = rw c.in-None.is at c.in_ok-made.ensures.ok in
    promised_at font c.args.coordinates.now c.args.mapper.now font (as_it_is d.0 d.1) c.args.options.now.limits.bytes c.args.options.now.limits.tokens c.args.options.now.limits.depth c.in_ok-made.ensures.clean {X = Vec ℕ Global} (λ v. v.items) c.subset_with_options.result
    (λ e fault. c.subset_with_options.ensures.promise.before_memory e fault.fault) c.subset_with_options.ensures.promise

pub returns-in-None-clause-drawn : goal.returns-in-None-clause-drawn
returns-in-None-clause-drawn c =
    let font : Font = font_at c.args.«data».now c.args.index c.args.options.now.extras in
    let d : IsAtDefault (whole font) c.args.coordinates.now × (IsCff2Font (whole font) → ⊥) = rw c.in-None.is at c.in_ok-made.ensures.ok in
    not_drawn font c.args.coordinates.now c.args.mapper.now d.0 {X = Vec ℕ Global} (λ v. v.items) c.subset_with_options.result

pub returns-in-None-clause-drawn_cff : goal.returns-in-None-clause-drawn_cff
returns-in-None-clause-drawn_cff c =
    let font : Font = font_at c.args.«data».now c.args.index c.args.options.now.extras in
    let d : IsAtDefault (whole font) c.args.coordinates.now × (IsCff2Font (whole font) → ⊥) = rw c.in-None.is at c.in_ok-made.ensures.ok in
    not_blended font c.args.coordinates.now c.args.mapper.now d.1 {X = Vec ℕ Global} (λ v. v.items) c.subset_with_options.result

pub returns-in-Some-clause-promise : goal.returns-in-Some-clause-promise
returns-in-Some-clause-promise c =
    let font : Font = font_at c.args.«data».now c.args.index c.args.options.now.extras in
    let made : IsStaticFile (whole font) c.args.coordinates.now c.args.mapper.now c.deref.result.now = rw c.deref.ensures.value (rw c.in-Some.is at c.in_ok-made.ensures.ok) in
    let static : Font = font_at c.deref.result.now 0 c.args.options.now.extras in
    promised_at font c.args.coordinates.now c.args.mapper.now static (static_of font c.args.coordinates.now c.args.mapper.now c.deref.result.now made) c.args.options.now.limits.bytes c.args.options.now.limits.tokens c.args.options.now.limits.depth c.in_ok-made.ensures.clean {X = Vec ℕ Global} (λ v. v.items) c.subset_with_options-in-Some.result
    (λ e fault k. some_apart c.static_font.result c.in_ok-made.made c.in-Some.file c.in_ok-made.was c.in-Some.is (opened_at font e fault c.static_font.result c.static_font.ensures.without_memory))
    c.subset_with_options-in-Some.ensures.promise

pub returns-in-Some-clause-drawn : goal.returns-in-Some-clause-drawn
returns-in-Some-clause-drawn c =
    let font : Font = font_at c.args.«data».now c.args.index c.args.options.now.extras in
    let made : IsStaticFile (whole font) c.args.coordinates.now c.args.mapper.now c.deref.result.now = rw c.deref.ensures.value (rw c.in-Some.is at c.in_ok-made.ensures.ok) in
    let static : Font = font_at c.deref.result.now 0 c.args.options.now.extras in
    drawn_by c.args.options.now.limits.tokens c.args.options.now.limits.depth font c.args.coordinates.now c.args.mapper.now c.deref.result.now made {X = Vec ℕ Global} (λ v. v.items) c.subset_with_options-in-Some.result
    (promised_subset {X = Vec ℕ Global} (λ v. v.items) c.args.options.now.limits.bytes c.args.options.now.limits.tokens c.args.options.now.limits.depth static c.args.mapper.now c.subset_with_options-in-Some.result c.subset_with_options-in-Some.ensures.promise)

pub returns-in-Some-clause-drawn_cff : goal.returns-in-Some-clause-drawn_cff
returns-in-Some-clause-drawn_cff c =
    let font : Font = font_at c.args.«data».now c.args.index c.args.options.now.extras in
    let made : IsStaticFile (whole font) c.args.coordinates.now c.args.mapper.now c.deref.result.now = rw c.deref.ensures.value (rw c.in-Some.is at c.in_ok-made.ensures.ok) in
    let static : Font = font_at c.deref.result.now 0 c.args.options.now.extras in
    blended_by c.args.options.now.limits.tokens c.args.options.now.limits.depth font c.args.coordinates.now c.args.mapper.now c.deref.result.now made {X = Vec ℕ Global} (λ v. v.items) c.subset_with_options-in-Some.result
    (promised_subset {X = Vec ℕ Global} (λ v. v.items) c.args.options.now.limits.bytes c.args.options.now.limits.tokens c.args.options.now.limits.depth static c.args.mapper.now c.subset_with_options-in-Some.result c.subset_with_options-in-Some.ensures.promise)
