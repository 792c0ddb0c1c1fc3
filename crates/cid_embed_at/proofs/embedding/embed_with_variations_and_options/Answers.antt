use Rattle.std.proofs.Common.{ℕ, List, None, Err, sym, ap, subst, ◌∙◌}
use Rattle.std.proofs.lemmas.Result.{err_from_is_err_and}
use Rattle.subsetter_base.specs.declared.error.Error.{Error}
use Rattle.subsetter_base.proofs.Results.{ok_not_err}
use Rattle.subsetter_sfnt.specs.FontAt.{font_at}
use Rattle.subsetter_sfnt.specs.Read.{Font}
use Rattle.subsetter_variable.specs.DefaultLocation.{IsAtDefault, IsCff2Font, IsStaticFile, HasStaticFault}
use Rattle.subsetter_variable.specs.Subset.{IsStatic, as_it_is, whole}
use Rattle.subsetter_variable.proofs.Afresh.{not_drawn, drawn_by}
use Rattle.subsetter_variable.proofs.Blended.{not_blended, blended_by}
use Rattle.subsetter_variable.proofs.Static.{static_of, opened_at, some_apart}
use Rattle.cid_embed.specs.Embed.{numbering}
use Rattle.cid_embed.specs.declared.embedding.Embedded.{Embedded}
use Rattle.cid_embed_at.specs.Embed.{IsEmbedPromisedAt}
use Rattle.cid_embed_at.proofs.AtPlace.{unnumbered, unnumbered_final, unmade, unmade_final, refused, promised_at, subset_in}
use Rattle.cid_embed_at.proofs.embedding.embed_with_variations_and_options.Goals as goal

pub returns-in_err-mapper-clause-promise : goal.returns-in_err-mapper-clause-promise
returns-in_err-mapper-clause-promise c =
    let p = err_from_is_err_and c.from_residual.result c.from_residual.ensures.1 in
    let font : Font = font_at c.args.«data».now c.args.index c.args.options.now.extras in
    subst (IsEmbedPromisedAt c.args.options.now.limits.bytes c.args.options.now.limits.tokens c.args.options.now.limits.depth font c.args.coordinates.now c.args.glyphs.now) (sym (p.1 ∙ ap Err p.2))
    (refused c.args.options.now.limits.bytes c.args.options.now.limits.tokens c.args.options.now.limits.depth font c.args.coordinates.now c.args.glyphs.now c.in_err-mapper.field-0.0
    (unnumbered c.args.options.now.limits.bytes c.args.options.now.limits.tokens c.args.options.now.limits.depth font c.args.coordinates.now c.args.glyphs.now c.in_err-mapper.field-0.0 c.in_err-mapper.ensures.err)
    (unnumbered_final c.args.options.now.limits.bytes c.args.options.now.limits.tokens c.args.options.now.limits.depth font c.args.coordinates.now c.args.glyphs.now c.in_err-mapper.field-0.0 c.in_err-mapper.ensures.err)
    (λ e fault k. c.in_err-mapper.ensures.before_memory e fault (ap Err k)))

pub returns-in_err-made-clause-promise : goal.returns-in_err-made-clause-promise
returns-in_err-made-clause-promise c =
    let p = err_from_is_err_and c.from_residual-in_err-made.result c.from_residual-in_err-made.ensures.1 in
    let font : Font = font_at c.args.«data».now c.args.index c.args.options.now.extras in
    subst (IsEmbedPromisedAt c.args.options.now.limits.bytes c.args.options.now.limits.tokens c.args.options.now.limits.depth font c.args.coordinates.now c.args.glyphs.now) (sym (p.1 ∙ ap Err p.2))
    (refused c.args.options.now.limits.bytes c.args.options.now.limits.tokens c.args.options.now.limits.depth font c.args.coordinates.now c.args.glyphs.now c.in_err-made.field-0.0
    (unmade c.args.options.now.limits.bytes c.args.options.now.limits.tokens c.args.options.now.limits.depth font c.args.coordinates.now c.args.glyphs.now c.in_ok-mapper.mapper c.in_ok-mapper.ensures.ok c.in_err-made.field-0.0 c.in_err-made.ensures.err)
    (unmade_final c.args.options.now.limits.bytes c.args.options.now.limits.tokens c.args.options.now.limits.depth font c.args.coordinates.now c.args.glyphs.now c.in_ok-mapper.mapper c.in_ok-mapper.ensures.ok c.in_err-made.field-0.0 c.in_err-made.ensures.err)
    (λ e fault k. ok_not_err c.static_font.result None c.in_err-made.field-0.0 (opened_at font e fault c.static_font.result c.static_font.ensures.without_memory) c.in_err-made.was))

pub returns-in-None-clause-promise : goal.returns-in-None-clause-promise
returns-in-None-clause-promise c =
    let font : Font = font_at c.args.«data».now c.args.index c.args.options.now.extras in
    let d : IsAtDefault (whole font) c.args.coordinates.now × (IsCff2Font (whole font) → ⊥) = rw c.in-None.is at c.in_ok-made.ensures.ok in
    let none : (why : Error) → HasStaticFault (whole font) c.args.coordinates.now (numbering c.args.glyphs.now) c.args.options.now.limits.tokens c.args.options.now.limits.depth why → ⊥
    = λ why. subst (λ (l : List ℕ). HasStaticFault (whole font) c.args.coordinates.now l c.args.options.now.limits.tokens c.args.options.now.limits.depth why → ⊥) c.in_ok-mapper.ensures.ok (c.in_ok-made.ensures.clean why) in
    promised_at c.args.options.now.limits.bytes c.args.options.now.limits.tokens c.args.options.now.limits.depth font c.args.coordinates.now c.args.glyphs.now font (as_it_is d.0 d.1) none c.embed_with_options.result
    (λ e fault. c.embed_with_options.ensures.promise.before_memory e fault.fault) c.embed_with_options.ensures.promise

pub returns-in-None-clause-drawn : goal.returns-in-None-clause-drawn
returns-in-None-clause-drawn c =
    let font : Font = font_at c.args.«data».now c.args.index c.args.options.now.extras in
    let d : IsAtDefault (whole font) c.args.coordinates.now × (IsCff2Font (whole font) → ⊥) = rw c.in-None.is at c.in_ok-made.ensures.ok in
    not_drawn font c.args.coordinates.now (numbering c.args.glyphs.now) d.0 {X = Embedded} (λ e. e.font.items) c.embed_with_options.result

pub returns-in-None-clause-drawn_cff : goal.returns-in-None-clause-drawn_cff
returns-in-None-clause-drawn_cff c =
    let font : Font = font_at c.args.«data».now c.args.index c.args.options.now.extras in
    let d : IsAtDefault (whole font) c.args.coordinates.now × (IsCff2Font (whole font) → ⊥) = rw c.in-None.is at c.in_ok-made.ensures.ok in
    not_blended font c.args.coordinates.now (numbering c.args.glyphs.now) d.1 {X = Embedded} (λ e. e.font.items) c.embed_with_options.result

pub returns-clause-promise : goal.returns-clause-promise
returns-clause-promise c =
    let font : Font = font_at c.args.«data».now c.args.index c.args.options.now.extras in
    let made : IsStaticFile (whole font) c.args.coordinates.now c.in_ok-mapper.mapper c.deref.result.now = rw c.deref.ensures.value (rw c.in-Some.is at c.in_ok-made.ensures.ok) in
    let file : IsStaticFile (whole font) c.args.coordinates.now (numbering c.args.glyphs.now) c.deref.result.now = subst (λ (l : List ℕ). IsStaticFile (whole font) c.args.coordinates.now l c.deref.result.now) c.in_ok-mapper.ensures.ok made in
    let static : Font = font_at c.deref.result.now 0 c.args.options.now.extras in
    let is : IsStatic font c.args.coordinates.now (numbering c.args.glyphs.now) static = static_of font c.args.coordinates.now (numbering c.args.glyphs.now) c.deref.result.now file in
    let none : (why : Error) → HasStaticFault (whole font) c.args.coordinates.now (numbering c.args.glyphs.now) c.args.options.now.limits.tokens c.args.options.now.limits.depth why → ⊥
    = λ why. subst (λ (l : List ℕ). HasStaticFault (whole font) c.args.coordinates.now l c.args.options.now.limits.tokens c.args.options.now.limits.depth why → ⊥) c.in_ok-mapper.ensures.ok (c.in_ok-made.ensures.clean why) in
    promised_at c.args.options.now.limits.bytes c.args.options.now.limits.tokens c.args.options.now.limits.depth font c.args.coordinates.now c.args.glyphs.now static is none c.embed_with_options-in-Some.result
    (λ e fault k. some_apart c.static_font.result c.in_ok-made.made c.in-Some.file c.in_ok-made.was c.in-Some.is (opened_at font e fault c.static_font.result c.static_font.ensures.without_memory))
    c.embed_with_options-in-Some.ensures.promise

pub returns-clause-drawn : goal.returns-clause-drawn
returns-clause-drawn c =
    let font : Font = font_at c.args.«data».now c.args.index c.args.options.now.extras in
    let made : IsStaticFile (whole font) c.args.coordinates.now c.in_ok-mapper.mapper c.deref.result.now = rw c.deref.ensures.value (rw c.in-Some.is at c.in_ok-made.ensures.ok) in
    let file : IsStaticFile (whole font) c.args.coordinates.now (numbering c.args.glyphs.now) c.deref.result.now = subst (λ (l : List ℕ). IsStaticFile (whole font) c.args.coordinates.now l c.deref.result.now) c.in_ok-mapper.ensures.ok made in
    let static : Font = font_at c.deref.result.now 0 c.args.options.now.extras in
    let is : IsStatic font c.args.coordinates.now (numbering c.args.glyphs.now) static = static_of font c.args.coordinates.now (numbering c.args.glyphs.now) c.deref.result.now file in
    drawn_by c.args.options.now.limits.tokens c.args.options.now.limits.depth font c.args.coordinates.now (numbering c.args.glyphs.now) c.deref.result.now file {X = Embedded} (λ e. e.font.items) c.embed_with_options-in-Some.result (subset_in c.args.options.now.limits.bytes c.args.options.now.limits.tokens c.args.options.now.limits.depth font c.args.coordinates.now c.args.glyphs.now static is c.embed_with_options-in-Some.result c.embed_with_options-in-Some.ensures.promise)

pub returns-clause-drawn_cff : goal.returns-clause-drawn_cff
returns-clause-drawn_cff c =
    let font : Font = font_at c.args.«data».now c.args.index c.args.options.now.extras in
    let made : IsStaticFile (whole font) c.args.coordinates.now c.in_ok-mapper.mapper c.deref.result.now = rw c.deref.ensures.value (rw c.in-Some.is at c.in_ok-made.ensures.ok) in
    let file : IsStaticFile (whole font) c.args.coordinates.now (numbering c.args.glyphs.now) c.deref.result.now = subst (λ (l : List ℕ). IsStaticFile (whole font) c.args.coordinates.now l c.deref.result.now) c.in_ok-mapper.ensures.ok made in
    let static : Font = font_at c.deref.result.now 0 c.args.options.now.extras in
    let is : IsStatic font c.args.coordinates.now (numbering c.args.glyphs.now) static = static_of font c.args.coordinates.now (numbering c.args.glyphs.now) c.deref.result.now file in
    blended_by c.args.options.now.limits.tokens c.args.options.now.limits.depth font c.args.coordinates.now (numbering c.args.glyphs.now) c.deref.result.now file {X = Embedded} (λ e. e.font.items) c.embed_with_options-in-Some.result (subset_in c.args.options.now.limits.bytes c.args.options.now.limits.tokens c.args.options.now.limits.depth font c.args.coordinates.now c.args.glyphs.now static is c.embed_with_options-in-Some.result c.embed_with_options-in-Some.ensures.promise)
