use Rattle.std.proofs.Common.{◌≡◌, ◌<◌, ℕ, List, length, refl, subst, ◌∙◌, arith}
use Rattle.std.proofs.lemmas.Result.{err_from_is_err_and}
use Rattle.subsetter_sfnt.specs.Read.{Font, table_in}
use Rattle.subsetter_variable.specs.Afresh.{HasGlyphsDrawn}
use Rattle.subsetter_variable.specs.Blended.{HasGlyphsBlended}
use Rattle.subsetter_variable.specs.DefaultLocation.{IsAtDefault, IsCff2Font}
use Rattle.subsetter_variable.specs.Subset.{whole}
use Rattle.cid_embed.specs.Embed.{numbering}
use Rattle.cid_embed_at.proofs.AtPlace.{one_font}
use Rattle.pdf_codes.specs.Codes.{glyphs_of}
use Rattle.pdf_codes.specs.Shown.{uses_of}
use Rattle.pdf_source.specs.Made.{made_seen}
use Rattle.pdf_font.specs.PdfFont.{font_of}
use Rattle.pdf_source.specs.declared.program.NewFont.{NewFont}
use Rattle.pdf_font.proofs.Answered.{all_answered, at_us, embed_final, embed_refused, few, filled_final, filled_refused, new_final, new_refused, permission_taken, refused, widths_few, widths_some}
use Rattle.pdf_font.proofs.call.made.Goals as goal

pub returns-in_err-embedded-clause-err : goal.returns-in_err-embedded-clause-err
returns-in_err-embedded-clause-err c =
    let p = err_from_is_err_and c.from_residual-in_err-embedded.result c.from_residual-in_err-embedded.ensures.1 in
    let font : Font = font_of c.args.«data».now c.args.index c.args.options.now in
    let eg = c.deref.ensures.value ∙ c.in_ok-glyphs.ensures.ok in
    rw (p.1, p.2) (embed_refused font c.args.coordinates.now c.args.options.now (uses_of c.args.shown.now) c.deref.result.now eg c.in_err-embedded.field-0.0 c.in_err-embedded.ensures.promise.err)

pub returns-in_err-embedded-clause-no_answer : goal.returns-in_err-embedded-clause-no_answer
returns-in_err-embedded-clause-no_answer c =
    let p = err_from_is_err_and c.from_residual-in_err-embedded.result c.from_residual-in_err-embedded.ensures.1 in
    let font : Font = font_of c.args.«data».now c.args.index c.args.options.now in
    let eg = c.deref.ensures.value ∙ c.in_ok-glyphs.ensures.ok in
    rw (p.1, p.2) (embed_final font c.args.coordinates.now c.args.options.now (uses_of c.args.shown.now) c.deref.result.now eg c.in_err-embedded.field-0.0 c.in_err-embedded.ensures.promise.no_answer)

pub overflow_cast-requested : goal.overflow_cast-requested
overflow_cast-requested c =
    let font : Font = font_of c.args.«data».now c.args.index c.args.options.now in
    let find = table_in c.args.face.now.«data».now c.args.face.now.records.now in
    let eg = c.deref.ensures.value ∙ c.in_ok-glyphs.ensures.ok in
    let e = c.in_ok-embedded.embedded in
    let size : c.len-requested.result ≡ length e.widths.items = omega (arith, c.len-requested.ensures, e.widths.ok.0) in
    let a = at_us font c.args.coordinates.now c.args.options.now (uses_of c.args.shown.now) c.deref.result.now eg e c.in_ok-embedded.ensures.promise.exact in
    let small : length e.widths.items < 65536 = few font c.args.coordinates.now c.args.options.now (uses_of c.args.shown.now) e a find c.requires.find (length e.widths.items) refl in
    let is = c.len-requested.ensures in
    omega arith

pub returns-in_err-new-clause-err : goal.returns-in_err-new-clause-err
returns-in_err-new-clause-err c =
    let p = err_from_is_err_and c.from_residual-in_err-new.result c.from_residual-in_err-new.ensures.1 in
    let font : Font = font_of c.args.«data».now c.args.index c.args.options.now in
    let find = table_in c.args.face.now.«data».now c.args.face.now.records.now in
    let eg = c.deref.ensures.value ∙ c.in_ok-glyphs.ensures.ok in
    let e = c.in_ok-embedded.embedded in
    let size : c.len-requested.result ≡ length e.widths.items = omega (arith, c.len-requested.ensures, e.widths.ok.0) in
    let a = at_us font c.args.coordinates.now c.args.options.now (uses_of c.args.shown.now) c.deref.result.now eg e c.in_ok-embedded.ensures.promise.exact in
    rw (p.1, p.2) (new_refused font c.args.coordinates.now c.args.options.now (uses_of c.args.shown.now) e a find c.requires.find c.len-requested.result size c.in_err-new.field-0.0 (refused font c.args.coordinates.now c.args.options.now (uses_of c.args.shown.now) e a find c.requires.find c.len-requested.result size {X = NewFont} made_seen c.in_err-new.field-0.0 c.in_err-new.ensures))

pub returns-in_err-new-clause-no_answer : goal.returns-in_err-new-clause-no_answer
returns-in_err-new-clause-no_answer c =
    let p = err_from_is_err_and c.from_residual-in_err-new.result c.from_residual-in_err-new.ensures.1 in
    let font : Font = font_of c.args.«data».now c.args.index c.args.options.now in
    let find = table_in c.args.face.now.«data».now c.args.face.now.records.now in
    let eg = c.deref.ensures.value ∙ c.in_ok-glyphs.ensures.ok in
    let e = c.in_ok-embedded.embedded in
    let size : c.len-requested.result ≡ length e.widths.items = omega (arith, c.len-requested.ensures, e.widths.ok.0) in
    let a = at_us font c.args.coordinates.now c.args.options.now (uses_of c.args.shown.now) c.deref.result.now eg e c.in_ok-embedded.ensures.promise.exact in
    let same = one_font c.args.options.now.limits.tokens c.args.options.now.limits.depth font c.args.coordinates.now (glyphs_of (uses_of c.args.shown.now)) e a in
    rw (p.1, p.2) (new_final font c.args.coordinates.now c.args.options.now (uses_of c.args.shown.now) e a find c.requires.find c.len-requested.result size same c.in_err-new.field-0.0 (refused font c.args.coordinates.now c.args.options.now (uses_of c.args.shown.now) e a find c.requires.find c.len-requested.result size {X = NewFont} made_seen c.in_err-new.field-0.0 c.in_err-new.ensures))

pub filled-requires-clause-glyphs : goal.filled-requires-clause-glyphs
filled-requires-clause-glyphs c =
    c.deref-2.ensures.value ∙ c.in_ok-glyphs.ensures.ok

pub filled-requires-clause-cids : goal.filled-requires-clause-cids
filled-requires-clause-cids c =
    let font : Font = font_of c.args.«data».now c.args.index c.args.options.now in
    let eg = c.deref.ensures.value ∙ c.in_ok-glyphs.ensures.ok in
    let e = c.in_ok-embedded.embedded in
    let size : c.len-requested.result ≡ length e.widths.items = omega (arith, c.len-requested.ensures, e.widths.ok.0) in
    let a = at_us font c.args.coordinates.now c.args.options.now (uses_of c.args.shown.now) c.deref.result.now eg e c.in_ok-embedded.ensures.promise.exact in
    a.answer.embedded.cids

pub filled-requires-clause-some : goal.filled-requires-clause-some
filled-requires-clause-some c =
    let font : Font = font_of c.args.«data».now c.args.index c.args.options.now in
    let find = table_in c.args.face.now.«data».now c.args.face.now.records.now in
    let eg = c.deref.ensures.value ∙ c.in_ok-glyphs.ensures.ok in
    let e = c.in_ok-embedded.embedded in
    let size : c.len-requested.result ≡ length e.widths.items = omega (arith, c.len-requested.ensures, e.widths.ok.0) in
    let a = at_us font c.args.coordinates.now c.args.options.now (uses_of c.args.shown.now) c.deref.result.now eg e c.in_ok-embedded.ensures.promise.exact in
    widths_some font c.args.coordinates.now c.args.options.now (uses_of c.args.shown.now) e a find c.requires.find c.len-requested.result size c.in_ok-new.new c.in_ok-new.ensures

pub filled-requires-clause-few : goal.filled-requires-clause-few
filled-requires-clause-few c =
    let font : Font = font_of c.args.«data».now c.args.index c.args.options.now in
    let find = table_in c.args.face.now.«data».now c.args.face.now.records.now in
    let eg = c.deref.ensures.value ∙ c.in_ok-glyphs.ensures.ok in
    let e = c.in_ok-embedded.embedded in
    let size : c.len-requested.result ≡ length e.widths.items = omega (arith, c.len-requested.ensures, e.widths.ok.0) in
    let a = at_us font c.args.coordinates.now c.args.options.now (uses_of c.args.shown.now) c.deref.result.now eg e c.in_ok-embedded.ensures.promise.exact in
    let few : length c.in_ok-new.new.profile.widths.items < 65536 = widths_few font c.args.coordinates.now c.args.options.now (uses_of c.args.shown.now) e a find c.requires.find c.len-requested.result size c.in_ok-new.new c.in_ok-new.ensures in
    omega arith

pub returns-clause-ok : goal.returns-clause-ok
returns-clause-ok c =
    let font : Font = font_of c.args.«data».now c.args.index c.args.options.now in
    let find = table_in c.args.face.now.«data».now c.args.face.now.records.now in
    let eg = c.deref.ensures.value ∙ c.in_ok-glyphs.ensures.ok in
    let e = c.in_ok-embedded.embedded in
    let size : c.len-requested.result ≡ length e.widths.items = omega (arith, c.len-requested.ensures, e.widths.ok.0) in
    let a = at_us font c.args.coordinates.now c.args.options.now (uses_of c.args.shown.now) c.deref.result.now eg e c.in_ok-embedded.ensures.promise.exact in
    let same = one_font c.args.options.now.limits.tokens c.args.options.now.limits.depth font c.args.coordinates.now (glyphs_of (uses_of c.args.shown.now)) e a in
    let drawn = subst (λ (l : List ℕ). (IsAtDefault (whole font) c.args.coordinates.now → ⊥) → HasGlyphsDrawn (whole font) c.args.coordinates.now (numbering l) e.font.items) eg c.in_ok-embedded.ensures.drawn in
    let blended = subst (λ (l : List ℕ). IsCff2Font (whole font) → HasGlyphsBlended (whole font) c.args.coordinates.now (numbering l) e.font.items) eg c.in_ok-embedded.ensures.drawn_cff in
    all_answered font c.args.coordinates.now c.args.options.now (uses_of c.args.shown.now) e a find c.requires.find c.len-requested.result size c.in_ok-new.new c.in_ok-new.ensures c.in_ok-embedded.ensures.promise.within same drawn blended c.args.permission c.deref-3.result.now c.deref-3.ensures.value c.filled.result c.filled.ensures.ok c.filled.ensures.takes

pub returns-clause-permission : goal.returns-clause-permission
returns-clause-permission c =
    permission_taken c.in_ok-new.new c.in_ok-embedded.embedded.cids.items c.args.permission c.filled.result c.filled.ensures.takes

pub returns-clause-err : goal.returns-clause-err
returns-clause-err c =
    let font : Font = font_of c.args.«data».now c.args.index c.args.options.now in
    let find = table_in c.args.face.now.«data».now c.args.face.now.records.now in
    let eg = c.deref.ensures.value ∙ c.in_ok-glyphs.ensures.ok in
    let e = c.in_ok-embedded.embedded in
    let size : c.len-requested.result ≡ length e.widths.items = omega (arith, c.len-requested.ensures, e.widths.ok.0) in
    let a = at_us font c.args.coordinates.now c.args.options.now (uses_of c.args.shown.now) c.deref.result.now eg e c.in_ok-embedded.ensures.promise.exact in
    let eh = c.deref-2.ensures.value ∙ c.in_ok-glyphs.ensures.ok in
    filled_refused font c.args.coordinates.now c.args.options.now (uses_of c.args.shown.now) e a find c.requires.find c.len-requested.result size c.deref-2.result.now eh c.filled.result c.filled.ensures.err

pub returns-clause-no_answer : goal.returns-clause-no_answer
returns-clause-no_answer c =
    let font : Font = font_of c.args.«data».now c.args.index c.args.options.now in
    let find = table_in c.args.face.now.«data».now c.args.face.now.records.now in
    let eg = c.deref.ensures.value ∙ c.in_ok-glyphs.ensures.ok in
    let e = c.in_ok-embedded.embedded in
    let size : c.len-requested.result ≡ length e.widths.items = omega (arith, c.len-requested.ensures, e.widths.ok.0) in
    let a = at_us font c.args.coordinates.now c.args.options.now (uses_of c.args.shown.now) c.deref.result.now eg e c.in_ok-embedded.ensures.promise.exact in
    let eh = c.deref-2.ensures.value ∙ c.in_ok-glyphs.ensures.ok in
    filled_final font c.args.coordinates.now c.args.options.now (uses_of c.args.shown.now) e a find c.requires.find c.len-requested.result size c.deref-2.result.now eh c.filled.result c.filled.ensures.err
