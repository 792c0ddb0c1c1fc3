use Rattle.std.proofs.Common.{◌≡◌, ℕ, List, Option, Some, None, sym, ap, subst, ◌∙◌}
use Rattle.std.specs.Option.{option_map}
use Rattle.std.proofs.lemmas.Result.{IfErr-weaker, IfOk-weaker, err_from_is_err_and}
use Rattle.subsetter_base.specs.declared.error.Error.TheVariants.{MalformedFont}
use Rattle.subsetter_base.proofs.Results.{named_err, named_ok}
use Rattle.subsetter_sfnt.specs.Read.{as_font, stored}
use Rattle.own_glyphs.specs.Own.{IsMade}
use Rattle.own_glyphs.specs.Refused.{IsUnmade, unmade, unopened, unread}
use Rattle.own_glyphs.specs.Source.{source_in}
use Rattle.own_glyphs.specs.View.{seen}
use Rattle.own_glyphs.proofs.Afresh.{made_own}
use Rattle.own_glyphs.proofs.Making.{found}
use Rattle.own_glyphs.proofs.adding.with_own_glyphs.Goals as goal

pub returns-in_err-face-clause-err : goal.returns-in_err-face-clause-err
returns-in_err-face-clause-err c =
    let p = err_from_is_err_and c.from_residual.result c.from_residual.ensures.1 in
    rw (p.1, p.2) (unopened c.in_err-face.ensures.err)

pub returns-in_err-source-clause-err : goal.returns-in_err-source-clause-err
returns-in_err-source-clause-err c =
    let p = err_from_is_err_and c.from_residual-in_err-source.result c.from_residual-in_err-source.ensures.1 in
    let n = named_err c.source_in.result MalformedFont c.in_err-source.field-0.0 (sym c.in_err-source.ensures.value) in
    let f = c.in_ok-face.ensures.ok in
    let same = found c.args.font.now c.in_ok-face.face.«data».now c.in_ok-face.face.records.now f.0 f.1 in
    let none : source_in (stored (as_font c.args.font.now)) ≡ None = ap source_in (sym same) ∙ sym c.source_in.ensures.value ∙ ap (option_map seen) n.0 in
    rw (p.1, p.2, sym n.1) (unread none)

pub returns-clause-ok : goal.returns-clause-ok
returns-clause-ok c =
    let f = c.in_ok-face.ensures.ok in
    let s = seen c.in_ok-source.source in
    let same = found c.args.font.now c.in_ok-face.face.«data».now c.in_ok-face.face.records.now f.0 f.1 in
    let read : source_in (stored (as_font c.args.font.now)) ≡ Some s = ap source_in (sym same) ∙ sym c.source_in.ensures.value ∙ ap (option_map seen) (named_ok c.source_in.result MalformedFont c.in_ok-source.source (sym c.in_ok-source.ensures.value)) in
    IfOk-weaker c.made.result _ _ (λ v m. made_own c.args.font.now c.in_ok-face.ensures.bytes s read c.args.own.now v.items (subst (λ (find : List ℕ → Option (List ℕ)). IsMade find s c.args.own.now v.items) same m)) c.made.ensures.ok

pub returns-clause-err : goal.returns-clause-err
returns-clause-err c =
    let f = c.in_ok-face.ensures.ok in
    let s = seen c.in_ok-source.source in
    let same = found c.args.font.now c.in_ok-face.face.«data».now c.in_ok-face.face.records.now f.0 f.1 in
    let read : source_in (stored (as_font c.args.font.now)) ≡ Some s = ap source_in (sym same) ∙ sym c.source_in.ensures.value ∙ ap (option_map seen) (named_ok c.source_in.result MalformedFont c.in_ok-source.source (sym c.in_ok-source.ensures.value)) in
    IfErr-weaker c.made.result _ _ (λ e u. unmade s read (subst (λ (find : List ℕ → Option (List ℕ)). IsUnmade find s c.args.own.now e) same u)) c.made.ensures.err
