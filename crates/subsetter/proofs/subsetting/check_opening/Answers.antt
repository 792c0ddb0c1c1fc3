use Rattle.std.proofs.Common.{sym, ap, subst}
use Rattle.std.proofs.lemmas.Result.{err_from_is_err_and}
use Rattle.subsetter_base.specs.declared.error.Error.TheVariants.{Unimplemented}
use Rattle.subsetter_sfnt.specs.declared.flavor.FontFlavor.TheVariants.{TrueType, Cff}
use Rattle.subsetter_sfnt.specs.FontAt.{font_at}
use Rattle.subsetter_sfnt.specs.Opening.{flavor_of, font_opened}
use Rattle.subsetter_sfnt.specs.Fault.{HasOpeningFault}
use Rattle.subsetter_sfnt.specs.Read.{Font}
use Rattle.subsetter_sfnt.proofs.Laws.Opening.{refused, cff2_refused, has_none}
use Rattle.subsetter.proofs.subsetting.check_opening.Goals as goal

pub returns-in_err-open-clause-err : goal.returns-in_err-open-clause-err
returns-in_err-open-clause-err c =
    let p = err_from_is_err_and c.from_residual.result c.from_residual.ensures.1 in
    rw (p.1, p.2) (refused (font_at c.args.«data».now c.args.index c.args.extras) c.in_err-open.field-0.0 c.in_err-open.ensures.err)

pub returns-in-Cff2-clause-err : goal.returns-in-Cff2-clause-err
returns-in-Cff2-clause-err c =
    let o = c.in_ok-open.field-0 in
    subst (λ (f : Font). HasOpeningFault f Unimplemented) c.in_ok-open.ensures.font (cff2_refused (font_opened o) o.face.records.now o.outlines c.in_ok-open.ensures.ok.finds c.in-Cff2.is)

pub returns-in-TrueType : goal.returns-in-TrueType
returns-in-TrueType c =
    let o = c.in_ok-open.field-0 in
    record {
      ok = λ e f. has_none (font_opened o) o.face.records.now o.outlines c.in_ok-open.ensures.ok.finds TrueType (ap flavor_of c.in-TrueType.is) e (subst (λ (x : Font). HasOpeningFault x e) (sym c.in_ok-open.ensures.font) f);
      err = tt;
    }

pub returns-in-Cff : goal.returns-in-Cff
returns-in-Cff c =
    let o = c.in_ok-open.field-0 in
    record {
      ok = λ e f. has_none (font_opened o) o.face.records.now o.outlines c.in_ok-open.ensures.ok.finds Cff (ap flavor_of c.in-Cff.is) e (subst (λ (x : Font). HasOpeningFault x e) (sym c.in_ok-open.ensures.font) f);
      err = tt;
    }
