use Rattle.std.proofs.Common.{ℕ, List, sym, ap, ◌∙◌}
use Rattle.std.proofs.lemmas.Result.{err_from_is_err_and}
use Rattle.subsetter_sfnt.specs.Extras.{all_extras}
use Rattle.subsetter_sfnt.specs.FontAt.{font_at}
use Rattle.subsetter_sfnt.specs.Read.{table_in}
use Rattle.subsetter_cff_instance.specs.Source.{outlines_or_fault}
use Rattle.subsetter_cff_instance.proofs.FaultLaws.Opening.{unopened_is_closed, outlines_are_closed}
use Rattle.subsetter_cff_instance.proofs.instancing.open.Goals as goal

pub returns-in_err-face-clause-err : goal.returns-in_err-face-clause-err
returns-in_err-face-clause-err c =
    let p = err_from_is_err_and c.from_residual.result c.from_residual.ensures.1 in
    rw (p.1, p.2) (unopened_is_closed (font_at c.args.«data».now c.args.index all_extras) c.in_err-face.field-0.0 c.in_err-face.ensures.err)

pub returns-in_err-cff2-clause-err : goal.returns-in_err-cff2-clause-err
returns-in_err-cff2-clause-err c =
    let p = err_from_is_err_and c.from_residual-in_err-cff2.result c.from_residual-in_err-cff2.ensures.1 in
    let d = c.in_ok-face.face.records.now in
    let f = ap (λ (bytes : List ℕ). outlines_or_fault (table_in bytes d)) (sym c.in_ok-face.ensures.ok.0) ∙ c.in_err-cff2.ensures.err in
    rw (p.1, p.2) (outlines_are_closed (font_at c.args.«data».now c.args.index all_extras) d c.in_err-cff2.field-0.0 c.in_ok-face.ensures.ok.1 f)
