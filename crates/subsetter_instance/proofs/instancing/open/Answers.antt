use Rattle.std.proofs.Common.{ℕ, List, Result, Ok, Err, sym, ap, ◌≡◌, ◌∙◌}
use Rattle.std.proofs.lemmas.Result.{err_from_is_err_and}
use Rattle.subsetter_base.specs.declared.error.Error.{Error}
use Rattle.subsetter_sfnt.specs.declared.extras.Extras.{Extras}
use Rattle.subsetter_sfnt.specs.declared.flavor.FontFlavor.{FontFlavor}
use Rattle.subsetter_sfnt.specs.Extras.{all_extras, requested}
use Rattle.subsetter_sfnt.specs.FontAt.{font_at}
use Rattle.subsetter_sfnt.specs.Plain.{flavored}
use Rattle.subsetter_sfnt.specs.Read.{table_in}
use Rattle.subsetter_instance.proofs.Opened.{closed_unopened, closed_unflavored, closed_cff}
use Rattle.subsetter_instance.proofs.instancing.open.Goals as goal

-- the kind of the outlines of the file's own bytes
own : (seen bytes records : List ℕ) (x : Extras) (r : Result FontFlavor Error) → seen ≡ bytes → r ≡ flavored (requested x (table_in seen records)) → flavored (requested x (table_in bytes records)) ≡ r
own seen bytes records x r e h = ap (λ (b : List ℕ). flavored (requested x (table_in b records))) (sym e) ∙ sym h

pub returns-in_err-face-clause-err : goal.returns-in_err-face-clause-err
returns-in_err-face-clause-err c =
    let p = err_from_is_err_and c.from_residual.result c.from_residual.ensures.1 in
    rw (p.1, p.2) (closed_unopened (font_at c.args.«data».now c.args.index all_extras) c.in_err-face.field-0.0 c.in_err-face.ensures.err)

pub returns-in_err-flavor-clause-err : goal.returns-in_err-flavor-clause-err
returns-in_err-flavor-clause-err c =
    let p = err_from_is_err_and c.from_residual-in_err-flavor.result c.from_residual-in_err-flavor.ensures.1 in
    let d = c.in_ok-face.face.records.now in
    let f = own c.in_ok-face.face.«data».now c.args.«data».now d c.in_ok-face.face.extras (Err c.in_err-flavor.field-0.0) c.in_ok-face.ensures.ok.0 c.in_err-flavor.ensures in
    rw (p.1, p.2) (closed_unflavored (font_at c.args.«data».now c.args.index all_extras) d c.in_ok-face.face.extras c.in_err-flavor.field-0.0 c.in_ok-face.ensures.ok.1 f)

pub returns-in-Cff-clause-err : goal.returns-in-Cff-clause-err
returns-in-Cff-clause-err c =
    let d = c.in_ok-face.face.records.now in
    let f = own c.in_ok-face.face.«data».now c.args.«data».now d c.in_ok-face.face.extras (Ok c.in_ok-flavor.field-0) c.in_ok-face.ensures.ok.0 c.in_ok-flavor.ensures ∙ ap (λ (x : FontFlavor). Ok x) c.in-Cff.is in
    closed_cff (font_at c.args.«data».now c.args.index all_extras) d c.in_ok-face.face.extras c.in_ok-face.ensures.ok.1 f
