use Rattle.std.proofs.Common.{◌≡◌, Some, Option, List, ℕ, ap, subst, sym, ◌∙◌}
use Rattle.std.specs.Prelude.{IfOk}
use Rattle.subsetter_cff.specs.declared.read.fd_array.font_dict.FontDict.{FontDict}
use Rattle.subsetter_cff.specs.Read.FdArray.FontDictList.{AreFontDicts}
use Rattle.subsetter_cff.specs.Read.Source.{IsKeyed, cff_of}
use Rattle.pdf_cff.specs.Values.{first_stem, privates}
use Rattle.pdf_cff.proofs.FirstStems.{keyed_privates, views}
use Rattle.pdf_cff.proofs.values.first_stem.Goals as goal

pub first_stem_in-requires-clause-dicts : goal.first_stem_in-requires-clause-dicts
first_stem_in-requires-clause-dicts c =
    let parts : IsKeyed (cff_of c.args.table.now) (Some c.in-Some.keyed) = subst (IsKeyed (cff_of c.args.table.now)) c.in-Some.is c.requires.source.keyed in
    (parts.1.dicts, subst (λ (l : List FontDict). AreFontDicts (cff_of c.args.table.now).bytes parts.1.dicts l) (sym c.deref.ensures.value) parts.1.made)

pub returns-in-Some-clause-ok : goal.returns-in-Some-clause-ok
returns-in-Some-clause-ok c =
    let parts : IsKeyed (cff_of c.args.table.now) (Some c.in-Some.keyed) = subst (IsKeyed (cff_of c.args.table.now)) c.in-Some.is c.requires.source.keyed in
    let same : first_stem c.args.units (views c.deref.result.now) ≡ first_stem c.args.units (privates (cff_of c.args.table.now)) =
    ap (λ (l : List FontDict). first_stem c.args.units (views l)) c.deref.ensures.value ∙ sym (ap (first_stem c.args.units) (keyed_privates (cff_of c.args.table.now) c.in-Some.keyed parts.0 parts.1)) in
    subst (λ (o : Option ℕ). IfOk c.first_stem_in.result (λ stem. stem ≡ o)) same c.first_stem_in.ensures.ok
