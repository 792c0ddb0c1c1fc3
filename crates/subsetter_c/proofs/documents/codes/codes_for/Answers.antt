use Rattle.std.proofs.Common.{◌≡◌, ◌∙◌, List, subst}
use Rattle.std.specs.Prelude.{IfOk, IfErr}
use Rattle.pdf_codes.specs.Codes.{AreCodes, Used}
use Rattle.pdf_codes.specs.Shown.{uses_of}
use Rattle.subsetter_pdf_c.specs.Entries.{uses_in}
use Rattle.subsetter_c.specs.Documents.Codes.{IsCodesRefusal}
use Rattle.subsetter_c.proofs.DocumentsLaws.PdfFonts.{uses_there}
use Rattle.subsetter_c.proofs.documents.codes.codes_for.Goals as goal

pub returns-clause-ok : goal.returns-clause-ok
returns-clause-ok c =
    let there : uses_of c.deref-2.result.now ≡ uses_in c.args.glyphs.now c.args.text.now c.args.ends.now = uses_there c.in_ok-shown.shown.items c.deref-2.result.now c.args.glyphs.now c.deref.result.now c.args.text.now c.args.ends.now c.deref-2.ensures.value c.in_ok-shown.ensures.glyphs c.in_ok-shown.ensures.texts (c.deref.ensures.value ∙ c.in_ok-characters.ensures.ok) in
    subst (λ (us : List Used). IfOk c.codes_of.result (λ codes. AreCodes c.args.kind us codes.items)) there c.codes_of.ensures.ok

pub returns-clause-err : goal.returns-clause-err
returns-clause-err c =
    let there : uses_of c.deref-2.result.now ≡ uses_in c.args.glyphs.now c.args.text.now c.args.ends.now = uses_there c.in_ok-shown.shown.items c.deref-2.result.now c.args.glyphs.now c.deref.result.now c.args.text.now c.args.ends.now c.deref-2.ensures.value c.in_ok-shown.ensures.glyphs c.in_ok-shown.ensures.texts (c.deref.ensures.value ∙ c.in_ok-characters.ensures.ok) in
    subst (λ (us : List Used). IfErr c.codes_of.result (λ e. IsCodesRefusal c.args.kind us e)) there c.codes_of.ensures.err
