-- What is said of parts of a PDF file that are handed over, in other words.
use Rattle.std.proofs.Common.{◌≡◌, ℕ, List, [], sym, subst, Vec, Global, Result, Ok, Err}
use Rattle.std.specs.Prelude.{IfOk, IfErr}
use Rattle.subsetter_base.specs.declared.error.Error.{Error}
use Rattle.pdf_text.specs.declared.objects.FontObjects.{FontObjects}
use Rattle.subsetter_c.specs.Answers.Handed.{IsAnswered}
use Rattle.subsetter_c.specs.Documents.PdfObjects.{IsWritten, whole, refused}
use Rattle.subsetter_c.specs.declared.documents.pdf_files.ObjectsMade.{ObjectsMade}

module _ (Why : Error → Type 0) (made : ObjectsMade) (status : ℕ) where
  pub objects_written : (Is : List ℕ → List ℕ → Type 0) (answer : Result FontObjects Error) → IfOk answer (λ o. Is o.text.items o.offsets.items) → IfErr answer Why → IsWritten (λ bytes offsets. (o : FontObjects) × (answer ≡ Ok o) × (bytes ≡ o.text.items) × (offsets ≡ o.offsets.items)) (λ e. answer ≡ Err e) made status → IsWritten Is Why made status
  objects_written Is answer ok err (whole is s) =
      let said : Is is.0.text.items is.0.offsets.items = subst (λ (r : Result FontObjects Error). IfOk r (λ o. Is o.text.items o.offsets.items)) is.1 ok in
      whole (subst (λ (l : List ℕ). Is l made.offsets.now) (sym is.2) (subst (λ (l : List ℕ). Is is.0.text.items l) (sym is.3) said)) s
  objects_written Is answer ok err (refused e w n s) = refused e (subst (λ (r : Result FontObjects Error). IfErr r Why) w err) n s

  pub file_written : (Is : List ℕ → Type 0) (answer : Result (Vec ℕ Global) Error) → IfOk answer (λ v. Is v.items) → IfErr answer Why → IsWritten (λ bytes offsets. IsAnswered answer bytes × (offsets ≡ [])) (λ e. answer ≡ Err e) made status → IsWritten (λ bytes offsets. Is bytes × (offsets ≡ [])) Why made status
  file_written Is answer ok err (whole is s) = whole (subst Is is.0.2 (subst (λ (r : Result (Vec ℕ Global) Error). IfOk r (λ v. Is v.items)) is.0.1 ok), is.1) s
  file_written Is answer ok err (refused e w n s) = refused e (subst (λ (r : Result (Vec ℕ Global) Error). IfErr r Why) w err) n s
