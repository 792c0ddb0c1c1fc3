-- What is said of parts that are handed over, in other words.
use Rattle.std.proofs.Common.{◌≡◌, ◌≤◌, ℕ, Bool, true, false, List, length, subst, arith, Result, Err, Vec, Global}
use Rattle.std.specs.Prelude.{IfOk, IfErr}
use Rattle.pdf_text.specs.Objects.{objects_by}
use Rattle.pdf_text.specs.declared.parts.PartsError.{PartsError}
use Rattle.subsetter_pdf_c.specs.declared.parts.PdfPart.{PdfPart}
use Rattle.subsetter_c.specs.Documents.Parts.{ArePartsAnswered, ArePartsHanded, whole, refused}
use Rattle.subsetter_c.specs.declared.documents.parts.PartsMade.{PartsMade}

pub parts_handed : (Are : List PdfPart → Type 0) (Why : PartsError → Type 0) (answer : Result (Vec PdfPart Global) PartsError) (made : PartsMade) (status : ℕ) → IfOk answer (λ v. Are v.items) → IfErr answer Why → ArePartsHanded (ArePartsAnswered answer) (λ e. answer ≡ Err e) made status → ArePartsHanded Are Why made status
parts_handed Are Why answer made status ok err (whole is s) = whole (subst Are is.2 (subst (λ (r : Result (Vec PdfPart Global) PartsError). IfOk r (λ v. Are v.items)) is.1 ok)) s
parts_handed Are Why answer made status ok err (refused e is none s) = refused e (subst (λ (r : Result (Vec PdfPart Global) PartsError). IfErr r Why) is err) none s

-- a font has at most eight
pub few_parts : (m a b : Bool) → length (objects_by m a b) ≤ 8
few_parts false false false = omega arith
few_parts false false true = omega arith
few_parts false true false = omega arith
few_parts false true true = omega arith
few_parts true false false = omega arith
few_parts true false true = omega arith
few_parts true true false = omega arith
few_parts true true true = omega arith
