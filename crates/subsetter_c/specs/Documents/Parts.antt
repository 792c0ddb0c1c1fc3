-- How the parts of a font are handed to C.
use Rattle.std.specs.Prelude.{◌≡◌, ℕ, List, [], Result, Ok, Vec}
use Rattle.std.specs.Global.{Global}
use Rattle.pdf_text.specs.declared.parts.PartsError.{PartsError}
use Rattle.pdf_text.specs.declared.parts.PartsError.TheVariants.{InvalidNumbers, Subset}
use Rattle.subsetter_pdf_c.specs.declared.parts.PdfPart.{PdfPart}
use Rattle.subsetter_c.specs.Answers.Status.{invalid_numbers, status_of}
use Rattle.subsetter_c.specs.declared.documents.parts.PartsMade.{PartsMade}

-- there are none
abbrev pub AreNoParts : PartsMade → Type 0
AreNoParts made = made.parts.now ≡ []

-- the number of a refusal
abbrev pub parts_status : PartsError → ℕ
parts_status InvalidNumbers = invalid_numbers
parts_status (Subset e) = status_of e

-- a call has returned these parts
abbrev pub ArePartsAnswered : Result (Vec PdfPart Global) PartsError → List PdfPart → Type 0
ArePartsAnswered answer parts = (v : Vec PdfPart Global) × (answer ≡ Ok v) × (v.items ≡ parts)

-- parts of which `Are` holds, or an error of which `Why` holds, are handed over
pub data ArePartsHanded (Are : List PdfPart → Type 0) (Why : PartsError → Type 0) (made : PartsMade) (status : ℕ)
    : Type 0 where
  whole : Are made.parts.now → status ≡ 0 → ArePartsHanded Are Why made status
  refused : (e : PartsError) → Why e → AreNoParts made → status ≡ parts_status e → ArePartsHanded Are Why made status
