-- How parts of a PDF file are handed to C: by bytes, offsets and a status.
use Rattle.std.specs.Prelude.{◌≡◌, ◌⊎◌, ℕ, List, [], ◌==◌, if◌then◌else◌}
use Rattle.subsetter_base.specs.declared.error.Error.{Error}
use Rattle.subsetter_base.specs.declared.error.Error.TheVariants.{OutOfMemory, OverflowError}
use Rattle.pdf_sheet.specs.declared.frame.Layout.{Layout}
use Rattle.pdf_sheet.specs.declared.frame.Layout.TheVariants.{Line, Grid}
use Rattle.pdf_sheet.specs.declared.lines.SheetLine.{SheetLine}
use Rattle.subsetter_pdf_c.specs.Written.{AreLinesOf, AreObjectsOf, AreTooLargeFor, HaveNoNumbers, IsSheetOf}
use Rattle.subsetter_pdf_c.specs.Written.{IsTooLargeFor}
use Rattle.subsetter_pdf_c.specs.declared.made.PdfMade.{PdfMade}
use Rattle.subsetter_c.specs.Answers.Status.{status_of}
use Rattle.subsetter_c.specs.declared.documents.pdf_files.ObjectsMade.{ObjectsMade}

-- nothing is there
pub record IsNothing (made : ObjectsMade) : Type 0 where
  pub bytes : made.bytes.now ≡ []
  pub offsets : made.offsets.now ≡ []

-- bytes and offsets of which `Is` holds, or an error of which `Why` holds, are handed over
pub data IsWritten (Is : List ℕ → List ℕ → Type 0) (Why : Error → Type 0) (made : ObjectsMade) (status : ℕ)
    : Type 0 where
  whole : Is made.bytes.now made.offsets.now → status ≡ 0 → IsWritten Is Why made status
  refused : (e : Error) → Why e → IsNothing made → status ≡ status_of e → IsWritten Is Why made status

-- nothing is handed over, for the reason of a status
pub record IsNoneWritten (why : ℕ) (made : ObjectsMade) (status : ℕ) : Type 0 where
  pub nothing : IsNothing made
  pub status_is : status ≡ why

-- the objects of a font with these bytes of CIDToGIDMap
abbrev pub AreObjectsWritten : PdfMade → List ℕ → ℕ → ObjectsMade → ℕ → Type 0
AreObjectsWritten font map first =
    IsWritten (AreObjectsOf font map first)
    (λ e. (e ≡ OutOfMemory) ⊎ ((e ≡ OverflowError) × HaveNoNumbers font map first))

-- ---- a sheet

abbrev pub layout_of : ℕ → Layout
layout_of n = if n == 0 then Line else Grid

-- a sheet of a font, and no offsets
abbrev pub IsSheetWritten : PdfMade → List (List ℕ) → Layout → ObjectsMade → ℕ → Type 0
IsSheetWritten font texts layout =
    IsWritten (λ bytes offsets. IsSheetOf font texts layout bytes × (offsets ≡ []))
    (λ e. (e ≡ OutOfMemory) ⊎ ((e ≡ OverflowError) × IsTooLargeFor font texts layout))

-- lines of a font with these bytes of CIDToGIDMap, and no offsets
abbrev pub AreLinesWritten : PdfMade → List ℕ → List SheetLine → ObjectsMade → ℕ → Type 0
AreLinesWritten font map lines =
    IsWritten (λ bytes offsets. AreLinesOf font map lines bytes × (offsets ≡ []))
    (λ e. (e ≡ OutOfMemory) ⊎ ((e ≡ OverflowError) × AreTooLargeFor font map lines))
