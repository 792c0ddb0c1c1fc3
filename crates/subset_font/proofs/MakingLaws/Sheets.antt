-- The PDF that is made beside the font.
use Rattle.std.proofs.Common.{◌≡◌, ◌⊎◌, inl, inr, ℕ, List, [], ◌++◌, Some, append-nil, refl, sym, ap, subst}
use Rattle.subsetter_base.specs.declared.error.Error.TheVariants.{OutOfMemory}
use Rattle.subset_args.specs.declared.options.chosen.PdfChoice.{PdfChoice}
use Rattle.subset_pdf.specs.Sheet.{HasSheetFault, IsSheetFor}
use Rattle.subset_pdf.specs.declared.options.PdfRequest.{PdfRequest}
use Rattle.subset_pdf.specs.declared.sheet.Sheet.{Sheet}
use Rattle.subset_pdf.specs.declared.sheet.SheetError.{SheetError}
use Rattle.subset_pdf.specs.declared.sheet.SheetError.TheVariants.{Font}
use Rattle.subset_font.specs.Making.Sheet.{failure_of, IsRequestOf, IsShown, IsUnshown, IsUnshownIf}
use Rattle.subset_task.specs.declared.refusals.failure.Failure.TheVariants.{Error}
use Rattle.subset_font.specs.declared.making.subset.Made.{Made}
use Rattle.subset_task.specs.declared.task.Task.{Task}

module _ (choice : PdfChoice) (task : Task) (bytes : List ℕ) (made : Made) (request : PdfRequest) where
  pub shown_of : (text lengths glyphs : List ℕ) (sheet : Sheet) → IsRequestOf task choice request → text ≡ made.picked.text.items → lengths ≡ made.picked.lengths.items → glyphs ≡ made.picked.glyphs.items → IsSheetFor bytes request text lengths glyphs sheet → IsShown choice task bytes made sheet
  shown_of text lengths glyphs sheet is t n g h = record {
    request = request;
    is_requested = is;
    is_sheet = subst (λ (l : List ℕ). IsSheetFor bytes request made.picked.text.items made.picked.lengths.items l sheet) g (subst (λ (l : List ℕ). IsSheetFor bytes request made.picked.text.items l glyphs sheet) n (subst (λ (l : List ℕ). IsSheetFor bytes request l lengths glyphs sheet) t h));
  }

  fault_of : (text lengths glyphs : List ℕ) (why : SheetError) → IsRequestOf task choice request → text ≡ made.picked.text.items → lengths ≡ made.picked.lengths.items → glyphs ≡ made.picked.glyphs.items → HasSheetFault bytes request text lengths glyphs why → IsUnshown choice task bytes made (failure_of why)
  fault_of text lengths glyphs why is t n g h = record {
    request = request;
    is_requested = is;
    why = why;
    failure_is = refl;
    fault = subst (λ (l : List ℕ). HasSheetFault bytes request made.picked.text.items made.picked.lengths.items l why) g (subst (λ (l : List ℕ). HasSheetFault bytes request made.picked.text.items l glyphs why) n (subst (λ (l : List ℕ). HasSheetFault bytes request l lengths glyphs why) t h));
  }

  -- a refusal under its name
  pub unshown_by : (text lengths glyphs : List ℕ) (why : SheetError) → IsRequestOf task choice request → text ≡ made.picked.text.items → lengths ≡ made.picked.lengths.items → glyphs ≡ made.picked.glyphs.items → (why ≡ Font OutOfMemory) ⊎ HasSheetFault bytes request text lengths glyphs why → (failure_of why ≡ Error OutOfMemory) ⊎ IsUnshownIf (Some choice) task bytes made (failure_of why)
  unshown_by text lengths glyphs why is t n g (inl memory) = inl (ap failure_of memory)
  unshown_by text lengths glyphs why is t n g (inr fault) = inr (inl (fault_of text lengths glyphs why is t n g fault))

-- where nothing comes after
pub nothing_more : (text : List ℕ) → text ≡ text ++ []
nothing_more text = sym (append-nil text)
