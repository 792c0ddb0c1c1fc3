-- Texts one by one, and what is answered.
use Rattle.std.proofs.Common.{◌≡◌, ◌<◌, ◌≤◌, ℕ, zero, suc, ◌+◌, ◌-◌, true, List, [], ◌∷◌, ◌++◌, length, get_or, map, drop, refl, ap, append_assoc, ◌∙◌, ◌⊎◌, inl, inr, add-one, drop-cons, arith, Result, Ok, Err, Vec, Global}
use Rattle.std.specs.Prelude.{◌^◌, IfOk, IfErr}
use Rattle.std.specs.List.{concat}
use Rattle.std.proofs.lemmas.List.{map-append}
use Rattle.subsetter_base.specs.Texts.{is_scalar}
use Rattle.subsetter_pdf_c.specs.Texts.{one_each}
use Rattle.subsetter_base.specs.declared.error.Error.{Error}
use Rattle.subsetter_base.specs.declared.error.Error.TheVariants.{OutOfMemory, OverflowError}
use Rattle.pdf_codes.specs.Codes.{Used}
use Rattle.pdf_codes.specs.Shown.{use_of, uses_of, texts_of}
use Rattle.pdf_codes.specs.declared.shown.Shown.{Shown}
use Rattle.pdf_objects.specs.Glyphs.{IsSheetOf as IsSheetOfView, IsTooLargeFor as IsTooLargeForView}
use Rattle.pdf_objects.specs.declared.view.FontView.{FontView}
use Rattle.pdf_sheet.specs.File.{AreInTable, body_of, file_of}
use Rattle.pdf_sheet.specs.Lines.{AreTooLarge, lines_values}
use Rattle.pdf_sheet.specs.declared.frame.Layout.{Layout}
use Rattle.pdf_sheet.specs.declared.lines.SheetLine.{SheetLine}
use Rattle.pdf_text.specs.Dictionaries.Widths.{HasManyColumns}
use Rattle.pdf_text.specs.Objects.{font_objects, most_objects, offsets_from, AreFontObjectsAt}
use Rattle.pdf_text.specs.declared.objects.FontObjects.{FontObjects}
use Rattle.subsetter_pdf_c.specs.Entries.{AreTexts, are_ascending, are_scalars, are_texts, text_between, texts_from, uses_with}
use Rattle.subsetter_pdf_c.specs.Made.{IsViewOf}
use Rattle.subsetter_pdf_c.specs.Written.{AreLinesOf, AreObjectsOf, AreTooLargeFor, HaveNoNumbers, IsSheetOf, IsTooLargeFor}
use Rattle.subsetter_pdf_c.specs.declared.made.PdfMade.{PdfMade}

-- each number of such a text is a character
pub scalar_at : (text : List ℕ) (i : ℕ) → are_scalars text ≡ true → i < length text → is_scalar (get_or text i 0) ≡ true
scalar_at [] i all lt = absurd (omega arith)
scalar_at (n ∷ text) zero all lt = grind arith
scalar_at (n ∷ text) (suc i) all lt = let rest : are_scalars text ≡ true = grind arith in scalar_at text i rest (omega arith)

-- ends in their order: the next is between the one before and the bound, and the others go on from there
pub last_within : (last : ℕ) (ends : List ℕ) (bound : ℕ) → are_ascending last ends bound ≡ true → last ≤ bound
last_within last [] bound h = grind arith
last_within last (end ∷ ends) bound h =
    let here : last ≤ end = grind arith in
    let rest : are_ascending end ends bound ≡ true = grind arith in
    let further : end ≤ bound = last_within end ends bound rest in
    omega arith

pub next_above : (start : ℕ) (ends : List ℕ) (i bound : ℕ) → are_ascending start (drop i ends) bound ≡ true → i < length ends → start ≤ get_or ends i 0
next_above start [] i bound h lt = absurd (omega arith)
next_above start (end ∷ ends) zero bound h lt = grind arith
next_above start (end ∷ ends) (suc i) bound h lt = next_above start ends i bound h (omega arith)

on_suc : (start : ℕ) (ends : List ℕ) (i bound : ℕ) → are_ascending start (drop i ends) bound ≡ true → i < length ends → are_ascending (get_or ends i 0) (drop (suc i) ends) bound ≡ true
on_suc start [] i bound h lt = absurd (omega arith)
on_suc start (end ∷ ends) zero bound h lt = grind arith
on_suc start (end ∷ ends) (suc i) bound h lt = on_suc start ends i bound h (omega arith)

pub next_on : (start : ℕ) (ends : List ℕ) (i bound : ℕ) → are_ascending start (drop i ends) bound ≡ true → i < length ends → are_ascending (get_or ends i 0) (drop (i + 1) ends) bound ≡ true
next_on start ends i bound h lt = rw add-one (on_suc start ends i bound h lt)

pub next_within : (start : ℕ) (ends : List ℕ) (i bound : ℕ) → are_ascending start (drop i ends) bound ≡ true → i < length ends → get_or ends i 0 ≤ bound
next_within start ends i bound h lt = last_within (get_or ends i 0) (drop (i + 1) ends) bound (next_on start ends i bound h lt)

here_suc : (text : List ℕ) (start : ℕ) (ends : List ℕ) (i : ℕ) → i < length ends → texts_from text start (drop i ends) ≡ text_between text start (get_or ends i 0) ∷ texts_from text (get_or ends i 0) (drop (suc i) ends)
here_suc text start [] i lt = absurd (omega arith)
here_suc text start (end ∷ ends) zero lt = refl
here_suc text start (end ∷ ends) (suc i) lt = here_suc text start ends i (omega arith)

pub text_here : (text : List ℕ) (start : ℕ) (ends : List ℕ) (i : ℕ) → i < length ends → texts_from text start (drop i ends) ≡ text_between text start (get_or ends i 0) ∷ texts_from text (get_or ends i 0) (drop (i + 1) ends)
text_here text start ends i lt = rw add-one (here_suc text start ends i lt)

-- as many glyphs have texts
pub texts_fit : (count : ℕ) (text ends : List ℕ) → are_texts count text ends ≡ true → AreTexts count text ends
texts_fit count text ends h = record { count_is = grind arith; scalars = grind arith; ascending = grind arith }

pub uses_split : (shown : List Shown) → uses_of shown ≡ uses_with (map (λ (s : Shown). s.glyph) shown) (texts_of shown)
uses_split [] = refl
uses_split (s ∷ shown) = ap (λ (us : List Used). use_of s ∷ us) (uses_split shown)

-- ---- texts of one character each

each_suc : (place count : ℕ) → place < count → one_each place (count - place) ≡ suc place ∷ one_each (suc place) (count - suc place)
each_suc place count lt = let more : count - place ≡ suc (count - suc place) = omega arith in ap (one_each place) more

pub next_each : (place count : ℕ) → place < count → one_each place (count - place) ≡ (place + 1) ∷ one_each (place + 1) (count - (place + 1))
next_each place count lt = rw add-one (each_suc place count lt)

-- ---- what is answered of a font that C holds

module _ (made : PdfMade) (glyph_map : List ℕ) (w : FontView) (is : IsViewOf made glyph_map w) where
  pub objects_made : (first : ℕ) (answer : Result FontObjects Error) → IfOk answer (λ o. o.text.items ≡ concat (font_objects first w.values)) → IfOk answer (λ o. o.offsets.items ≡ offsets_from 0 (font_objects first w.values)) → IfOk answer (λ o. AreFontObjectsAt first w.values o.text.items o.offsets.items) → IfOk answer (λ o. AreObjectsOf made glyph_map first o.text.items o.offsets.items)
  objects_made first (Ok o) text offsets at = record { view = w; is = is; text_is = text; offsets_are = offsets; at = at }
  objects_made first (Err e) text offsets at = tt

  objects_refused_by : (first : ℕ) (e : Error) → (e ≡ OutOfMemory) ⊎ ((e ≡ OverflowError) × ((2 ^ 32 ≤ first + most_objects w.values) ⊎ HasManyColumns w.values.columns)) → (e ≡ OutOfMemory) ⊎ ((e ≡ OverflowError) × HaveNoNumbers made glyph_map first)
  objects_refused_by first e (inl p) = inl p
  objects_refused_by first e (inr p) = inr (p.0, record { view = w; is = is; why = p.1 })

  pub objects_refused : (first : ℕ) (answer : Result FontObjects Error) → IfErr answer (λ e. (e ≡ OutOfMemory) ⊎ ((e ≡ OverflowError) × ((2 ^ 32 ≤ first + most_objects w.values) ⊎ HasManyColumns w.values.columns))) → IfErr answer (λ e. (e ≡ OutOfMemory) ⊎ ((e ≡ OverflowError) × HaveNoNumbers made glyph_map first))
  objects_refused first (Ok o) h = tt
  objects_refused first (Err e) h = objects_refused_by first e h

  pub lines_made : (ls : List SheetLine) (answer : Result (Vec ℕ Global) Error) → IfOk answer (λ file. file.items ≡ file_of (lines_values w.values ls)) → IfOk answer (λ file. AreInTable file.items (length (body_of (lines_values w.values ls))) (lines_values w.values ls)) → IfOk answer (λ file. AreLinesOf made glyph_map ls file.items)
  lines_made ls (Ok file) whole at = record { view = w; is = is; whole = whole; at = at }
  lines_made ls (Err e) whole at = tt

  lines_refused_by : (ls : List SheetLine) (e : Error) → (e ≡ OutOfMemory) ⊎ ((e ≡ OverflowError) × AreTooLarge w.values ls) → (e ≡ OutOfMemory) ⊎ ((e ≡ OverflowError) × AreTooLargeFor made glyph_map ls)
  lines_refused_by ls e (inl p) = inl p
  lines_refused_by ls e (inr p) = inr (p.0, record { view = w; is = is; large = p.1 })

  pub lines_refused : (ls : List SheetLine) (answer : Result (Vec ℕ Global) Error) → IfErr answer (λ e. (e ≡ OutOfMemory) ⊎ ((e ≡ OverflowError) × AreTooLarge w.values ls)) → IfErr answer (λ e. (e ≡ OutOfMemory) ⊎ ((e ≡ OverflowError) × AreTooLargeFor made glyph_map ls))
  lines_refused ls (Ok file) h = tt
  lines_refused ls (Err e) h = lines_refused_by ls e h

module _ (made : PdfMade) (w : FontView) (is : IsViewOf made [] w) where
  pub sheet_made : (ts : List (List ℕ)) (layout : Layout) (answer : Result (Vec ℕ Global) Error) → IfOk answer (λ file. IsSheetOfView w ts layout file.items) → IfOk answer (λ file. IsSheetOf made ts layout file.items)
  sheet_made ts layout (Ok file) h = record { view = w; is = is; sheet = h }
  sheet_made ts layout (Err e) h = tt

  sheet_refused_by : (ts : List (List ℕ)) (layout : Layout) (e : Error) → (e ≡ OutOfMemory) ⊎ ((e ≡ OverflowError) × IsTooLargeForView w ts layout) → (e ≡ OutOfMemory) ⊎ ((e ≡ OverflowError) × IsTooLargeFor made ts layout)
  sheet_refused_by ts layout e (inl p) = inl p
  sheet_refused_by ts layout e (inr p) = inr (p.0, record { view = w; is = is; large = p.1 })

  pub sheet_refused : (ts : List (List ℕ)) (layout : Layout) (answer : Result (Vec ℕ Global) Error) → IfErr answer (λ e. (e ≡ OutOfMemory) ⊎ ((e ≡ OverflowError) × IsTooLargeForView w ts layout)) → IfErr answer (λ e. (e ≡ OutOfMemory) ⊎ ((e ≡ OverflowError) × IsTooLargeFor made ts layout))
  sheet_refused ts layout (Ok file) h = tt
  sheet_refused ts layout (Err e) h = sheet_refused_by ts layout e h
