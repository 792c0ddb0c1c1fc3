-- The glyphs of a sheet one by one, and what is answered.
use Rattle.std.proofs.Common.{◌≡◌, ◌<◌, ℕ, zero, suc, ◌+◌, List, [], ◌∷◌, ◌++◌, length, get_or, map, take, refl, sym, ap, subst, ◌∙◌, ◌⊎◌, inl, inr, arith, Vec, Global}
use Rattle.std.specs.Prelude.{Result, Ok, Err, IfOk, IfErr}
use Rattle.std.proofs.lemmas.List.{map-append, take_more}
use Rattle.subsetter_base.specs.declared.error.Error.{Error}
use Rattle.subsetter_base.specs.declared.error.Error.TheVariants.{OutOfMemory, OverflowError}
use Rattle.pdf_codes.specs.declared.shown.Shown.{Shown}
use Rattle.pdf_codes.specs.Shown.{texts_of}
use Rattle.pdf_sheet.specs.File.{AreInTable, body_of, file_of}
use Rattle.pdf_sheet.specs.Pages.{IsTooLarge, sheet_values}
use Rattle.pdf_sheet.specs.declared.frame.Layout.{Layout}
use Rattle.pdf_sheet.specs.declared.glyphs.SheetGlyph.{SheetGlyph}
use Rattle.pdf_objects.specs.Glyphs.{AreGlyphsOf, IsSheetOf, IsTooLargeFor}
use Rattle.pdf_objects.specs.declared.view.FontView.{FontView}

pub one_more : {X Y : Type 0} (f : X → Y) (gs gs1 : List X) (g : X) (ys : List Y) (i : ℕ) (d : Y) → i < length ys → gs1 ≡ gs ++ g ∷ [] → f g ≡ get_or ys i d → map f gs ≡ take i ys → map f gs1 ≡ take (i + 1) ys
one_more {X} {Y} f gs gs1 g ys i d l e p h =
    ap (λ (gs : List X). map f gs) e ∙ map-append f gs (g ∷ []) ∙ ap (λ (zs : List Y). zs ++ f g ∷ []) h ∙ ap (λ (y : Y). take i ys ++ y ∷ []) p ∙ sym (take_more ys i d l)

pub one_more_by : {X Y Z : Type 0} (f : X → Z) (h : Y → Z) (gs gs1 : List X) (g : X) (ys : List Y) (i : ℕ) (d : Y) → i < length ys → gs1 ≡ gs ++ g ∷ [] → f g ≡ h (get_or ys i d) → map f gs ≡ map h (take i ys) → map f gs1 ≡ map h (take (i + 1) ys)
one_more_by {X} {Y} {Z} f h gs gs1 g ys i d l e p so_far =
    ap (λ (gs : List X). map f gs) e ∙ map-append f gs (g ∷ []) ∙ ap (λ (zs : List Z). zs ++ f g ∷ []) so_far ∙ ap (λ (z : Z). map h (take i ys) ++ z ∷ []) p
    ∙ sym (ap (λ (ys : List Y). map h ys) (take_more ys i d l) ∙ map-append h (take i ys) (get_or ys i d ∷ []))

pub text_at : (shown : List Shown) (i : ℕ) (d : Shown) → i < length shown → (get_or shown i d).text.now ≡ get_or (texts_of shown) i []
text_at [] i d l = absurd (omega arith)
text_at (s ∷ shown) zero d l = refl
text_at (s ∷ shown) (suc i) d l = text_at shown i d (omega arith)

pub length_texts : (shown : List Shown) → length (texts_of shown) ≡ length shown
length_texts [] = refl
length_texts (s ∷ shown) = ap suc (length_texts shown)

-- ---- a sheet

module _ (w : FontView) (ts : List (List ℕ)) (layout : Layout) (gs hs : List SheetGlyph) (same : hs ≡ gs) (given : AreGlyphsOf w ts gs) where
  there : AreGlyphsOf w ts hs
  there = subst (λ (l : List SheetGlyph). AreGlyphsOf w ts l) (sym same) given

  pub sheet_made : (answer : Result (Vec ℕ Global) Error) → IfOk answer (λ file. file.items ≡ file_of (sheet_values layout w.values hs)) → IfOk answer (λ file. AreInTable file.items (length (body_of (sheet_values layout w.values hs))) (sheet_values layout w.values hs)) → IfOk answer (λ file. IsSheetOf w ts layout file.items)
  sheet_made (Ok file) whole at = record { glyphs = hs; are = there; whole = whole; at = at }
  sheet_made (Err _) whole at = tt

  refused_by : (e : Error) → (e ≡ OutOfMemory) ⊎ ((e ≡ OverflowError) × IsTooLarge layout w.values hs) → (e ≡ OutOfMemory) ⊎ ((e ≡ OverflowError) × IsTooLargeFor w ts layout)
  refused_by e (inl p) = inl p
  refused_by e (inr p) = inr (p.0, record { glyphs = hs; are = there; large = p.1 })

  pub sheet_refused : (answer : Result (Vec ℕ Global) Error) → IfErr answer (λ e. (e ≡ OutOfMemory) ⊎ ((e ≡ OverflowError) × IsTooLarge layout w.values hs)) → IfErr answer (λ e. (e ≡ OutOfMemory) ⊎ ((e ≡ OverflowError) × IsTooLargeFor w ts layout))
  sheet_refused (Ok _) h = tt
  sheet_refused (Err e) h = refused_by e h
