-- What is said of a font that is handed over with what it was made of, in other words.
use Rattle.std.proofs.Common.{◌≡◌, ◌≤◌, ℕ, zero, suc, ◌+◌, true, List, length, map, sym, ap, subst, ◌∙◌, ◌⊎◌, inl, inr, arith, Result, Ok, Err}
use Rattle.std.specs.Prelude.{IfOk, IfErr}
use Rattle.std.proofs.lemmas.List.{length-map}
use Rattle.subsetter_base.specs.declared.error.Error.TheVariants.{OutOfMemory}
use Rattle.text_glyphs.specs.Choice.{Chosen, character_glyph}
use Rattle.pdf_font.specs.declared.error.FontError.{FontError}
use Rattle.pdf_font.specs.declared.error.FontError.TheVariants.{Subset}
use Rattle.pdf_font.specs.declared.font.PdfFont.{PdfFont}
use Rattle.subsetter_pdf_c.specs.Entries.{are_ascending, are_scalars, are_texts}
use Rattle.subsetter_pdf_c.specs.Texts.{one_each}
use Rattle.subsetter_c.specs.Documents.Whole.{IsWholeHandedBy, whole, refused}
use Rattle.subsetter_c.specs.declared.documents.whole.FontMade.{FontMade}

-- a font is handed over: then what is known of it
pub whole_handed : (Is : PdfFont → Type 0) (Why : FontError → Type 0) (answer : Result PdfFont FontError) (glyphs text ends : List ℕ) (made : FontMade) (status : ℕ) → IfOk answer Is → IfErr answer Why → ((f : PdfFont) → Is f → Why (Subset OutOfMemory)) → IsWholeHandedBy (λ f. answer ≡ Ok f) (λ e. (answer ≡ Err e) ⊎ ((f : PdfFont) × (answer ≡ Ok f) × (e ≡ Subset OutOfMemory))) glyphs text ends made status → IsWholeHandedBy Is Why glyphs text ends made status
whole_handed Is Why answer glyphs text ends made status ok err memory (whole f is laid s) = whole f (subst (λ (r : Result PdfFont FontError). IfOk r Is) is ok) laid s
whole_handed Is Why answer glyphs text ends made status ok err memory (refused e (inl w) empty s) = refused e (subst (λ (r : Result PdfFont FontError). IfErr r Why) w err) empty s
whole_handed Is Why answer glyphs text ends made status ok err memory (refused e (inr w) empty s) = refused e (subst Why (sym w.2) (memory w.0 (subst (λ (r : Result PdfFont FontError). IfOk r Is) w.1 ok))) empty s

-- ---- texts of one character each

each_length : (start count : ℕ) → length (one_each start count) ≡ count
each_length start zero = cc
each_length start (suc count) = ap suc (each_length (suc start) count)

each_ascending : (start count bound : ℕ) → start + count ≤ bound → are_ascending start (one_each start count) bound ≡ true
each_ascending start zero bound h = grind arith
each_ascending start (suc count) bound h = let rest : are_ascending (suc start) (one_each (suc start) count) bound ≡ true = each_ascending (suc start) count bound (omega arith) in grind arith

texts_by : (count : ℕ) (text ends : List ℕ) → count ≡ length ends → are_scalars text ≡ true → are_ascending 0 ends (length text) ≡ true → are_texts count text ends ≡ true
texts_by count text ends n s a = grind arith

pub looked_up_texts : (table : Chosen) (glyphs text ends : List ℕ) → glyphs ≡ map (character_glyph table) text → are_scalars text ≡ true → ends ≡ one_each 0 (length text) → are_texts (length glyphs) text ends ≡ true
looked_up_texts table glyphs text ends g s e =
    let count : length glyphs ≡ length ends = ap length g ∙ length-map text (character_glyph table) ∙ sym (ap length e ∙ each_length 0 (length text)) in
    let above : are_ascending 0 ends (length text) ≡ true = subst (λ (l : List ℕ). are_ascending 0 l (length text) ≡ true) (sym e) (each_ascending 0 (length text) (length text) (omega arith)) in
    texts_by (length glyphs) text ends count s above

-- what holds of three lists holds of three that equal them
pub there : (P : List ℕ → List ℕ → List ℕ → Type 0) (g t e glyphs text ends : List ℕ) → g ≡ glyphs → t ≡ text → e ≡ ends → P glyphs text ends → P g t e
there P g t e glyphs text ends pg pt pe p = subst (λ (l : List ℕ). P g t l) (sym pe) (subst (λ (l : List ℕ). P g l ends) (sym pt) (subst (λ (l : List ℕ). P l text ends) (sym pg) p))
