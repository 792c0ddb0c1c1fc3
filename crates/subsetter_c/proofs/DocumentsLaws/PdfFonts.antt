-- What is said of a font for a PDF that is handed over, in other words.
use Rattle.std.proofs.Common.{◌≡◌, ℕ, List, [], refl, sym, ap, subst, ◌∙◌, ◌⊎◌, inl, inr, Result, Ok, Err, ℤ, map, true, false}
use Rattle.std.specs.Prelude.{IfOk, IfErr, codes}
use Rattle.subsetter_base.specs.declared.error.Error.{Error}
use Rattle.subsetter_base.specs.declared.error.Error.TheVariants.{OutOfMemory, UnknownKind}
use Rattle.subsetter_base.specs.declared.tag.Tag.{Tag}
use Rattle.subsetter_sfnt.specs.FontAt.{font_at}
use Rattle.subsetter_sfnt.specs.declared.extras.Extras.{Extras}
use Rattle.pdf_source.specs.Chosen.{extras_of}
use Rattle.subsetter_sfnt.specs.Read.{Font, stored}
use Rattle.subsetter_variable.specs.Subset.{HasOpeningFaultAt}
use Rattle.cid_embed_at.proofs.AtPlace.{opening_fault, opening_final}
use Rattle.pdf_codes.specs.Codes.{Used, glyphs_of}
use Rattle.pdf_codes.specs.Shown.{has_long_text, uses_of, texts_of}
use Rattle.pdf_codes.specs.declared.shown.Shown.{Shown}
use Rattle.pdf_values.specs.Permission.{is_permitted, permission}
use Rattle.pdf_source.specs.declared.choice.FontOptions.{FontOptions}
use Rattle.pdf_font.specs.First.{CanBeOpened, IsFoundFirst}
use Rattle.pdf_font.specs.PdfFont.{HasFontFault, HasNoPdfFont, IsPdfFont, bare as no_outlines, font_of, in_embedding, lacks_outlines}
use Rattle.pdf_font.proofs.Bare.{bare_unopened}
use Rattle.pdf_font.specs.declared.error.FontError.{FontError}
use Rattle.pdf_font.specs.declared.error.FontError.TheVariants.{Subset, NotPermitted, TextTooLong, BitmapsAlone}
use Rattle.pdf_font.specs.declared.font.PdfFont.{PdfFont}
use Rattle.subsetter_pdf_c.specs.Entries.{texts_from, uses_in, uses_with}
use Rattle.subsetter_pdf_c.specs.declared.made.PdfMade.{PdfMade}
use Rattle.subsetter_pdf_c.proofs.Steps.{uses_split}
use Rattle.subsetter_c.specs.Documents.PdfFonts.{IsFontRefused, IsHandedBy, whole, refused}
use Rattle.subsetter_c.proofs.AnswersLaws.Bytes.{failed}

abbrev failed_font : FontError → Result PdfFont FontError
failed_font e = Err e

-- the glyphs in use are those that C gave
pub uses_there : (shown : List Shown) (given : List Shown) (glyphs characters text ends : List ℕ) → given ≡ shown → map (λ (s : Shown). s.glyph) shown ≡ glyphs → texts_of shown ≡ texts_from characters 0 ends → characters ≡ text → uses_of given ≡ uses_in glyphs text ends
uses_there shown given glyphs characters text ends s g t c =
    ap uses_of s ∙ uses_split shown ∙ ap (λ (l : List ℕ). uses_with l (texts_of shown)) g ∙ ap (uses_with glyphs) (t ∙ ap (λ (l : List ℕ). texts_from l 0 ends) c)

module _ (font : Font) (settings : List (Tag × ℤ)) (options : FontOptions) (us : List Used) where
  unopened_final : (e : Error) → HasOpeningFaultAt font e → HasNoPdfFont font settings options us
  unopened_final e fault f is = opening_final options.limits.bytes options.limits.tokens options.limits.depth font settings (glyphs_of us) e fault is.made.new is.made.within is.made.embedded

  -- a face without outlines
  pub bare : lacks_outlines font ≡ true → IsFontRefused font settings options us BitmapsAlone
  bare is = record {
    why = inr (([], no_outlines is), unopened_final UnknownKind (bare_unopened font is));
    bare = λ _. refl;
    unopened = λ no. absurd (let both : true ≡ false = sym is ∙ no in cc);
    forbidden = λ opens denied. absurd (opens UnknownKind (bare_unopened font is));
    long = λ opens held h. absurd (opens UnknownKind (bare_unopened font is));
  }

  not_bare : {X : Type 0} → lacks_outlines font ≡ false → lacks_outlines font ≡ true → X
  not_bare other is = absurd (let both : true ≡ false = sym is ∙ other in cc)

  -- of another, before the call: memory ran out, and the font can be opened, or it can't
  pub unopened : {X : Type 0} → lacks_outlines font ≡ false → (e : Error) → (e ≡ OutOfMemory) ⊎ HasOpeningFaultAt font e → ((why : Error) → HasOpeningFaultAt font why → failed {X = X} e ≡ Err OutOfMemory → ⊥) → IsFontRefused font settings options us (Subset e)
  unopened {X} other e (inl memory) before = record {
    why = inl (ap Subset memory);
    bare = not_bare other;
    unopened = λ no fault h. absurd (before fault h (ap (failed {X = X}) memory));
    forbidden = λ opens denied. inl (ap Subset memory);
    long = λ opens held h. inl (ap Subset memory);
  }
  unopened other e (inr fault) before = record {
    why = inr (([], in_embedding (opening_fault options.limits.bytes options.limits.tokens options.limits.depth font settings (glyphs_of us) e fault)), unopened_final e fault);
    bare = not_bare other;
    unopened = λ no why h. (e, refl, fault);
    forbidden = λ opens denied. absurd (opens e fault);
    long = λ opens held h. absurd (opens e fault);
  }

  same_error : (e d : FontError) → failed_font e ≡ failed_font d → e ≡ d
  same_error e d h = cc

  -- a font that is answered can be opened
  pub without_memory : (f : PdfFont) → IsPdfFont font settings options us f → IsFontRefused font settings options us (Subset OutOfMemory)
  without_memory f is = record { why = inl refl; bare = λ h. absurd (unopened_final UnknownKind (bare_unopened font h) f is); unopened = λ no fault h. absurd (unopened_final fault h f is); forbidden = λ opens denied. inl refl; long = λ opens held h. inl refl }

  module _ (given : List (Tag × ℤ)) (used : List Used) (g : given ≡ settings) (u : used ≡ us) where
    there : (P : List (Tag × ℤ) → List Used → Type 0) → P given used → P settings us
    there P p = subst (λ (l : List Used). P settings l) u (subst (λ (s : List (Tag × ℤ)). P s used) g p)

    pub answered : (r : Result PdfFont FontError) → IfOk r (λ f. IsPdfFont font given options used f) → IfOk r (λ f. IsPdfFont font settings options us f)
    answered (Ok f) ok = there (λ s l. IsPdfFont font s options l f) ok
    answered (Err e) ok = tt

    bare_by : (e : FontError) → IsFoundFirst font options used (Err e) → lacks_outlines font ≡ true → e ≡ BitmapsAlone
    bare_by e found is = same_error e BitmapsAlone (found.bare is)

    first : (e : FontError) → IsFoundFirst font options used (Err e) → lacks_outlines font ≡ false → (fault : Error) → HasOpeningFaultAt font fault → (d : Error) × (e ≡ Subset d) × HasOpeningFaultAt font d
    first e found other fault h = let d = found.unopened other fault h in (d.0, same_error e (Subset d.0) d.1, d.2)

    forbidden_by : (e : FontError) → IsFoundFirst font options used (Err e) → CanBeOpened font → is_permitted (permission (stored font (codes "OS/2"))) options.rights ≡ false → (e ≡ Subset OutOfMemory) ⊎ (e ≡ NotPermitted (permission (stored font (codes "OS/2"))))
    forbidden_by e found opens denied = inr (same_error e (NotPermitted (permission (stored font (codes "OS/2")))) (found.forbidden opens denied))

    long_by : (e : FontError) → IsFoundFirst font options used (Err e) → CanBeOpened font → is_permitted (permission (stored font (codes "OS/2"))) options.rights ≡ true → has_long_text us ≡ true → (e ≡ Subset OutOfMemory) ⊎ (e ≡ TextTooLong)
    long_by e found opens held h = inr (same_error e TextTooLong (found.long opens held (ap has_long_text u ∙ h)))

    pub refused_by : (r : Result PdfFont FontError) → IfErr r (λ e. (e ≡ Subset OutOfMemory) ⊎ ((order : List ℕ) × HasFontFault font given options used order e)) → IfErr r (λ e. (e ≡ Subset OutOfMemory) ⊎ HasNoPdfFont font given options used) → IsFoundFirst font options used r → IfErr r (IsFontRefused font settings options us)
    refused_by (Ok f) err none found = tt
    refused_by (Err e) (inl memory) none found = record { why = inl memory; bare = bare_by e found; unopened = first e found; forbidden = forbidden_by e found; long = long_by e found }
    refused_by (Err e) (inr fault) (inl memory) found = record { why = inl memory; bare = bare_by e found; unopened = first e found; forbidden = forbidden_by e found; long = long_by e found }
    refused_by (Err e) (inr fault) (inr none) found = record {
      why = inr ((fault.0, there (λ s l. HasFontFault font s options l fault.0 e) fault.1), there (λ s l. HasNoPdfFont font s options l) none);
      bare = bare_by e found;
      unopened = first e found;
      forbidden = forbidden_by e found;
      long = long_by e found;
    }

-- the same for extras that are those of the options
pub unopened_at : {X : Type 0} (bytes : List ℕ) (index : ℕ) (settings : List (Tag × ℤ)) (options : FontOptions) (us : List Used) (extras : Extras) → extras ≡ extras_of options → lacks_outlines (font_of bytes index options) ≡ false → (e : Error) → (e ≡ OutOfMemory) ⊎ HasOpeningFaultAt (font_at bytes index extras) e → ((why : Error) → HasOpeningFaultAt (font_at bytes index extras) why → failed {X = X} e ≡ Err OutOfMemory → ⊥) → IsFontRefused (font_of bytes index options) settings options us (Subset e)
unopened_at {X} bytes index settings options us extras is other e err before =
    unopened (font_of bytes index options) settings options us {X = X} other e
    (subst (λ (x : Extras). (e ≡ OutOfMemory) ⊎ HasOpeningFaultAt (font_at bytes index x) e) is err)
    (subst (λ (x : Extras). (why : Error) → HasOpeningFaultAt (font_at bytes index x) why → failed {X = X} e ≡ Err OutOfMemory → ⊥) is before)

-- ---- handing over

pub font_handed : (Is : PdfFont → Type 0) (Why : FontError → Type 0) (answer : Result PdfFont FontError) (made : PdfMade) (status : ℕ) → IfOk answer Is → IfErr answer Why → IsHandedBy (λ f. answer ≡ Ok f) (λ e. answer ≡ Err e) made status → IsHandedBy Is Why made status
font_handed Is Why answer made status ok err (whole f is laid s) = whole f (subst (λ (r : Result PdfFont FontError). IfOk r Is) is ok) laid s
font_handed Is Why answer made status ok err (refused e w empty s) = refused e (subst (λ (r : Result PdfFont FontError). IfErr r Why) w err) empty s
