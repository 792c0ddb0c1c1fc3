-- What is refused before an embedding is made.
use Rattle.std.proofs.Common.{◌≡◌, ℕ, List, [], Bool, true, false, Option, Result, Err, ℤ, refl, sym, ap, subst, ◌∙◌, ◌⊎◌, inl, inr}
use Rattle.std.specs.Borrow.{Bor}
use Rattle.std.specs.Prelude.{codes}
use Rattle.std.specs.Option.{option_copied}
use Rattle.subsetter_base.specs.declared.tag.Tag.{Tag}
use Rattle.subsetter_base.specs.declared.error.Error.{Error}
use Rattle.subsetter_base.specs.declared.error.Error.TheVariants.{OutOfMemory, UnknownKind}
use Rattle.subsetter_sfnt.specs.Fault.{HasOpeningFault, no_kind, no_entry, entry_outside, no_face, nested, cut_directory, no_outlines as without_outlines, lone_cff2}
use Rattle.subsetter_sfnt.specs.Read.{Font, stored, table_in}
use Rattle.subsetter_sfnt.specs.declared.face.Face.{Face}
use Rattle.subsetter.specs.Fault.{in_opening}
use Rattle.subsetter_variable.specs.Subset.{HasOpeningFaultAt}
use Rattle.subsetter_variable.proofs.Static.{one_static, closed}
use Rattle.cid_embed.specs.Embed.{numbering, IsEmbeddingAnswer, in_font, in_subset}
use Rattle.cid_embed_at.specs.Embed.{in_static}
use Rattle.pdf_codes.specs.Codes.{Used, glyphs_of}
use Rattle.pdf_codes.specs.Shown.{has_long_text}
use Rattle.pdf_values.specs.Permission.{is_permitted, permission}
use Rattle.pdf_values.specs.declared.permission.Permission.{Permission}
use Rattle.pdf_font.specs.First.{CanBeOpened, IsFoundFirst}
use Rattle.pdf_font.specs.Opened.{IsOpened}
use Rattle.pdf_font.specs.PdfFont.{HasFontFault, HasNoPdfFont, bare, in_embedding, lacks_outlines, long_text, not_permitted}
use Rattle.pdf_source.specs.declared.choice.FontOptions.{FontOptions}
use Rattle.pdf_font.specs.declared.error.FontError.{FontError}
use Rattle.pdf_font.specs.declared.error.FontError.TheVariants.{Subset, NotPermitted, TextTooLong, BitmapsAlone}
use Rattle.pdf_font.specs.declared.font.PdfFont.{PdfFont}
use Rattle.pdf_font.proofs.Bare.{bare_unopened}

-- opening takes no memory
fault_not_memory : (font : Font) (e : Error) → HasOpeningFault font e → e ≡ OutOfMemory → ⊥
fault_not_memory font _ (no_kind k) m = cc
fault_not_memory font _ (no_entry k d) m = cc
fault_not_memory font _ (entry_outside at k d lt) m = cc
fault_not_memory font _ (no_face at k d n) m = cc
fault_not_memory font _ (nested at k d n) m = cc
fault_not_memory font _ (cut_directory at h n) m = cc
fault_not_memory font _ (without_outlines r g k d) m = cc
fault_not_memory font _ (lone_cff2 g k d) m = cc

pub not_memory : (font : Font) (e : Error) → HasOpeningFaultAt font e → e ≡ OutOfMemory → ⊥
not_memory font e f m = fault_not_memory font e f.fault m

-- an error of an embedding, under its name
pub named : {X : Type 0} (e : Error) → (e ≡ OutOfMemory) ⊎ X → (Subset e ≡ Subset OutOfMemory) ⊎ X
named e (inl m) = inl (ap Subset m)
named e (inr x) = inr x

-- what the font permits is read of the `OS/2` that its face finds
pub permission_found : (font : Font) (face : Face) → IsOpened font face → (os2 : Option (Bor (List ℕ))) (tag : List ℕ) (p : Permission) → tag ≡ codes "OS/2" → option_copied os2 ≡ table_in face.«data».now face.records.now tag → p ≡ permission (option_copied os2) → p ≡ permission (stored font (codes "OS/2"))
permission_found font face opened os2 tag p t found is = is ∙ ap permission (found ∙ ap (table_in face.«data».now face.records.now) t ∙ ap (λ (find : List ℕ → Option (List ℕ)). find (codes "OS/2")) opened.find)

module _ (font : Font) (settings : List (Tag × ℤ)) (options : FontOptions) (us : List Used) where
  pub unopened : (e : Error) → HasOpeningFaultAt font e → (order : List ℕ) × HasFontFault font settings options us order (Subset e)
  unopened e f = ([], in_embedding (in_static font (closed font settings (numbering (glyphs_of us)) e f) (in_font (in_subset (in_opening f.fault)))))

  pub unopened_final : (e : Error) → HasOpeningFaultAt font e → HasNoPdfFont font settings options us
  unopened_final e fault = λ f p.
      let a = p.made.embedded in
      let is : a.static ≡ font = one_static font settings (numbering (glyphs_of us)) a.static font a.is_static (closed font settings (numbering (glyphs_of us)) e fault) in
      let answer : IsEmbeddingAnswer options.limits.tokens options.limits.depth font (glyphs_of us) p.made.new = subst (λ (x : Font). IsEmbeddingAnswer options.limits.tokens options.limits.depth x (glyphs_of us) p.made.new) is a.answer in
      answer.clean e (in_subset (in_opening fault.fault))

  pub forbidden : (p : Permission) → p ≡ permission (stored font (codes "OS/2")) → is_permitted p options.rights ≡ false → (order : List ℕ) × HasFontFault font settings options us order (NotPermitted p)
  forbidden p is h =
      ([], subst (λ (x : Permission). HasFontFault font settings options us [] (NotPermitted x)) (sym is) (not_permitted (sym (ap (λ (x : Permission). is_permitted x options.rights) is) ∙ h)))

  pub forbidden_final : (p : Permission) → p ≡ permission (stored font (codes "OS/2")) → is_permitted p options.rights ≡ false → HasNoPdfFont font settings options us
  forbidden_final p is h = λ f q.
      let same : f.permission ≡ p = q.permission ∙ sym is in
      let yes : is_permitted p options.rights ≡ true = sym (ap (λ (x : Permission). is_permitted x options.rights) same) ∙ q.permitted in
      let both : true ≡ false = sym yes ∙ h in cc

  pub too_long : has_long_text us ≡ true → (order : List ℕ) × HasFontFault font settings options us order TextTooLong
  too_long h = ([], long_text h)

  pub too_long_final : has_long_text us ≡ true → HasNoPdfFont font settings options us
  too_long_final h = λ f q. let both : true ≡ false = sym h ∙ q.short in cc

  pub of_bare : lacks_outlines font ≡ true → (order : List ℕ) × HasFontFault font settings options us order BitmapsAlone
  of_bare lacks = ([], bare lacks)

  pub bare_final : lacks_outlines font ≡ true → HasNoPdfFont font settings options us
  bare_final lacks = unopened_final UnknownKind (bare_unopened font lacks)

  -- ---- what is found first

  abbrev pub First : Result PdfFont FontError → Type 0
  First r = IsFoundFirst font options us r

  abbrev Permitted : Bool → Type 0
  Permitted b = is_permitted (permission (stored font (codes "OS/2"))) options.rights ≡ b

  pub first_bare : lacks_outlines font ≡ true → First (Err BitmapsAlone)
  first_bare lacks = record {
    bare = λ _. refl;
    unopened = λ no. absurd (let both : true ≡ false = sym lacks ∙ no in cc);
    forbidden = λ clean no. absurd (clean UnknownKind (bare_unopened font lacks));
    long = λ clean yes l. absurd (clean UnknownKind (bare_unopened font lacks));
  }

  pub first_unopened : lacks_outlines font ≡ false → (d : Error) → HasOpeningFaultAt font d → First (Err (Subset d))
  first_unopened other d fault = record {
    bare = λ lacks. absurd (let both : true ≡ false = sym lacks ∙ other in cc);
    unopened = λ no e f. (d, refl, fault);
    forbidden = λ clean no. absurd (clean d fault);
    long = λ clean yes l. absurd (clean d fault);
  }

  permitted_by : (p : Permission) (b : Bool) → p ≡ permission (stored font (codes "OS/2")) → is_permitted p options.rights ≡ b → Permitted b
  permitted_by p b is h = sym (ap (λ (x : Permission). is_permitted x options.rights) is) ∙ h

  pub first_forbidden : CanBeOpened font → (p : Permission) → p ≡ permission (stored font (codes "OS/2")) → is_permitted p options.rights ≡ false → First (Err (NotPermitted p))
  first_forbidden clean p is h = record {
    bare = λ lacks. absurd (clean UnknownKind (bare_unopened font lacks));
    unopened = λ no e f. absurd (clean e f);
    forbidden = λ _ no. ap (λ (x : Permission). Err (NotPermitted x)) is;
    long = λ _ yes l. absurd (let no = permitted_by p false is h in let both : true ≡ false = sym yes ∙ no in cc);
  }

  pub first_long : CanBeOpened font → (p : Permission) → p ≡ permission (stored font (codes "OS/2")) → is_permitted p options.rights ≡ true → First (Err TextTooLong)
  first_long clean p is h = record {
    bare = λ lacks. absurd (clean UnknownKind (bare_unopened font lacks));
    unopened = λ no e f. absurd (clean e f);
    forbidden = λ _ no. absurd (let yes = permitted_by p true is h in let both : true ≡ false = sym yes ∙ no in cc);
    long = λ _ yes l. refl;
  }

  -- where none of them is found, nothing is said
  pub first_none : CanBeOpened font → (p : Permission) → p ≡ permission (stored font (codes "OS/2")) → is_permitted p options.rights ≡ true → has_long_text us ≡ false → (r : Result PdfFont FontError) → First r
  first_none clean p is h short r = record {
    bare = λ lacks. absurd (clean UnknownKind (bare_unopened font lacks));
    unopened = λ no e f. absurd (clean e f);
    forbidden = λ _ no. absurd (let yes = permitted_by p true is h in let both : true ≡ false = sym yes ∙ no in cc);
    long = λ _ yes l. absurd (let both : true ≡ false = sym l ∙ short in cc);
  }
