-- What is said of an embedding of the static font is said of the font.
use Rattle.std.proofs.Common.{◌≡◌, ℕ, List, [], Option, Result, Ok, Err, ℤ, refl, sym, subst, ◌⊎◌, inl, inr}
use Rattle.std.specs.Prelude.{IfOk, IfErr}
use Rattle.subsetter_base.specs.declared.tag.Tag.{Tag}
use Rattle.subsetter_base.specs.declared.error.Error.{Error}
use Rattle.subsetter_base.specs.declared.error.Error.TheVariants.{OutOfMemory}
use Rattle.subsetter_base.specs.declared.error.Error.TheVariants.{OverflowError}
use Rattle.subsetter_base.specs.Indexes.{HasAllAboveZero}
use Rattle.subsetter_sfnt.specs.Read.{Font}
use Rattle.subsetter.specs.Fault.{in_opening}
use Rattle.subsetter.specs.Subset.{IsSubset}
use Rattle.subsetter_variable.specs.DefaultLocation.{IsCff2Font, HasStaticFault}
use Rattle.subsetter_variable.specs.Subset.{whole, HasOpeningFaultAt, IsStatic, IsTheAnswerAt}
use Rattle.subsetter_variable.proofs.Static.{one_static, closed, answers_are_one}
use Rattle.cid_embed.specs.Embed.{numbering, HasMapperFault, all_asked, unopened, in_font, in_numbering, in_subset, IsEmbeddingAnswer, IsEmbedPromised}
use Rattle.cid_embed.specs.declared.embedding.Embedded.{Embedded}
use Rattle.cid_embed_at.specs.Embed.{IsEmbeddingAnswerAt, HasEmbedFaultAt, HasNoEmbeddingAt, IsEmbedPromisedAt, in_instance, in_cff_instance, in_static, in_numbering as none_left}

-- ---- glyphs without numbers

abbrev pub IsUnnumbered : Font → List ℕ → Error → Type 0
IsUnnumbered font glyphs e = (e ≡ OutOfMemory) ⊎ (((e ≡ OverflowError) × HasAllAboveZero glyphs) ⊎ HasOpeningFaultAt font e)

-- of a font without outlines in CFF2 alone
other_unnumbered : (font : Font) (glyphs : List ℕ) (e : Error) → (IsCff2Font (whole font) → ⊥) → (e ≡ OutOfMemory) ⊎ HasMapperFault font glyphs e → IsUnnumbered font glyphs e
other_unnumbered font glyphs e other (inl m) = inl m
other_unnumbered font glyphs _ other (inr (all_asked all)) = inr (inl (refl, all))
other_unnumbered font glyphs e other (inr (unopened fault)) = inr (inr (record { fault = fault; not_cff2 = other }))

pub others_unnumbered : {X : Type 0} (font : Font) (glyphs : List ℕ) → (IsCff2Font (whole font) → ⊥) → (r : Result X Error) → IfErr r (λ e. (e ≡ OutOfMemory) ⊎ HasMapperFault font glyphs e) → IfErr r (IsUnnumbered font glyphs)
others_unnumbered font glyphs other (Ok x) h = tt
others_unnumbered font glyphs other (Err e) h = other_unnumbered font glyphs e other h

module _ (bound : Option ℕ) (tokens depth : ℕ) (font : Font) (settings : List (Tag × ℤ)) (glyphs : List ℕ) where
  -- ---- glyphs without numbers, and a font that can't be opened

  pub opening_fault : (e : Error) → HasOpeningFaultAt font e → HasEmbedFaultAt bound tokens depth font settings glyphs [] e
  opening_fault e f = in_static font (closed font settings (numbering glyphs) e f) (in_font (in_subset (in_opening f.fault)))

  pub opening_final : (e : Error) → HasOpeningFaultAt font e → HasNoEmbeddingAt bound tokens depth font settings glyphs
  opening_final e f x within a =
      let is : a.static ≡ font = one_static font settings (numbering glyphs) a.static font a.is_static (closed font settings (numbering glyphs) e f) in
      let answer : IsEmbeddingAnswer tokens depth font glyphs x = subst (λ (s : Font). IsEmbeddingAnswer tokens depth s glyphs x) is a.answer in
      answer.clean e (in_subset (in_opening f.fault))

  pub unnumbered : (e : Error) → IsUnnumbered font glyphs e → (e ≡ OutOfMemory) ⊎ ((order : List ℕ) × HasEmbedFaultAt bound tokens depth font settings glyphs order e)
  unnumbered e (inl m) = inl m
  unnumbered e (inr (inl all)) = inr ([], subst (λ (why : Error). HasEmbedFaultAt bound tokens depth font settings glyphs [] why) (sym all.0) (none_left all.1))
  unnumbered e (inr (inr f)) = inr ([], opening_fault e f)

  pub unnumbered_final : (e : Error) → IsUnnumbered font glyphs e → (e ≡ OutOfMemory) ⊎ HasNoEmbeddingAt bound tokens depth font settings glyphs
  unnumbered_final e (inl m) = inl m
  unnumbered_final e (inr (inl all)) = inr (λ x within a. a.answer.clean OverflowError (in_numbering all.1))
  unnumbered_final e (inr (inr f)) = inr (opening_final e f)

  -- ---- no static font

  module _ (mapper : List ℕ) (m : mapper ≡ numbering glyphs) where
    there : (e : Error) → HasStaticFault (whole font) settings mapper tokens depth e → HasStaticFault (whole font) settings (numbering glyphs) tokens depth e
    there e f = subst (λ (l : List ℕ). HasStaticFault (whole font) settings l tokens depth e) m f

    faulty : (e : Error) → HasStaticFault (whole font) settings (numbering glyphs) tokens depth e → HasEmbedFaultAt bound tokens depth font settings glyphs [] e
    faulty e (inl f) = in_instance f.0 f.1
    faulty e (inr f) = in_cff_instance f.0 f.1

    none_made : (e : Error) → HasStaticFault (whole font) settings (numbering glyphs) tokens depth e → HasNoEmbeddingAt bound tokens depth font settings glyphs
    none_made e (inl f) x within a = a.made e f.0 f.1
    none_made e (inr f) x within a = a.cff_made e f.0 f.1

    pub unmade : (e : Error) → (e ≡ OutOfMemory) ⊎ HasStaticFault (whole font) settings mapper tokens depth e → (e ≡ OutOfMemory) ⊎ ((order : List ℕ) × HasEmbedFaultAt bound tokens depth font settings glyphs order e)
    unmade e (inl o) = inl o
    unmade e (inr f) = inr ([], faulty e (there e f))

    pub unmade_final : (e : Error) → (e ≡ OutOfMemory) ⊎ HasStaticFault (whole font) settings mapper tokens depth e → (e ≡ OutOfMemory) ⊎ HasNoEmbeddingAt bound tokens depth font settings glyphs
    unmade_final e (inl o) = inl o
    unmade_final e (inr f) = inr (none_made e (there e f))

  -- ---- the promises

  pub refused : (e : Error) → (e ≡ OutOfMemory) ⊎ ((order : List ℕ) × HasEmbedFaultAt bound tokens depth font settings glyphs order e) → (e ≡ OutOfMemory) ⊎ HasNoEmbeddingAt bound tokens depth font settings glyphs → ((why : Error) → HasOpeningFaultAt font why → e ≡ OutOfMemory → ⊥) → IsEmbedPromisedAt bound tokens depth font settings glyphs (Err e)
  refused e refusal final early = record { exact = tt; within = tt; err = refusal; no_answer = final; before_memory = λ why f k. early why f (let is = k in cc) }

  module _ (static : Font) (is : IsStatic font settings (numbering glyphs) static) where
    -- what is promised of the static font is promised of the font
    pub promised_at : ((why : Error) → HasStaticFault (whole font) settings (numbering glyphs) tokens depth why → ⊥) → (r : Result Embedded Error) → ((e : Error) → HasOpeningFaultAt font e → r ≡ Err OutOfMemory → ⊥) → IsEmbedPromised bound tokens depth static glyphs r → IsEmbedPromisedAt bound tokens depth font settings glyphs r
    promised_at made (Ok e) early p =
        record {
          exact = record { static = static; is_static = is; made = λ why not f. made why (inl (not, f)); cff_made = λ why c f. made why (inr (c, f)); answer = p.exact };
          within = p.within;
          err = tt;
          no_answer = tt;
          before_memory = early;
        }
    promised_at made (Err why) early p =
        record {
          exact = tt;
          within = tt;
          err = elim p.err [ inl m ↦ inl m | inr f ↦ inr (f.0, in_static static is f.1) ];
          no_answer = elim p.no_answer [ inl m ↦ inl m | inr n ↦ inr (λ x within a. n x within (subst (λ (f : Font). IsEmbeddingAnswer tokens depth f glyphs x) (one_static font settings (numbering glyphs) a.static static a.is_static is) a.answer)) ];
          before_memory = early;
        }

    pub subset_in : (r : Result Embedded Error) → IsEmbedPromised bound tokens depth static glyphs r → IfOk r (λ e. IsSubset tokens depth static (numbering glyphs) e.font.items)
    subset_in (Ok e) p = p.exact.embedded.subset
    subset_in (Err why) p = tt

-- the font of an answer is the one answer
pub one_font : (tokens depth : ℕ) (font : Font) (settings : List (Tag × ℤ)) (glyphs : List ℕ) (e : Embedded) → IsEmbeddingAnswerAt tokens depth font settings glyphs e → IsTheAnswerAt font settings (numbering glyphs) e.font.items
one_font tokens depth font settings glyphs e a =
    answers_are_one tokens depth font settings (numbering glyphs) e.font.items (record { static = a.static; is_static = a.is_static; made = a.made; cff_made = a.cff_made; answer = a.answer.font_is })
