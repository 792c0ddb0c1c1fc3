-- What `embed` promises, by what `subset` promises and what is read of its answer.
use Rattle.std.proofs.Common.{◌≡◌, ℕ, ◌<◌, ◌||◌, true, eqb, List, [], length, get_or, map, Option, Some, None, Result, Ok, Err, refl, sym, ap, subst, ◌∙◌, ◌⊎◌, inl, inr}
use Rattle.std.specs.Prelude.{IsSome}
use Rattle.subsetter_base.proofs.Options.{some_not_none}
use Rattle.std.proofs.Math.Bool.{or-true}
use Rattle.std.proofs.lemmas.List.{get_or_default}
use Rattle.subsetter_base.specs.Gives.{Gives}
use Rattle.subsetter_base.specs.Indexes.{index_of, HasAllAboveZero}
use Rattle.subsetter_base.specs.declared.error.Error.{Error}
use Rattle.subsetter_base.specs.declared.error.Error.TheVariants.{UnknownKind, MalformedFont, Unimplemented, SubsetError, OverflowError, CFFError, OutOfMemory}
use Rattle.subsetter_base.proofs.GlyphLemmas.{known, known-all, Contains-index}
use Rattle.subsetter_sfnt.specs.Fault.{HasOpeningFault}
use Rattle.subsetter_sfnt.specs.Read.{Font}
use Rattle.subsetter.specs.Fault.{HasFault, in_opening}
use Rattle.subsetter.specs.Subset.{IsSubset}
use Rattle.subsetter.proofs.Headline.{not_memory}
use Rattle.subsetter.specs.Answer.{IsAnswer}
use Rattle.subsetter.specs.Bound as bounds
use Rattle.subsetter.specs.Bound.{IsWithin, HasFaultWithin, HasNoAnswerWithin}
use Rattle.cid_embed.specs.Afresh.{table_of, widths_of}
use Rattle.cid_embed.specs.Embed.{numbering, HasMapperFault, all_asked, unopened, IsEmbedded, HasEmbedFault, HasEmbedFaultWithin, HasNoEmbedding, HasNoEmbeddingWithin, IsEmbedPromised, in_numbering, in_subset, in_widths, in_font, beyond}
use Rattle.cid_embed.specs.Width.{HasWidthFault}
use Rattle.cid_embed.specs.declared.embedding.Embedded.{Embedded}
use Rattle.cid_embed.proofs.Reading.{IsReading, is_reading}

-- each asked glyph has a number
pub asked_known : (glyphs mapper : List ℕ) (k d : ℕ) → mapper ≡ numbering glyphs → k < length glyphs → IsSome (index_of mapper (get_or glyphs k d))
asked_known glyphs mapper k d m lt =
    let q = get_or glyphs k d in
    let known_there : known glyphs q ≡ true = Contains-index glyphs q (k, lt, get_or_default glyphs k q d lt) in
    ap (λ (l : List ℕ). known l q) m ∙ known-all glyphs q ∙ ap (λ b. eqb 0 q || b) known_there ∙ or-true (eqb 0 q)

-- a subset whose source has no fault, with the size limits judged for its order of glyphs
abbrev pub IsFaultless : ℕ → ℕ → Font → List ℕ → List ℕ → Type 0
IsFaultless tokens depth font glyphs out = (s : IsSubset tokens depth font glyphs out) × ((e : Error) → ¬ (HasFault tokens depth font glyphs s.keeps.order e))

-- why nothing is answered within a bound
abbrev pub IsRefusal : Option ℕ → ℕ → ℕ → Font → List ℕ → Error → Type 0
IsRefusal bound tokens depth font glyphs why = (why ≡ OutOfMemory) ⊎ ((order : List ℕ) × HasEmbedFaultWithin bound tokens depth font glyphs order why)

-- or it has no answer within it
abbrev pub IsFinal : Option ℕ → ℕ → ℕ → Font → List ℕ → Error → Type 0
IsFinal bound tokens depth font glyphs why = (why ≡ OutOfMemory) ⊎ HasNoEmbeddingWithin bound tokens depth font glyphs

-- the promise of a refusal
pub refused : (bound : Option ℕ) (tokens depth : ℕ) (font : Font) (glyphs : List ℕ) (why : Error) → IsRefusal bound tokens depth font glyphs why → IsFinal bound tokens depth font glyphs why → ((e : Error) → HasOpeningFault font e → why ≡ OutOfMemory → ⊥) → IsEmbedPromised bound tokens depth font glyphs (Err why)
refused bound tokens depth font glyphs why refusal final early = record { exact = tt; within = tt; err = refusal; no_answer = final; before_memory = λ e f k. early e f (let is = k in cc) }

-- where no bound is set, a fault is one of the font, and no answer is none at all
fault_of_font : (tokens depth : ℕ) (font : Font) (glyphs order : List ℕ) (why : Error) → HasEmbedFaultWithin None tokens depth font glyphs order why → HasEmbedFault tokens depth font glyphs order why
fault_of_font tokens depth font glyphs order why (in_font f) = f
fault_of_font tokens depth font glyphs order why (beyond b) = absurd (some_not_none None b.most b.is_set refl)

pub refused_by_font : (tokens depth : ℕ) (font : Font) (glyphs : List ℕ) (why : Error) → IsRefusal None tokens depth font glyphs why → (why ≡ OutOfMemory) ⊎ ((order : List ℕ) × HasEmbedFault tokens depth font glyphs order why)
refused_by_font tokens depth font glyphs why (inl m) = inl m
refused_by_font tokens depth font glyphs why (inr f) = inr (f.0, fault_of_font tokens depth font glyphs f.0 why f.1)

pub final_for_font : (tokens depth : ℕ) (font : Font) (glyphs : List ℕ) (why : Error) → IsFinal None tokens depth font glyphs why → (why ≡ OutOfMemory) ⊎ HasNoEmbedding tokens depth font glyphs
final_for_font tokens depth font glyphs why (inl m) = inl m
final_for_font tokens depth font glyphs why (inr n) = inr (λ e a. n e tt a)

-- what a mapper refuses, as a fault of numbering
pub unnumbered : (font : Font) (glyphs : List ℕ) (why : Error) → (why ≡ OutOfMemory) ⊎ ((why ≡ OverflowError) × HasAllAboveZero glyphs) → (why ≡ OutOfMemory) ⊎ HasMapperFault font glyphs why
unnumbered font glyphs why (inl memory) = inl memory
unnumbered font glyphs why (inr full) = inr (subst (HasMapperFault font glyphs) (sym full.0) (all_asked full.1))

module _ (bound : Option ℕ) (tokens depth : ℕ) (font : Font) (glyphs : List ℕ) where
  pub mapper_refused : (why : Error) → (why ≡ OutOfMemory) ⊎ HasMapperFault font glyphs why → IsRefusal bound tokens depth font glyphs why
  mapper_refused why (inl memory) = inl memory
  mapper_refused why (inr (all_asked all)) = inr ([], in_font (in_numbering all))
  mapper_refused why (inr (unopened fault)) = inr ([], in_font (in_subset (in_opening fault)))

  fault_within : (order : List ℕ) (why : Error) → HasFaultWithin bound tokens depth font (numbering glyphs) order why → HasEmbedFaultWithin bound tokens depth font glyphs order why
  fault_within order why (bounds.in_font f) = in_font (in_subset f)
  fault_within order why (bounds.beyond b) = beyond b

  pub subset_refused : (mapper : List ℕ) (why : Error) → mapper ≡ numbering glyphs → (why ≡ OutOfMemory) ⊎ ((order : List ℕ) × HasFaultWithin bound tokens depth font mapper order why) → IsRefusal bound tokens depth font glyphs why
  subset_refused mapper why m (inl memory) = inl memory
  subset_refused mapper why m (inr fault) = inr (fault.0, fault_within fault.0 why (subst (λ (l : List ℕ). HasFaultWithin bound tokens depth font l fault.0 why) m fault.1))

  pub mapper_final : (why : Error) → (why ≡ OutOfMemory) ⊎ HasMapperFault font glyphs why → IsFinal bound tokens depth font glyphs why
  mapper_final why (inl memory) = inl memory
  mapper_final why (inr (all_asked all)) = inr (λ e within a. a.clean OverflowError (in_numbering all))
  mapper_final why (inr (unopened fault)) = inr (λ e within a. a.clean why (in_subset (in_opening fault)))

  -- the promise of a font that can't be opened
  pub closed : (e : Error) → HasOpeningFault font e → IsEmbedPromised bound tokens depth font glyphs (Err e)
  closed e f = refused bound tokens depth font glyphs e (mapper_refused e (inr (unopened f))) (mapper_final e (inr (unopened f))) (λ d g m. not_memory font e f m)

  pub subset_final : (mapper : List ℕ) (why : Error) → mapper ≡ numbering glyphs → (why ≡ OutOfMemory) ⊎ HasNoAnswerWithin bound tokens depth font mapper → IsFinal bound tokens depth font glyphs why
  subset_final mapper why m (inl memory) = inl memory
  subset_final mapper why m (inr none) = inr (λ e within a. none e.font.items within (subst (λ (l : List ℕ). IsAnswer tokens depth font l e.font.items) (sym m) a.font_is))

  -- a reading that refuses has a fault of widths, unless memory ran out
  unread : {X : Type 0} (view : X → List ℕ) (r : Result (List ℕ) Error) (why : Error) → Gives view (Err why) r → IsReading font (numbering glyphs) r → (why ≡ OutOfMemory) ⊎ HasWidthFault font why
  unread view r OutOfMemory g i = inl refl
  unread view r UnknownKind g i = inr (subst (IsReading font (numbering glyphs)) g i)
  unread view r MalformedFont g i = inr (subst (IsReading font (numbering glyphs)) g i)
  unread view r Unimplemented g i = inr (subst (IsReading font (numbering glyphs)) g i)
  unread view r SubsetError g i = inr (subst (IsReading font (numbering glyphs)) g i)
  unread view r OverflowError g i = inr (subst (IsReading font (numbering glyphs)) g i)
  unread view r CFFError g i = inr (subst (IsReading font (numbering glyphs)) g i)

  module _ (mapper out bytes : List ℕ) (count : ℕ) (m : mapper ≡ numbering glyphs) (b : bytes ≡ out) (n : count ≡ length mapper) (clean : IsFaultless tokens depth font mapper out) where
    renamed : IsFaultless tokens depth font (numbering glyphs) out
    renamed = subst (λ (l : List ℕ). IsFaultless tokens depth font l out) m clean

    reading : IsReading font (numbering glyphs) (widths_of (table_of bytes) count)
    reading =
        subst (λ (l : List ℕ). IsReading font (numbering glyphs) (widths_of (table_of l) count)) (sym b)
        (subst (λ (k : ℕ). IsReading font (numbering glyphs) (widths_of (table_of out) k)) (sym (n ∙ ap length m))
        (is_reading tokens depth font (numbering glyphs) out renamed.0 renamed.1))

    pub widths_refused : {X : Type 0} (view : X → List ℕ) (why : Error) → Gives view (Err why) (widths_of (table_of bytes) count) → IsRefusal bound tokens depth font glyphs why
    widths_refused view why g =
        elim (unread view (widths_of (table_of bytes) count) why g reading) [
          | inl memory ↦ inl memory
          | inr fault ↦ inr (renamed.0.keeps.order, in_font (in_widths fault))
        ]

    pub widths_final : {X : Type 0} (view : X → List ℕ) (why : Error) → Gives view (Err why) (widths_of (table_of bytes) count) → IsFinal bound tokens depth font glyphs why
    widths_final view why g =
        elim (unread view (widths_of (table_of bytes) count) why g reading) [
          | inl memory ↦ inl memory
          | inr fault ↦ inr (λ e within a. a.clean why (in_widths fault))
        ]

    -- all that is answered
    pub answered : (e : Embedded) → out ≡ e.font.items → widths_of (table_of bytes) count ≡ Ok e.widths.items → map Some e.cids.items ≡ map (index_of mapper) glyphs → (HasAllAboveZero glyphs → ⊥) → (s : IsEmbedded tokens depth font glyphs e) × ((why : Error) → ¬ (HasEmbedFault tokens depth font glyphs s.subset.keeps.order why))
    answered e f w cids room =
        let whole : IsFaultless tokens depth font (numbering glyphs) e.font.items = subst (IsFaultless tokens depth font (numbering glyphs)) f renamed in
        let read : IsReading font (numbering glyphs) (Ok e.widths.items) = subst (IsReading font (numbering glyphs)) w reading in
        (record { subset = whole.0; cids = cids ∙ ap (λ (l : List ℕ). map (index_of l) glyphs) m; widths = read.0 }, none whole.0.keeps.order room whole.1 read.1)
      where
        none : (order : List ℕ) → (HasAllAboveZero glyphs → ⊥) → ((why : Error) → ¬ (HasFault tokens depth font (numbering glyphs) order why)) → ((why : Error) → HasWidthFault font why → ⊥) → (why : Error) → ¬ (HasEmbedFault tokens depth font glyphs order why)
        none order r s w why (in_numbering all) = r all
        none order r s w why (in_subset f) = s why f
        none order r s w why (in_widths f) = w why f
