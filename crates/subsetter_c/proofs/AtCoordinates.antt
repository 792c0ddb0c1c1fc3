-- What is said of a subset at coordinates, in other words.
use Rattle.std.proofs.Common.{◌≡◌, ℕ, List, [], sym, subst, ◌∙◌, ◌⊎◌, inl, inr, Vec, Global, Result, Ok, Err, ℤ, Option}
use Rattle.std.specs.Prelude.{IfOk, IfErr}
use Rattle.subsetter_base.specs.declared.tag.Tag.{Tag}
use Rattle.subsetter_base.specs.declared.error.Error.{Error}
use Rattle.subsetter_base.specs.declared.error.Error.TheVariants.{OutOfMemory}
use Rattle.subsetter_sfnt.specs.Read.{Font}
use Rattle.subsetter.specs.Answer.{IsAnswer}
use Rattle.subsetter.specs.Bound.{in_font}
use Rattle.subsetter.specs.Fault.{in_opening}
use Rattle.cid_embed.specs.Embed.{numbering, IsEmbedded}
use Rattle.cid_embed.specs.declared.embedding.Embedded.{Embedded}
use Rattle.cid_embed_at.specs.Embed.{IsEmbeddingAnswerAt, HasEmbedFaultAt, HasNoEmbeddingAt, IsEmbedPromisedAt}
use Rattle.cid_embed_at.proofs.AtPlace.{IsUnnumbered, opening_fault, opening_final, one_font}
use Rattle.subsetter_variable.specs.Afresh.{HasGlyphsDrawn}
use Rattle.subsetter_variable.specs.Blended.{HasGlyphsBlended}
use Rattle.subsetter_variable.specs.DefaultLocation.{IsAtDefault, IsCff2Font}
use Rattle.subsetter_variable.specs.Subset.{whole, HasOpeningFaultAt, IsAnswerAt, HasFaultAt, HasNoAnswerAt, IsTheAnswerAt, in_static}
use Rattle.subsetter_variable.specs.Promise.{IsPromisedAt}
use Rattle.subsetter_variable.proofs.Static.{one_static, closed, answers_are_one}
use Rattle.subsetter_c.specs.Answers.Embedding.{lists_of}
use Rattle.subsetter_c.specs.Settings.{IsSoundSubsetAt, HasCallFaultAt, IsRefusalAt, in_numbering, in_subset, IsSoundEmbeddingAt, IsEmbeddingRefusalAt}
use Rattle.subsetter_c.proofs.AnswersLaws.Bytes.{wanting, no_room, failed}
use Rattle.subsetter_c.proofs.AnswersLaws.Lists.{same_members}
use Rattle.subsetter_c.proofs.AnswersLaws.Made.{alike}

module _ (bound : Option ℕ) (tokens depth : ℕ) (font : Font) (settings : List (Tag × ℤ)) (glyphs : List ℕ) where
  -- a font that can't be opened has no answer
  none_closed : (e : Error) → HasOpeningFaultAt font e → HasNoAnswerAt bound tokens depth font settings (numbering glyphs)
  none_closed e f out within a =
      let is : a.static ≡ font = one_static font settings (numbering glyphs) a.static font a.is_static (closed font settings (numbering glyphs) e f) in
      let answer : IsAnswer tokens depth font (numbering glyphs) out = subst (λ (s : Font). IsAnswer tokens depth s (numbering glyphs) out) is a.answer in
      answer.clean e (in_opening f.fault)

  pub opening_refused : {X : Type 0} (e : Error) → (e ≡ OutOfMemory) ⊎ HasOpeningFaultAt font e → ((why : Error) → HasOpeningFaultAt font why → failed {X = X} e ≡ Err OutOfMemory → ⊥) → IsRefusalAt bound tokens depth font settings glyphs e
  opening_refused e (inl memory) before = inl (wanting (HasOpeningFaultAt font) e memory before)
  opening_refused e (inr f) before = inr (in_subset [] (in_static font (closed font settings (numbering glyphs) e f) (in_font (in_opening f.fault))), none_closed e f)

  pub mapper_refused : {X : Type 0} (e : Error) → IsUnnumbered font glyphs e → ((why : Error) → HasOpeningFaultAt font why → failed {X = X} e ≡ Err OutOfMemory → ⊥) → IsRefusalAt bound tokens depth font settings glyphs e
  mapper_refused e (inl memory) before = inl (wanting (HasOpeningFaultAt font) e memory before)
  mapper_refused e (inr (inl all)) before = inr (subst (λ (why : Error). HasCallFaultAt bound tokens depth font settings glyphs why) (sym all.0) (in_numbering all.1), λ out within a. no_room bound tokens depth a.static glyphs all.1 out a.answer)
  mapper_refused e (inr (inr f)) before = opening_refused e (inr f) before

  module _ (given : List (Tag × ℤ)) (mapper : List ℕ) (g : given ≡ settings) (m : mapper ≡ numbering glyphs) where
    -- what holds for the list and the mapper holds for what they are made of
    there : (P : List (Tag × ℤ) → List ℕ → Type 0) → P given mapper → P settings (numbering glyphs)
    there P p = subst (λ (l : List ℕ). P settings l) m (subst (λ (s : List (Tag × ℤ)). P s mapper) g p)

    refused_by : (r : Result (Vec ℕ Global) Error) → IfErr r (λ e. (e ≡ OutOfMemory) ⊎ ((order : List ℕ) × HasFaultAt bound tokens depth font given mapper order e)) → IfErr r (λ e. (e ≡ OutOfMemory) ⊎ HasNoAnswerAt bound tokens depth font given mapper) → ((why : Error) → HasOpeningFaultAt font why → r ≡ Err OutOfMemory → ⊥) → IfErr r (IsRefusalAt bound tokens depth font settings glyphs)
    refused_by (Ok v) h none before = h
    refused_by (Err e) (inl memory) none before = inl (wanting (HasOpeningFaultAt font) e memory before)
    refused_by (Err e) (inr fault) (inl memory) before = inl (wanting (HasOpeningFaultAt font) e memory before)
    refused_by (Err e) (inr fault) (inr none) before = inr (in_subset fault.0 (there (λ s l. HasFaultAt bound tokens depth font s l fault.0 e) fault.1), there (λ s l. HasNoAnswerAt bound tokens depth font s l) none)

    pub subset_refused : (r : Result (Vec ℕ Global) Error) → IsPromisedAt (λ v. v.items) bound tokens depth font given mapper r → IfErr r (IsRefusalAt bound tokens depth font settings glyphs)
    subset_refused r p = refused_by r p.err p.no_answer p.before_memory

    pub subset_sound : (r : Result (Vec ℕ Global) Error) → IsPromisedAt (λ v. v.items) bound tokens depth font given mapper r → IfOk r (λ v. (IsAtDefault (whole font) given → ⊥) → HasGlyphsDrawn (whole font) given mapper v.items) → IfOk r (λ v. IsCff2Font (whole font) → HasGlyphsBlended (whole font) given mapper v.items) → IfOk r (λ v. IsSoundSubsetAt bound tokens depth font settings glyphs v.items)
    subset_sound (Ok v) p drawn blended = record {
      answer = there (λ s l. IsAnswerAt tokens depth font s l v.items) p.exact;
      same = there (λ s l. IsTheAnswerAt font s l v.items) (answers_are_one tokens depth font given mapper v.items p.exact);
      drawn = there (λ s l. (IsAtDefault (whole font) s → ⊥) → HasGlyphsDrawn (whole font) s l v.items) drawn;
      drawn_cff = there (λ s l. IsCff2Font (whole font) → HasGlyphsBlended (whole font) s l v.items) blended;
      within = p.within;
    }
    subset_sound (Err e) p drawn blended = tt

-- ---- with CIDs and widths

module _ (bound : Option ℕ) (tokens depth : ℕ) (font : Font) (settings : List (Tag × ℤ)) (glyphs : List ℕ) where
  pub embedding_unopened : {X : Type 0} (e : Error) → (e ≡ OutOfMemory) ⊎ HasOpeningFaultAt font e → ((why : Error) → HasOpeningFaultAt font why → failed {X = X} e ≡ Err OutOfMemory → ⊥) → IsEmbeddingRefusalAt bound tokens depth font settings glyphs e
  embedding_unopened e (inl memory) before = inl (wanting (HasOpeningFaultAt font) e memory before)
  embedding_unopened e (inr fault) before = inr (([], opening_fault bound tokens depth font settings glyphs e fault), opening_final bound tokens depth font settings glyphs e fault)

  -- where the font is the one answer, the CIDs and the widths are too
  same_lists : (more deeper : ℕ) (e other : Embedded) → IsEmbeddingAnswerAt tokens depth font settings glyphs e → IsTheAnswerAt font settings (numbering glyphs) e.font.items → IsEmbeddingAnswerAt more deeper font settings glyphs other → lists_of e ≡ lists_of other
  same_lists more deeper e other a same b =
      let is : b.static ≡ a.static = one_static font settings (numbering glyphs) b.static a.static b.is_static a.is_static in
      let there : IsEmbedded more deeper a.static glyphs other = subst (λ (f : Font). IsEmbedded more deeper f glyphs other) is b.answer.embedded in
      let fonts : e.font.items ≡ other.font.items = same more deeper other.font.items (record { static = b.static; is_static = b.is_static; made = b.made; cff_made = b.cff_made; answer = b.answer.font_is }) in
      let cids : e.cids.items ≡ other.cids.items = same_members e.cids.items other.cids.items (a.answer.embedded.cids ∙ sym there.cids) in
      let widths : e.widths.items ≡ other.widths.items = same_members e.widths.items other.widths.items (a.answer.embedded.widths ∙ sym there.widths) in
      alike e.font.items e.cids.items e.widths.items other.font.items other.cids.items other.widths.items fonts cids widths

  module _ (given : List (Tag × ℤ)) (g : given ≡ settings) where
    pub embedding_sound : (r : Result Embedded Error) → IsEmbedPromisedAt bound tokens depth font given glyphs r → IfOk r (λ e. (IsAtDefault (whole font) given → ⊥) → HasGlyphsDrawn (whole font) given (numbering glyphs) e.font.items) → IfOk r (λ e. IsCff2Font (whole font) → HasGlyphsBlended (whole font) given (numbering glyphs) e.font.items) → IfOk r (λ e. IsSoundEmbeddingAt bound tokens depth font settings glyphs e)
    embedding_sound (Ok e) p drawn blended =
        let answer : IsEmbeddingAnswerAt tokens depth font settings glyphs e = subst (λ (s : List (Tag × ℤ)). IsEmbeddingAnswerAt tokens depth font s glyphs e) g p.exact in
        record {
          answer = answer;
          same = λ more deeper other b. same_lists more deeper e other answer (one_font tokens depth font settings glyphs e answer) b;
          drawn = subst (λ (s : List (Tag × ℤ)). (IsAtDefault (whole font) s → ⊥) → HasGlyphsDrawn (whole font) s (numbering glyphs) e.font.items) g drawn;
          drawn_cff = subst (λ (s : List (Tag × ℤ)). IsCff2Font (whole font) → HasGlyphsBlended (whole font) s (numbering glyphs) e.font.items) g blended;
          within = p.within;
        }
    embedding_sound (Err why) p drawn blended = tt

    embedding_refused_by : (r : Result Embedded Error) → IfErr r (λ why. (why ≡ OutOfMemory) ⊎ ((order : List ℕ) × HasEmbedFaultAt bound tokens depth font given glyphs order why)) → IfErr r (λ why. (why ≡ OutOfMemory) ⊎ HasNoEmbeddingAt bound tokens depth font given glyphs) → ((why : Error) → HasOpeningFaultAt font why → r ≡ Err OutOfMemory → ⊥) → IfErr r (IsEmbeddingRefusalAt bound tokens depth font settings glyphs)
    embedding_refused_by (Ok e) fault none before = fault
    embedding_refused_by (Err why) (inl memory) none before = inl (wanting (HasOpeningFaultAt font) why memory before)
    embedding_refused_by (Err why) (inr fault) (inl memory) before = inl (wanting (HasOpeningFaultAt font) why memory before)
    embedding_refused_by (Err why) (inr fault) (inr none) before = inr ((fault.0, subst (λ (s : List (Tag × ℤ)). HasEmbedFaultAt bound tokens depth font s glyphs fault.0 why) g fault.1), subst (λ (s : List (Tag × ℤ)). HasNoEmbeddingAt bound tokens depth font s glyphs) g none)

    pub embedding_refused : (r : Result Embedded Error) → IsEmbedPromisedAt bound tokens depth font given glyphs r → IfErr r (IsEmbeddingRefusalAt bound tokens depth font settings glyphs)
    embedding_refused r p = embedding_refused_by r p.err p.no_answer p.before_memory
