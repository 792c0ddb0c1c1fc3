-- What is said of lists that are handed over, in other words.
use Rattle.std.proofs.Common.{◌≡◌, ℕ, List, [], ◌∷◌, map, Option, Some, None, refl, sym, ap, ◌∙◌, subst, ◌⊎◌, inl, inr, Result, Ok, Err}
use Rattle.std.specs.Prelude.{IfOk, IfErr}
use Rattle.subsetter_base.specs.declared.error.Error.{Error}
use Rattle.subsetter_base.specs.declared.error.Error.TheVariants.{OutOfMemory}
use Rattle.cid_embed.specs.declared.embedding.Embedded.{Embedded}
use Rattle.subsetter_sfnt.specs.Read.{Font}
use Rattle.subsetter_sfnt.specs.Fault.{HasOpeningFault}
use Rattle.subsetter.specs.Answer.{IsAnswer, IsTheAnswer}
use Rattle.cid_embed.specs.Embed.{numbering, IsEmbedded, HasEmbedFaultWithin, IsEmbeddingAnswer, HasNoEmbeddingWithin, IsEmbedPromised}
use Rattle.subsetter.proofs.TwoLimits.{one_answer}
use Rattle.subsetter_c.specs.Answers.Embedding.{AreHandedOver, whole, short, refused, Buffers, all_begun, lists_of, IsSoundEmbedding, IsEmbeddingRefusal}
use Rattle.subsetter_c.specs.Answers.Handed.{begun_with}
use Rattle.subsetter_c.specs.declared.answers.handing.Sizes.{Sizes}
use Rattle.subsetter_c.proofs.AnswersLaws.Bytes.{wanting}

-- an answer is handed over: then what is known of it
pub answer_handed : (Said : Embedded → Type 0) (Named : Error → Type 0) (answer : Result Embedded Error) (before after : Buffers) (told : Sizes) (status : ℕ) → IfOk answer Said → IfErr answer Named → AreHandedOver (λ e. answer ≡ Ok e) (λ e. answer ≡ Err e) before after told status → AreHandedOver Said Named before after told status
answer_handed Said Named answer before after told status ok err (whole e i f a t s) = whole e (subst (λ (r : Result Embedded Error). IfOk r Said) i ok) f a t s
answer_handed Said Named answer before after told status ok err (short e i f a t s) = short e (subst (λ (r : Result Embedded Error). IfOk r Said) i ok) f a t s
answer_handed Said Named answer before after told status ok err (refused e w a t s) = refused e (subst (λ (r : Result Embedded Error). IfErr r Named) w err) a t s

abbrev pub make_buffers : List ℕ → List ℕ → List ℕ → Buffers
make_buffers font cids widths = record { font = font; cids = cids; widths = widths }

-- three lists put into their buffers one by one
pub all_placed : (font cids widths : List ℕ) (e : Embedded) (f c w font_after cids_after widths_after : List ℕ) → f ≡ e.font.items → c ≡ e.cids.items → w ≡ e.widths.items → font_after ≡ begun_with f font → cids_after ≡ begun_with c cids → widths_after ≡ begun_with w widths → make_buffers font_after cids_after widths_after ≡ all_begun e (make_buffers font cids widths)
all_placed font cids widths e f c w font_after cids_after widths_after pf pc pw bf bc bw =
    let font_is : font_after ≡ begun_with e.font.items font = bf ∙ ap (λ l. begun_with l font) pf in
    let cids_are : cids_after ≡ begun_with e.cids.items cids = bc ∙ ap (λ l. begun_with l cids) pc in
    let widths_are : widths_after ≡ begun_with e.widths.items widths = bw ∙ ap (λ l. begun_with l widths) pw in
    ap (λ x. make_buffers x cids_after widths_after) font_is ∙ ap (λ x. make_buffers (begun_with e.font.items font) x widths_after) cids_are ∙ ap (make_buffers (begun_with e.font.items font) (begun_with e.cids.items cids)) widths_are

-- ---- one answer

-- lists are equal where each member is
pub same_members : (xs ys : List ℕ) → map Some xs ≡ map Some ys → xs ≡ ys
same_members [] [] e = refl
same_members [] (y ∷ ys) e = absurd cc
same_members (x ∷ xs) [] e = absurd cc
same_members (x ∷ xs) (y ∷ ys) e =
    let head : x ≡ y = cc in
    let tail : map Some xs ≡ map Some ys = cc in
    ap (λ l. x ∷ l) (same_members xs ys tail) ∙ ap (λ z. z ∷ ys) head

module _ (bound : Option ℕ) (tokens depth : ℕ) (font : Font) (glyphs : List ℕ) where
  -- where the font is the one answer, the CIDs and the widths are too
  same_lists : (more deeper : ℕ) (e other : Embedded) → IsEmbedded tokens depth font glyphs e → IsTheAnswer font (numbering glyphs) e.font.items → IsEmbeddingAnswer more deeper font glyphs other → lists_of e ≡ lists_of other
  same_lists more deeper e other a same b =
      let cids : e.cids.items ≡ other.cids.items = same_members e.cids.items other.cids.items (a.cids ∙ sym b.embedded.cids) in
      let widths : e.widths.items ≡ other.widths.items = same_members e.widths.items other.widths.items (a.widths ∙ sym b.embedded.widths) in
      ap (λ x. make_buffers x e.cids.items e.widths.items) (same more deeper other.font.items b.font_is) ∙ ap (λ x. make_buffers other.font.items x e.widths.items) cids ∙ ap (make_buffers other.font.items other.cids.items) widths

  pub embedding_sound : (r : Result Embedded Error) → IsEmbedPromised bound tokens depth font glyphs r → IfOk r (IsSoundEmbedding bound tokens depth font glyphs)
  embedding_sound (Ok e) p = record {
    within = p.within;
    answer = p.exact;
    same = λ more deeper other b. same_lists more deeper e other p.exact.embedded (λ n d out a. one_answer font (numbering glyphs) tokens depth n d e.font.items out p.exact.font_is a) b;
  }
  embedding_sound (Err why) p = tt

  refused_by : (r : Result Embedded Error) → IfErr r (λ why. (why ≡ OutOfMemory) ⊎ ((order : List ℕ) × HasEmbedFaultWithin bound tokens depth font glyphs order why)) → IfErr r (λ why. (why ≡ OutOfMemory) ⊎ HasNoEmbeddingWithin bound tokens depth font glyphs) → ((e : Error) → HasOpeningFault font e → r ≡ Err OutOfMemory → ⊥) → IfErr r (IsEmbeddingRefusal bound tokens depth font glyphs)
  refused_by (Ok e) fault none before = fault
  refused_by (Err why) (inl memory) none before = inl (wanting (HasOpeningFault font) why memory before)
  refused_by (Err why) (inr fault) (inl memory) before = inl (wanting (HasOpeningFault font) why memory before)
  refused_by (Err why) (inr fault) (inr none) before = inr (fault, none)

  pub embedding_refused : (r : Result Embedded Error) → IsEmbedPromised bound tokens depth font glyphs r → IfErr r (IsEmbeddingRefusal bound tokens depth font glyphs)
  embedding_refused r p = refused_by r p.err p.no_answer p.before_memory
