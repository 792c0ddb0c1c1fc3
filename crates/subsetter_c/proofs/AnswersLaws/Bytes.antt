-- What is said of bytes that are handed over, in other words.
use Rattle.std.proofs.Common.{◌≡◌, ℕ, ◌<◌, ◌≤◌, true, false, List, [], length, refl, ap, subst, ◌⊎◌, inl, inr, arith, Vec, Global, Option, Result, Ok, Err}
use Rattle.std.specs.Prelude.{IfOk, IfErr, leb}
use Rattle.std.proofs.lemmas.Bool.Decides.{leb_tells}
use Rattle.std.proofs.lemmas.List.{length-append}
use Rattle.subsetter_base.specs.Indexes.{HasAllAboveZero}
use Rattle.subsetter_base.proofs.GlyphLemmas.{room_left_for_zero}
use Rattle.subsetter_base.specs.declared.error.Error.{Error}
use Rattle.subsetter_base.specs.declared.error.Error.TheVariants.{OutOfMemory}
use Rattle.subsetter_sfnt.specs.Read.{Font}
use Rattle.subsetter.specs.Answer.{IsAnswer, HasNoAnswer, IsTheAnswer}
use Rattle.subsetter_sfnt.specs.Fault.{HasOpeningFault}
use Rattle.subsetter.specs.Bound.{IsWithin, HasFaultWithin, HasNoAnswerWithin, in_font}
use Rattle.subsetter.specs.Fault.{in_opening}
use Rattle.subsetter.specs.Promise.{IsPromised}
use Rattle.subsetter.proofs.Headline.{not_memory}
use Rattle.subsetter.proofs.TwoLimits.{one_answer}
use Rattle.cid_embed.specs.Embed.{numbering, HasMapperFault, all_asked, unopened}
use Rattle.subsetter_variable.specs.Subset.{HasOpeningFaultAt}
use Rattle.subsetter_c.specs.Answers.Handed.{begun_with, IsHandedOver, whole, short, refused, IsAnswered, IsSoundSubset, IsOutOfMemory, IsRefusal, in_numbering, in_subset}
use Rattle.subsetter_c.specs.Answers.Status.{too_small}

-- bytes are there as a whole, or they are longer than the buffer
pub bytes_handed : (bytes before after : List ℕ) (told status : ℕ) → told ≡ length bytes → (length bytes ≤ length before → (after ≡ begun_with bytes before) × (status ≡ 0)) → (length before < length bytes → (after ≡ before) × (status ≡ too_small)) → IsHandedOver (λ b. b ≡ bytes) (λ e. ⊥) before after told status
bytes_handed bytes before after told status t fits longer = by (leb_tells (length bytes) (length before))
  where
    by : ((leb (length bytes) (length before) ≡ true) × (length bytes ≤ length before)) ⊎ ((leb (length bytes) (length before) ≡ false) × (length before < length bytes)) → IsHandedOver (λ b. b ≡ bytes) (λ e. ⊥) before after told status
    by (inl f) = let w = fits f.1 in whole bytes refl f.1 w.0 t w.1
    by (inr f) = let w = longer f.1 in short bytes refl f.1 w.0 t w.1

-- what holds of the bytes and of the error may be weakened
pub said_as : (Is Said : List ℕ → Type 0) (Why Named : Error → Type 0) (before after : List ℕ) (told status : ℕ) → ((bytes : List ℕ) → Is bytes → Said bytes) → ((e : Error) → Why e → Named e) → IsHandedOver Is Why before after told status → IsHandedOver Said Named before after told status
said_as Is Said Why Named before after told status is why (whole bytes i f a t s) = whole bytes (is bytes i) f a t s
said_as Is Said Why Named before after told status is why (short bytes i f a t s) = short bytes (is bytes i) f a t s
said_as Is Said Why Named before after told status is why (refused e w a t s) = refused e (why e w) a t s

-- an answer is handed over: then what is known of it
pub answer_handed : (Said : List ℕ → Type 0) (Named : Error → Type 0) (answer : Result (Vec ℕ Global) Error) (before after : List ℕ) (told status : ℕ) → IfOk answer (λ v. Said v.items) → IfErr answer Named → IsHandedOver (IsAnswered answer) (λ e. answer ≡ Err e) before after told status → IsHandedOver Said Named before after told status
answer_handed Said Named answer before after told status ok err = said_as (IsAnswered answer) Said (λ e. answer ≡ Err e) Named before after told status
    (λ bytes a. subst Said a.2 (subst (λ (r : Result (Vec ℕ Global) Error). IfOk r (λ v. Said v.items)) a.1 ok))
    (λ e is. subst (λ (r : Result (Vec ℕ Global) Error). IfErr r Named) is err)

abbrev pub failed : {X : Type 0} → Error → Result X Error
failed e = Err e

-- want of memory, where there is no fault that is found before memory is taken
pub wanting : {X : Type 0} (HasEarlyFault : Error → Type 0) (e : Error) → e ≡ OutOfMemory → ((why : Error) → HasEarlyFault why → failed {X = X} e ≡ Err OutOfMemory → ⊥) → IsOutOfMemory HasEarlyFault e
wanting {X = X} HasEarlyFault e memory before = record { is = memory; opens = λ why fault. before why fault (ap (failed {X = X}) memory) }

-- a fault against opening is never want of memory
pub never_memory : {X : Type 0} (font : Font) (e : Error) → HasOpeningFaultAt font e → (why : Error) → HasOpeningFaultAt font why → failed {X = X} e ≡ Err OutOfMemory → ⊥
never_memory font e f why g m = not_memory font e f.fault cc

module _ (bound : Option ℕ) (tokens depth : ℕ) (font : Font) (glyphs : List ℕ) where
  -- a subset has fewer than 65536 glyphs
  pub no_room : HasAllAboveZero glyphs → HasNoAnswer tokens depth font (numbering glyphs)
  no_room all out a =
      let order = a.subset.keeps.order in
      let o = a.subset.keeps.is_order in
      room_left_for_zero glyphs (omega (arith, a.subset.keeps.few, ap length o.begins, length-append (numbering glyphs) o.others)) all

  pub mapper_refused : {X : Type 0} (e : Error) → (e ≡ OutOfMemory) ⊎ HasMapperFault font glyphs e → ((why : Error) → HasOpeningFault font why → failed {X = X} e ≡ Err OutOfMemory → ⊥) → IsRefusal bound tokens depth font glyphs e
  mapper_refused e (inl memory) before = inl (wanting (HasOpeningFault font) e memory before)
  mapper_refused e (inr (all_asked all)) before = inr (in_numbering all, λ out within a. no_room all out a)
  mapper_refused e (inr (unopened fault)) before = inr (in_subset [] (in_font (in_opening fault)), λ out within a. a.clean e (in_opening fault))

  refused_by : (mapper : List ℕ) (r : Result (Vec ℕ Global) Error) → mapper ≡ numbering glyphs → IfErr r (λ e. (e ≡ OutOfMemory) ⊎ ((order : List ℕ) × HasFaultWithin bound tokens depth font mapper order e)) → IfErr r (λ e. (e ≡ OutOfMemory) ⊎ HasNoAnswerWithin bound tokens depth font mapper) → ((why : Error) → HasOpeningFault font why → r ≡ Err OutOfMemory → ⊥) → IfErr r (IsRefusal bound tokens depth font glyphs)
  refused_by mapper (Ok v) m h none before = h
  refused_by mapper (Err e) m (inl memory) none before = inl (wanting (HasOpeningFault font) e memory before)
  refused_by mapper (Err e) m (inr fault) (inl memory) before = inl (wanting (HasOpeningFault font) e memory before)
  refused_by mapper (Err e) m (inr fault) (inr none) before =
      inr (in_subset fault.0 (subst (λ (l : List ℕ). HasFaultWithin bound tokens depth font l fault.0 e) m fault.1), subst (HasNoAnswerWithin bound tokens depth font) m none)

  pub subset_refused : (mapper : List ℕ) (r : Result (Vec ℕ Global) Error) → mapper ≡ numbering glyphs → IsPromised (λ v. v.items) bound tokens depth font mapper r → IfErr r (IsRefusal bound tokens depth font glyphs)
  subset_refused mapper r m p = refused_by mapper r m p.err p.no_answer p.before_memory

  pub subset_sound : (mapper : List ℕ) (r : Result (Vec ℕ Global) Error) → mapper ≡ numbering glyphs → IsPromised (λ v. v.items) bound tokens depth font mapper r → IfOk r (λ v. IsSoundSubset bound tokens depth font glyphs v.items)
  subset_sound mapper (Ok v) m p = record {
    within = p.within;
    answer = subst (λ (l : List ℕ). IsAnswer tokens depth font l v.items) m p.exact;
    same = subst (λ (l : List ℕ). IsTheAnswer font l v.items) m (λ more deeper other b. one_answer font mapper tokens depth more deeper v.items other p.exact b);
  }
  subset_sound mapper (Err e) m p = tt

-- what holds at limits holds at others that equal them
pub at_limits : (P : Option ℕ → ℕ → ℕ → Type 0) (bound b : Option ℕ) (tokens t depth d : ℕ) → bound ≡ b → tokens ≡ t → depth ≡ d → P bound tokens depth → P b t d
at_limits P bound b tokens t depth d eb et ed p = subst (λ (n : ℕ). P b t n) ed (subst (λ (n : ℕ). P b n depth) et (subst (λ (x : Option ℕ). P x tokens depth) eb p))
