-- There is one static font, and what is said of its subset is said of the font.
use Rattle.std.proofs.Common.{◌≡◌, ℕ, ◌<◌, Bool, false, List, [], Option, Some, None, Result, Ok, Err, ℤ, refl, sym, ap, subst, ◌∙◌, ◌⊎◌, inl, inr, arith}
use Rattle.std.specs.Prelude.{codes, length, IfOk, IfErr, OnOk, IfSome, MatchOption, IsTrue, ◌↔◌}
use Rattle.subsetter_base.specs.declared.tag.Tag.{Tag}
use Rattle.subsetter_base.specs.declared.error.Error.{Error}
use Rattle.subsetter_base.specs.declared.error.Error.TheVariants.{OutOfMemory}
use Rattle.subsetter_sfnt.specs.Fault.{HasOpeningFault}
use Rattle.subsetter_sfnt.specs.FontAt.{font_at}
use Rattle.subsetter_sfnt.specs.Plain.{opened}
use Rattle.subsetter_sfnt.specs.Read.{Font, stored}
use Rattle.subsetter_sfnt.proofs.Laws.Fault.{opened_refused}
use Rattle.subsetter.specs.Answer.{IsAnswer}
use Rattle.subsetter.specs.Promise.{IsPromised}
use Rattle.subsetter.proofs.TwoLimits.{one_answer}
use Rattle.subsetter.specs.Bound.{IsWithin, HasFaultWithin, HasNoAnswerWithin, in_font, beyond}
use Rattle.subsetter_instance.specs.Fault.{HasInstanceFault, in_place}
use Rattle.subsetter_instance.specs.Instance.{IsInstance}
use Rattle.subsetter_instance.proofs.FaultLaws.Place.{place_clean}
use Rattle.subsetter_instance.proofs.SameLaws.Answer.{one_file}
use Rattle.subsetter_cff_instance.specs.Answer.{PassesBound}
use Rattle.subsetter_cff_instance.specs.CffInstance.{IsCffInstance}
use Rattle.subsetter_cff_instance.specs.Fault.{HasCffInstanceFault}
use Rattle.subsetter_cff_instance.specs.Promise.{IsCffInstancePromised}
use Rattle.subsetter_cff_instance.proofs.SameLaws.{one_instance}
use Rattle.subsetter_variable.specs.DefaultLocation.{IsAtDefault, HasNoLocation, no_outlines, no_move, IsCff2Font, IsStaticFile, HasStaticFault}
use Rattle.subsetter_variable.proofs.Unopened.{no_glyf, nothing_stored, same_stored}
use Rattle.subsetter_variable.specs.Subset.{whole, HasOpeningFaultAt, IsStatic, HasFaultAt, IsAnswerAt, HasNoAnswerAt, as_it_is, instanced, cff_instanced, in_instance, in_cff_instance, in_static}
use Rattle.subsetter_variable.specs.Promise.{IsPromisedAt, AnswersAreCleanAt, AnswersAreOneAt}

-- ---- there is one static font

same_file : (font : Font) (settings : List (Tag × ℤ)) (glyphs file other : List ℕ) → IsInstance font settings glyphs file → IsInstance font settings glyphs other → file ≡ other
same_file font settings glyphs file other i j = one_file font settings glyphs i.steps j.steps file other i.layout j.layout

-- a font with outlines in CFF2 alone has none in `glyf` that move
pub cff2_stays : (font : Font) (settings : List (Tag × ℤ)) → IsCff2Font font → (IsAtDefault font settings → ⊥) → ⊥
cff2_stays font settings c not = not (no_outlines c.no_glyf)

pub one_static : (font : Font) (settings : List (Tag × ℤ)) (glyphs : List ℕ) (a b : Font) → IsStatic font settings glyphs a → IsStatic font settings glyphs b → a ≡ b
one_static font settings glyphs _ _ (as_it_is d c) (as_it_is e k) = refl
one_static font settings glyphs _ _ (as_it_is d c) (instanced file n i) = absurd (n d)
one_static font settings glyphs _ _ (as_it_is d c) (cff_instanced file k i) = absurd (c k)
one_static font settings glyphs _ _ (instanced file n i) (as_it_is d c) = absurd (n d)
one_static font settings glyphs _ _ (instanced file m i) (instanced other n j) = ap (λ (bytes : List ℕ). font_at bytes 0 font.extras) (same_file (whole font) settings glyphs file other i j)
one_static font settings glyphs _ _ (instanced file n i) (cff_instanced other k j) = absurd (cff2_stays (whole font) settings k n)
one_static font settings glyphs _ _ (cff_instanced file k i) (as_it_is d c) = absurd (c k)
one_static font settings glyphs _ _ (cff_instanced file k i) (instanced other n j) = absurd (cff2_stays (whole font) settings k n)
one_static font settings glyphs _ _ (cff_instanced file k i) (cff_instanced other l j) = ap (λ (bytes : List ℕ). font_at bytes 0 font.extras) (one_instance (whole font) settings glyphs file other i j)

-- that of a file that is made
pub static_of : (font : Font) (settings : List (Tag × ℤ)) (glyphs file : List ℕ) → IsStaticFile (whole font) settings glyphs file → IsStatic font settings glyphs (font_at file 0 font.extras)
static_of font settings glyphs file (inl i) = instanced file i.0 i.1
static_of font settings glyphs file (inr i) = cff_instanced file i.0 i.1

-- ---- a font without a place

-- it isn't at its default
pub not_default : (font : Font) (settings : List (Tag × ℤ)) (e : Error) → HasNoLocation font e → IsAtDefault font settings → ⊥
not_default font settings e h (no_outlines n) = let there = h.outlines in cc
not_default font settings e h (no_move at is all) = place_clean (stored font) settings at e is h.fault

pub unplaced : (font : Font) (settings : List (Tag × ℤ)) (glyphs : List ℕ) (steps : ℕ) (e : Error) → (e ≡ OutOfMemory) ⊎ HasNoLocation font e → (e ≡ OutOfMemory) ⊎ ((IsAtDefault font settings → ⊥) × HasInstanceFault font settings glyphs steps e)
unplaced font settings glyphs steps e (inl m) = inl m
unplaced font settings glyphs steps e (inr h) = inr (not_default font settings e h, in_place h.fault)

-- ---- an instance that isn't made

pub not_made : (font : Font) (settings : List (Tag × ℤ)) (glyphs : List ℕ) (steps : ℕ) (e : Error) → (IsAtDefault font settings → ⊥) → (e ≡ OutOfMemory) ⊎ HasInstanceFault font settings glyphs steps e → (e ≡ OutOfMemory) ⊎ ((IsAtDefault font settings → ⊥) × HasInstanceFault font settings glyphs steps e)
not_made font settings glyphs steps e not (inl m) = inl m
not_made font settings glyphs steps e not (inr f) = inr (not, f)

-- without a bound nothing passes it
not_bound : (font : Font) (settings : List (Tag × ℤ)) (glyphs : List ℕ) (tokens depth : ℕ) (e : Error) → PassesBound font settings glyphs tokens depth None e → ⊥
not_bound font settings glyphs tokens depth e p = let set = p.1.is_set in cc

-- of outlines in CFF2, whose charstrings have no bound
module _ {X : Type 0} (view : X → List ℕ) (tokens depth : ℕ) (font : Font) (settings : List (Tag × ℤ)) (glyphs : List ℕ) where
  abbrev pub IsCffPromised : Result X Error → Type 0
  IsCffPromised r = IsCffInstancePromised view None tokens depth font settings glyphs r

  pub cff_ok : (r : Result X Error) → IsCffPromised r → IfOk r (λ file. IsCffInstance font settings glyphs (view file))
  cff_ok (Ok file) p = p.exact.instance
  cff_ok (Err e) p = tt

  pub cff_faultless : (r : Result X Error) → IsCffPromised r → IfOk r (λ _. (e : Error) → HasCffInstanceFault font settings glyphs tokens depth e → ⊥)
  cff_faultless (Ok file) p = p.exact.clean
  cff_faultless (Err e) p = tt

  pub cff_err : (r : Result X Error) → IsCffPromised r → IfErr r (λ e. (e ≡ OutOfMemory) ⊎ HasCffInstanceFault font settings glyphs tokens depth e)
  cff_err (Ok file) p = tt
  cff_err (Err e) p = elim p.err [
    | inl m ↦ inl m
    | inr f ↦ elim f [ inl g ↦ inr g | inr b ↦ absurd (not_bound font settings glyphs tokens depth e b) ]
  ]

pub cff_not_made : (font : Font) (settings : List (Tag × ℤ)) (glyphs : List ℕ) (tokens depth : ℕ) (e : Error) → IsCff2Font font → (e ≡ OutOfMemory) ⊎ HasCffInstanceFault font settings glyphs tokens depth e → (e ≡ OutOfMemory) ⊎ HasStaticFault font settings glyphs tokens depth e
cff_not_made font settings glyphs tokens depth e is (inl m) = inl m
cff_not_made font settings glyphs tokens depth e is (inr f) = inr (inr (is, f))

-- of others
pub glyf_not_made : (font : Font) (settings : List (Tag × ℤ)) (glyphs : List ℕ) (steps tokens depth : ℕ) (e : Error) → steps ≡ tokens → (e ≡ OutOfMemory) ⊎ ((IsAtDefault font settings → ⊥) × HasInstanceFault font settings glyphs steps e) → (e ≡ OutOfMemory) ⊎ HasStaticFault font settings glyphs tokens depth e
glyf_not_made font settings glyphs steps tokens depth e s (inl m) = inl m
glyf_not_made font settings glyphs steps tokens depth e s (inr f) = inr (inl (f.0, subst (λ (n : ℕ). HasInstanceFault font settings glyphs n e) s f.1))

-- ---- what has no fault

module _ (font : Font) (settings : List (Tag × ℤ)) (glyphs : List ℕ) (tokens depth : ℕ) where
  abbrev pub HasNone : Type 0
  HasNone = (e : Error) → HasStaticFault font settings glyphs tokens depth e → ⊥

  pub cff_clean : IsCff2Font font → ((e : Error) → HasCffInstanceFault font settings glyphs tokens depth e → ⊥) → HasNone
  cff_clean is h e (inl f) = cff2_stays font settings is f.0
  cff_clean is h e (inr f) = h e f.1

  -- at its default
  pub still_clean : IsAtDefault font settings → (IsCff2Font font → ⊥) → HasNone
  still_clean d c e (inl f) = f.0 d
  still_clean d c e (inr f) = c f.0

  moved_clean : (steps : ℕ) → steps ≡ tokens → (IsCff2Font font → ⊥) → ((e : Error) → HasInstanceFault font settings glyphs steps e → ⊥) → HasNone
  moved_clean steps s c h e (inl f) = h e (subst (λ (n : ℕ). HasInstanceFault font settings glyphs n e) (sym s) f.1)
  moved_clean steps s c h e (inr f) = c f.0

  -- of what an instance is made of, if one is
  pub glyf_clean : {X : Type 0} (view : X → List ℕ) (steps : ℕ) → steps ≡ tokens → (IsCff2Font font → ⊥) → (r : Result (Option X) Error) → IfOk r (λ made. MatchOption made (IsAtDefault font settings) (λ file. (IsAtDefault font settings → ⊥) × IsInstance font settings glyphs (view file)))
      → IfOk r (λ made. IfSome made (λ _. (e : Error) → HasInstanceFault font settings glyphs steps e → ⊥)) → IfOk r (λ _. HasNone)
  glyf_clean view steps s c (Ok None) d h = still_clean d c
  glyf_clean view steps s c (Ok (Some file)) i h = moved_clean steps s c h
  glyf_clean view steps s c (Err e) i h = tt

  pub glyf_ok : {X : Type 0} (view : X → List ℕ) → (IsCff2Font font → ⊥) → (r : Result (Option X) Error) → IfOk r (λ made. MatchOption made (IsAtDefault font settings) (λ file. (IsAtDefault font settings → ⊥) × IsInstance font settings glyphs (view file)))
      → IfOk r (λ made. MatchOption made (IsAtDefault font settings × (IsCff2Font font → ⊥)) (λ file. IsStaticFile font settings glyphs (view file)))
  glyf_ok view c (Ok None) d = (d, c)
  glyf_ok view c (Ok (Some file)) i = inl i
  glyf_ok view c (Err e) i = tt

  pub glyf_err : {X : Type 0} (steps : ℕ) → steps ≡ tokens → (r : Result X Error) → IfErr r (λ e. (e ≡ OutOfMemory) ⊎ ((IsAtDefault font settings → ⊥) × HasInstanceFault font settings glyphs steps e)) → IfErr r (λ e. (e ≡ OutOfMemory) ⊎ HasStaticFault font settings glyphs tokens depth e)
  glyf_err steps s (Ok x) h = tt
  glyf_err steps s (Err e) h = glyf_not_made font settings glyphs steps tokens depth e s h

module _ (bound : Option ℕ) (tokens depth : ℕ) (font : Font) (settings : List (Tag × ℤ)) (glyphs : List ℕ) where
  abbrev pub NotMade : Error → Type 0
  NotMade e = (e ≡ OutOfMemory) ⊎ HasStaticFault (whole font) settings glyphs tokens depth e

  pub unmade : (e : Error) → NotMade e → (e ≡ OutOfMemory) ⊎ ((order : List ℕ) × HasFaultAt bound tokens depth font settings glyphs order e)
  unmade e (inl m) = inl m
  unmade e (inr (inl f)) = inr ([], in_instance f.0 f.1)
  unmade e (inr (inr f)) = inr ([], in_cff_instance f.0 f.1)

  pub unmade_final : (e : Error) → NotMade e → (e ≡ OutOfMemory) ⊎ HasNoAnswerAt bound tokens depth font settings glyphs
  unmade_final e (inl m) = inl m
  unmade_final e (inr (inl f)) = inr (λ out within a. a.made e f.0 f.1)
  unmade_final e (inr (inr f)) = inr (λ out within a. a.cff_made e f.0 f.1)

-- ---- the static font

module _ (font : Font) (settings : List (Tag × ℤ)) (glyphs : List ℕ) (static : Font) (is : IsStatic font settings glyphs static) where
  -- an answer for another static font is one for this one
  same_static : (tokens depth : ℕ) (out : List ℕ) (other : Font) → IsStatic font settings glyphs other → IsAnswer tokens depth other glyphs out → IsAnswer tokens depth static glyphs out
  same_static tokens depth out other it a = subst (λ (s : Font). IsAnswer tokens depth s glyphs out) (one_static font settings glyphs other static it is) a

  module _ (bound : Option ℕ) (tokens depth : ℕ) where
    no_answer : HasNoAnswerWithin bound tokens depth static glyphs → HasNoAnswerAt bound tokens depth font settings glyphs
    no_answer h out within a = h out within (same_static tokens depth out a.static a.is_static a.answer)

    too_long : (most : ℕ) (out : List ℕ) → bound ≡ Some most → IsWithin bound out → most < length out → ⊥
    too_long most out set within longer = let fits = subst (λ (b : Option ℕ). IsWithin b out) set within in omega arith

    -- the static font has no fault where it has an answer within the bound
    no_fault_within : (out : List ℕ) (a : IsAnswer tokens depth static glyphs out) → IsWithin bound out → (e : Error) → HasFaultWithin bound tokens depth static glyphs a.subset.keeps.order e → ⊥
    no_fault_within out a within e (in_font f) = a.clean e f
    no_fault_within out a within e (beyond b) = too_long b.most out b.is_set within (b.longer out a)

    module _ (made : (e : Error) → HasStaticFault (whole font) settings glyphs tokens depth e → ⊥) where
      answer : (out : List ℕ) → IsAnswer tokens depth static glyphs out → IsAnswerAt tokens depth font settings glyphs out
      answer out a = record { static = static; is_static = is; made = λ e not f. made e (inl (not, f)); cff_made = λ e c f. made e (inr (c, f)); answer = a }

      no_fault : (out : List ℕ) (a : IsAnswer tokens depth static glyphs out) → IsWithin bound out → (e : Error) → HasFaultAt bound tokens depth font settings glyphs a.subset.keeps.order e → ⊥
      no_fault out a within e (in_instance not f) = made e (inl (not, f))
      no_fault out a within e (in_cff_instance c f) = made e (inr (c, f))
      no_fault out a within e (in_static other it f) = no_fault_within out a within e (subst (λ (s : Font). HasFaultWithin bound tokens depth s glyphs a.subset.keeps.order e) (one_static font settings glyphs other static it is) f)

      -- what is promised of the static font is promised of the font
      pub promised_at : {X : Type 0} (view : X → List ℕ) (r : Result X Error) → ((e : Error) → HasOpeningFaultAt font e → r ≡ Err OutOfMemory → ⊥) → IsPromised view bound tokens depth static glyphs r → IsPromisedAt view bound tokens depth font settings glyphs r
      promised_at view (Ok v) early p = record { exact = answer (view v) p.exact; within = p.within; err = tt; no_answer = tt; before_memory = early }
      promised_at view (Err e) early p = record { exact = tt; within = tt; err = elim p.err [ inl m ↦ inl m | inr f ↦ inr (f.0, in_static static is f.1) ]; no_answer = elim p.no_answer [ inl m ↦ inl m | inr n ↦ inr (no_answer n) ]; before_memory = early }

-- of an answer within the bound nothing is a fault
pub answers_are_clean : AnswersAreCleanAt
answers_are_clean bound tokens depth font settings glyphs out a within = (record { static = a.static; is_static = a.is_static; subset = a.answer.subset }, no_fault font settings glyphs a.static a.is_static bound tokens depth made out a.answer within)
  where
    made : (e : Error) → HasStaticFault (whole font) settings glyphs tokens depth e → ⊥
    made e (inl f) = a.made e f.0 f.1
    made e (inr f) = a.cff_made e f.0 f.1

pub answers_are_one : AnswersAreOneAt
answers_are_one tokens depth font settings glyphs out a more deeper other b = one_answer a.static glyphs tokens depth more deeper out other a.answer (same_static font settings glyphs a.static a.is_static more deeper other b.static b.is_static b.answer)

-- the promise where there is no static font
pub unmade_promise : (bound : Option ℕ) (tokens depth : ℕ) (font : Font) (settings : List (Tag × ℤ)) (glyphs : List ℕ) {X : Type 0} (view : X → List ℕ) (e : Error) → NotMade bound tokens depth font settings glyphs e → ((why : Error) → HasOpeningFaultAt font why → ⊥) → IsPromisedAt view bound tokens depth font settings glyphs (Err e)
unmade_promise bound tokens depth font settings glyphs view e not opens = record { exact = tt; within = tt; err = unmade bound tokens depth font settings glyphs e not; no_answer = unmade_final bound tokens depth font settings glyphs e not; before_memory = λ why f k. opens why f }

-- ---- a font that can't be opened is at its default

pub opened_at : {X : Type 0} (font : Font) (e : Error) → HasOpeningFaultAt font e → (r : Result (Option X) Error) → (stored (whole font) (codes "glyf") ≡ None → (IsCff2Font (whole font) → ⊥) → r ≡ Ok None) → r ≡ Ok None
opened_at font e f r h = h (same_stored font (codes "glyf") ∙ no_glyf font e f.fault) f.not_cff2

-- and so it is as it is
pub closed : (font : Font) (settings : List (Tag × ℤ)) (glyphs : List ℕ) (e : Error) → HasOpeningFaultAt font e → IsStatic font settings glyphs font
closed font settings glyphs e f = as_it_is (no_outlines (same_stored font (codes "glyf") ∙ no_glyf font e f.fault)) f.not_cff2

pub some_apart : {X : Type 0} (r : Result (Option X) Error) (made : Option X) (x : X) → r ≡ Ok made → made ≡ Some x → r ≡ Ok None → ⊥
some_apart r made x was is h = cc

pub not_so : (b : Bool) (P : Type 0) → IsTrue b ↔ P → b ≡ false → P → ⊥
not_so b P both is_false p = let is_true = both.1 p in cc

-- ---- opening

pub cff2_opens : (font : Font) (e : Error) → IsCff2Font (whole font) → HasOpeningFaultAt font e → ⊥
cff2_opens font e is f = f.not_cff2 is

module _ (font : Font) (other : IsCff2Font (whole font) → ⊥) where
  pub others_open : (r : Result (Unit {0}) Error) → OnOk r ((e : Error) → HasOpeningFault font e → ⊥) → OnOk r ((e : Error) → HasOpeningFaultAt font e → ⊥)
  others_open (Ok u) h = λ e f. h e f.fault
  others_open (Err e) h = tt

  pub others_closed : (r : Result (Unit {0}) Error) → IfErr r (λ e. HasOpeningFault font e) → IfErr r (λ e. HasOpeningFaultAt font e)
  others_closed (Ok u) h = tt
  others_closed (Err e) h = record { fault = h; not_cff2 = other }

-- a directory that can't be read has no CFF2 either
pub unread_at : (font : Font) (e : Error) → opened font ≡ Err e → HasOpeningFaultAt font e
unread_at font e h = record {
  fault = opened_refused font e h;
  not_cff2 = λ is. let some = is.cff2 in let none : stored (whole font) (codes "CFF2") ≡ None = same_stored font (codes "CFF2") ∙ nothing_stored font (codes "CFF2") e h in cc;
}
