-- The promises of `subset`: what is answered is a subset, what is refused has a fault and no answer, and a fault that is found before memory is taken is never answered by want of memory.
use Rattle.std.proofs.Common.{◌≡◌, ℕ, ◌<◌, ◌≤◌, false, cond, List, [], ◌∷◌, length, Option, Some, None, Result, Ok, Err, refl, sym, ap, subst, ◌∙◌, ◌⊎◌, inl, inr, arith}
use Rattle.std.specs.Prelude.{codes, is_some, IsSome, slice_get, IfOk, IfErr}
use Rattle.std.specs.Option.{option_and_then}
use Rattle.subsetter_base.specs.Bytes.{IsBytes}
use Rattle.subsetter_base.specs.Indexes.{IsWithoutRepeats}
use Rattle.subsetter_base.specs.declared.error.Error.{Error}
use Rattle.subsetter_base.specs.declared.error.Error.TheVariants.{UnknownKind, Unimplemented, OverflowError, OutOfMemory}
use Rattle.subsetter_sfnt.specs.declared.flavor.FontFlavor.{FontFlavor}
use Rattle.subsetter_sfnt.specs.declared.flavor.FontFlavor.TheVariants.{TrueType, Cff}
use Rattle.subsetter.specs.Truetype.Answered.{IsAnswered, IsRefused}
use Rattle.subsetter.specs.Cff.Plain.{cff_file}
use Rattle.subsetter.specs.Fault as faults
use Rattle.subsetter.specs.Fault.{HasFault}
use Rattle.subsetter.specs.Answer.{IsAnswer}
use Rattle.subsetter.specs.Bound.{IsWithin, IsBeyond, HasNoAnswerWithin, in_font, beyond}
use Rattle.subsetter.specs.Promise.{IsPromised}
use Rattle.subsetter.specs.Subset.{IsSubset}
use Rattle.subsetter_base.specs.Within.{GivesWithin, is_past, IsTooLong}
use Rattle.std.proofs.lemmas.Bool.{ltb-false}
use Rattle.subsetter_sfnt.specs.Extras.{requested}
use Rattle.subsetter_sfnt.specs.Read.{Font, table, table_in, flavor}
use Rattle.subsetter_sfnt.specs.Opening.{opened_as}
use Rattle.subsetter_sfnt.specs.Plain.{opened, flavored}
use Rattle.subsetter_sfnt.specs.Fault.{HasOpeningFault, no_kind, no_entry, entry_outside, no_face, nested, cut_directory, no_outlines, lone_cff2}
use Rattle.subsetter.proofs.TruetypeLaws.Fault.{StandsWithin, has_fault, no_fault}
use Rattle.subsetter.proofs.TruetypeLaws.Bound.{none_within}
use Rattle.subsetter.proofs.CffLaws.Bound.{is_beyond}
use Rattle.subsetter_sfnt.proofs.Laws.Fault.{opened_refused, opened_records, flavored_refused, opened_clean}
use Rattle.subsetter_sfnt.proofs.Laws.Opening.{by_fault, unflavored_of}
use Rattle.subsetter.proofs.TruetypeLaws.Subset.{is_subset}
use Rattle.subsetter.proofs.CffLaws.Fault.{cff_has_fault, is_cff_subset}
use Rattle.subsetter.proofs.TruetypeLaws.PlainAnswers.{gave_ok_within, gave_err_within}
use Rattle.subsetter.proofs.NoAnswer.{not_opened, no_truetype, no_charstrings}

-- the tables of a font that was opened
find_is : (font : Font) (d : List ℕ) → opened font ≡ Ok d → requested font.extras (table_in font.bytes d) ≡ table font
find_is font d h =
    let by : Option (List ℕ) → List ℕ → Option (List ℕ) = λ o. requested font.extras (λ tag. option_and_then (λ directory. table_in font.bytes directory tag) o) in
    ap by (sym (opened_records font d h))

by_flavor : (o p q : Option (List ℕ)) (f : FontFlavor) → cond (is_some o) (Ok TrueType) (cond (is_some p) (Ok Cff) (cond (is_some q) (Err Unimplemented) (Err UnknownKind))) ≡ Ok f → cond (is_some o) (Some TrueType) (cond (is_some p) (Some Cff) None) ≡ Some f
by_flavor (Some a) p q f h = let e = h in cc
by_flavor None (Some b) q f h = let e = h in cc
by_flavor None None (Some c) f h = absurd cc
by_flavor None None None f h = absurd cc

-- the kind of the outlines
pub has_flavor : (font : Font) (d : List ℕ) (f : FontFlavor) → opened font ≡ Ok d → flavored (requested font.extras (table_in font.bytes d)) ≡ Ok f → flavor font ≡ Some f
unfolding flavored
has_flavor font d f o h =
    by_flavor (table font (codes "glyf")) (table font (codes "CFF ")) (table font (codes "CFF2")) f
    (ap (λ (find : List ℕ → Option (List ℕ)). cond (is_some (find (codes "glyf"))) (Ok TrueType) (cond (is_some (find (codes "CFF "))) (Ok Cff) (cond (is_some (find (codes "CFF2"))) (Err Unimplemented) (Err UnknownKind)))) (sym (find_is font d o)) ∙ h)

has_glyf : (o p : Option (List ℕ)) → cond (is_some o) (Some TrueType) (cond (is_some p) (Some Cff) None) ≡ Some TrueType → IsSome o
has_glyf (Some a) p h = refl
has_glyf None (Some b) h = absurd cc
has_glyf None None h = absurd cc

has_cff : (o p : Option (List ℕ)) → cond (is_some o) (Some TrueType) (cond (is_some p) (Some Cff) None) ≡ Some Cff → IsSome p
has_cff (Some a) p h = absurd cc
has_cff None (Some b) h = refl
has_cff None None h = absurd cc

some_given : (glyphs : List ℕ) → slice_get glyphs 0 ≡ Some 0 → 0 < length glyphs
some_given [] h = absurd cc
some_given (g ∷ gs) h = omega arith

-- a fault of the opening is never want of memory
pub not_memory : (font : Font) (e : Error) → HasOpeningFault font e → e ≡ OutOfMemory → ⊥
not_memory font e (no_kind a) h = cc
not_memory font e (no_entry a b) h = cc
not_memory font e (entry_outside at a b c) h = cc
not_memory font e (no_face at a b c) h = cc
not_memory font e (nested at a b c) h = cc
not_memory font e (cut_directory at a b) h = cc
not_memory font e (no_outlines a b c d) h = cc
not_memory font e (lone_cff2 a b c) h = cc

module _ (bound : Option ℕ) (tokens depth : ℕ) (font : Font) (glyphs : List ℕ) where
  unopened_err : (e : Error) → opened font ≡ Err e → (e ≡ OutOfMemory) ⊎ StandsWithin bound tokens depth font glyphs e
  unopened_err e h = inr ([], in_font (faults.in_opening (opened_refused font e h)))

  unflavored_err : (d : List ℕ) (e : Error) → opened font ≡ Ok d → flavored (requested font.extras (table_in font.bytes d)) ≡ Err e → (e ≡ OutOfMemory) ⊎ StandsWithin bound tokens depth font glyphs e
  unflavored_err d e o h = inr ([], in_font (faults.in_opening (flavored_refused font d e o h)))

  unopened_no_answer : (e : Error) → opened font ≡ Err e → (e ≡ OutOfMemory) ⊎ HasNoAnswerWithin bound tokens depth font glyphs
  unopened_no_answer e h = inr (λ out within a. not_opened tokens depth font glyphs e (opened_refused font e h) out a)

  unflavored_no_answer : (d : List ℕ) (e : Error) → opened font ≡ Ok d → flavored (requested font.extras (table_in font.bytes d)) ≡ Err e → (e ≡ OutOfMemory) ⊎ HasNoAnswerWithin bound tokens depth font glyphs
  unflavored_no_answer d e o h = inr (λ out within a. not_opened tokens depth font glyphs e (flavored_refused font d e o h) out a)

  module _ (d : List ℕ) (o : opened font ≡ Ok d) (h : flavored (requested font.extras (table_in font.bytes d)) ≡ Ok TrueType) where
    glyf_there : IsSome (table font (codes "glyf"))
    glyf_there = has_glyf (table font (codes "glyf")) (table font (codes "CFF ")) (has_flavor font d TrueType o h)

    truetype_subset : (out : List ℕ) → IsBytes font.bytes → slice_get glyphs 0 ≡ Some 0 → IsAnswered font.extras.hinting (requested font.extras (table_in font.bytes d)) glyphs out → IsAnswer tokens depth font glyphs out
    truetype_subset out bytes first a =
        let b : IsAnswered font.extras.hinting (table font) glyphs out = subst (λ (find : List ℕ → Option (List ℕ)). IsAnswered font.extras.hinting find glyphs out) (find_is font d o) a in
        is_subset tokens depth font glyphs out bytes (some_given glyphs first) (has_flavor font d TrueType o h) b (no_fault tokens depth font glyphs out bytes glyf_there (λ e. opened_clean font d TrueType e o h) b)

    refused : (e : Error) → IsRefused font.extras.hinting (requested font.extras (table_in font.bytes d)) bound glyphs e → IsRefused font.extras.hinting (table font) bound glyphs e
    refused e r = subst (λ (find : List ℕ → Option (List ℕ)). IsRefused font.extras.hinting find bound glyphs e) (find_is font d o) r

    truetype_refused : (e : Error) → IsRefused font.extras.hinting (requested font.extras (table_in font.bytes d)) bound glyphs e → (e ≡ OutOfMemory) ⊎ StandsWithin bound tokens depth font glyphs e
    truetype_refused e r = has_fault bound tokens depth font glyphs e glyf_there (refused e r)

    truetype_no_answer : (e : Error) → IsRefused font.extras.hinting (requested font.extras (table_in font.bytes d)) bound glyphs e → (e ≡ OutOfMemory) ⊎ HasNoAnswerWithin bound tokens depth font glyphs
    truetype_no_answer e r = no_truetype tokens depth font glyphs bound e glyf_there (refused e r)

    opening_clean : (e : Error) → HasOpeningFault font e → ⊥
    opening_clean e f = opened_clean font d TrueType e o h f

  module _ (d : List ℕ) (o : opened font ≡ Ok d) (h : flavored (requested font.extras (table_in font.bytes d)) ≡ Ok Cff) where
    kind : flavor font ≡ Some Cff
    kind = has_flavor font d Cff o h

    cff_answered : (out : List ℕ) → IsBytes font.bytes → 1 ≤ depth → slice_get glyphs 0 ≡ Some 0 → length glyphs ≤ 65535 → IsWithoutRepeats glyphs → cff_file (requested font.extras (table_in font.bytes d)) tokens depth glyphs ≡ Ok out → IsAnswer tokens depth font glyphs out
    cff_answered out bytes deep first few once a =
        let b : cff_file (table font) tokens depth glyphs ≡ Ok out = subst (λ (find : List ℕ → Option (List ℕ)). cff_file find tokens depth glyphs ≡ Ok out) (find_is font d o) a in
        is_cff_subset tokens depth font glyphs out bytes deep (some_given glyphs first) few once kind (λ e. opened_clean font d Cff e o h) b

    cff_stands : (e : Error) → IsWithoutRepeats glyphs → cff_file (requested font.extras (table_in font.bytes d)) tokens depth glyphs ≡ Err e → HasFault tokens depth font glyphs glyphs e
    cff_stands e once r =
        cff_has_fault tokens depth font glyphs kind (has_cff (table font (codes "glyf")) (table font (codes "CFF ")) kind) once e (subst (λ (find : List ℕ → Option (List ℕ)). cff_file find tokens depth glyphs ≡ Err e) (find_is font d o) r)

    cff_refused : (e : Error) → IsWithoutRepeats glyphs → cff_file (requested font.extras (table_in font.bytes d)) tokens depth glyphs ≡ Err e → (e ≡ OutOfMemory) ⊎ StandsWithin bound tokens depth font glyphs e
    cff_refused e once r = inr (glyphs, in_font (cff_stands e once r))

    cff_no_answer : (e : Error) → IsWithoutRepeats glyphs → cff_file (requested font.extras (table_in font.bytes d)) tokens depth glyphs ≡ Err e → (e ≡ OutOfMemory) ⊎ HasNoAnswerWithin bound tokens depth font glyphs
    cff_no_answer e once r = inr (λ out within a. no_charstrings tokens depth font glyphs e kind (cff_stands e once r) out a)

    long : IsTooLong bound length (cff_file (requested font.extras (table_in font.bytes d)) tokens depth glyphs) → IsBeyond bound tokens depth font glyphs
    long p = is_beyond tokens depth font glyphs kind bound (subst (λ (find : List ℕ → Option (List ℕ)). IsTooLong bound length (cff_file find tokens depth glyphs)) (find_is font d o) p)

    cff_long : IsTooLong bound length (cff_file (requested font.extras (table_in font.bytes d)) tokens depth glyphs) → (OverflowError ≡ OutOfMemory) ⊎ StandsWithin bound tokens depth font glyphs OverflowError
    cff_long p = inr (glyphs, beyond (long p))

    cff_long_no_answer : IsTooLong bound length (cff_file (requested font.extras (table_in font.bytes d)) tokens depth glyphs) → (OverflowError ≡ OutOfMemory) ⊎ HasNoAnswerWithin bound tokens depth font glyphs
    cff_long_no_answer p = inr (none_within bound tokens depth font glyphs (long p))

    cff_opening_clean : (e : Error) → HasOpeningFault font e → ⊥
    cff_opening_clean e f = opened_clean font d Cff e o h f

-- ---- the promise of each way out

-- a fact of each result
for_ok : {X : Type 0} (r : Result X Error) (P Q : X → Type 0) → ((x : X) → P x → Q x) → IfOk r P → IfOk r Q
for_ok (Ok x) P Q f h = f x h
for_ok (Err e) P Q f h = tt

for_err : {X : Type 0} (r : Result X Error) (P Q : Error → Type 0) → ((e : Error) → P e → Q e) → IfErr r P → IfErr r Q
for_err (Ok x) P Q f h = tt
for_err (Err e) P Q f h = f e h

-- what doesn't pass a bound is within it
not_past : (bound : Option ℕ) (out : List ℕ) → is_past bound (length out) ≡ false → IsWithin bound out
not_past None out h = tt
not_past (Some most) out h = ltb-false most (length out) h

module _ {X : Type 0} (file : X → List ℕ) (bound : Option ℕ) (tokens depth : ℕ) (font : Font) (glyphs : List ℕ) where
  refusal : (e : Error) → HasOpeningFault font e → (e ≡ OutOfMemory) ⊎ StandsWithin bound tokens depth font glyphs e → (e ≡ OutOfMemory) ⊎ HasNoAnswerWithin bound tokens depth font glyphs → IsPromised file bound tokens depth font glyphs (Err e)
  refusal e fault stands none = record { exact = tt; within = tt; err = stands; no_answer = none; before_memory = λ d f k. not_memory font e fault (let is = k in cc) }

  unopened : (e : Error) → opened font ≡ Err e → IsPromised file bound tokens depth font glyphs (Err e)
  unopened e h = refusal e (opened_refused font e h) (unopened_err bound tokens depth font glyphs e h) (unopened_no_answer bound tokens depth font glyphs e h)

  pub unflavored : (d : List ℕ) (e : Error) → opened font ≡ Ok d → flavored (requested font.extras (table_in font.bytes d)) ≡ Err e → IsPromised file bound tokens depth font glyphs (Err e)
  unflavored d e o h = refusal e (flavored_refused font d e o h) (unflavored_err bound tokens depth font glyphs d e o h) (unflavored_no_answer bound tokens depth font glyphs d e o h)

  pub closed : (e : Error) → opened_as font ≡ Err e → IsPromised file bound tokens depth font glyphs (Err e)
  closed e h = elim (by_fault font e h) [ inl o ↦ unopened e o | inr r ↦ unflavored r.0 e r.1 (unflavored_of font.extras (table_in font.bytes r.0) e r.2) ]

  module _ (d : List ℕ) (o : opened font ≡ Ok d) (bytes : IsBytes font.bytes) (first : slice_get glyphs 0 ≡ Some 0) (r : Result X Error) (fits : IfOk r (λ x. is_past bound (length (file x)) ≡ false)) where
    abbrev pub find : List ℕ → Option (List ℕ)
    find = requested font.extras (table_in font.bytes d)

    within : IfOk r (λ x. IsWithin bound (file x))
    within = for_ok r (λ x. is_past bound (length (file x)) ≡ false) (λ x. IsWithin bound (file x)) (λ x h. not_past bound (file x) h) fits

    pub of_truetype : flavored find ≡ Ok TrueType → IfOk r (λ x. IsAnswered font.extras.hinting find glyphs (file x)) → IfErr r (λ e. IsRefused font.extras.hinting find bound glyphs e) → IsPromised file bound tokens depth font glyphs r
    of_truetype h answered refused =
        record {
          exact = for_ok r (λ x. IsAnswered font.extras.hinting find glyphs (file x)) (λ x. IsAnswer tokens depth font glyphs (file x)) (λ x a. truetype_subset bound tokens depth font glyphs d o h (file x) bytes first a) answered;
          within = within;
          err = for_err r (λ e. IsRefused font.extras.hinting find bound glyphs e) (λ e. (e ≡ OutOfMemory) ⊎ StandsWithin bound tokens depth font glyphs e) (λ e a. truetype_refused bound tokens depth font glyphs d o h e a) refused;
          no_answer = for_err r (λ e. IsRefused font.extras.hinting find bound glyphs e) (λ e. (e ≡ OutOfMemory) ⊎ HasNoAnswerWithin bound tokens depth font glyphs) (λ e a. truetype_no_answer bound tokens depth font glyphs d o h e a) refused;
          before_memory = λ e f k. opening_clean bound tokens depth font glyphs d o h e f;
        }

    pub of_cff : flavored find ≡ Ok Cff → 1 ≤ depth → length glyphs ≤ 65535 → IsWithoutRepeats glyphs → GivesWithin file bound length r (cff_file find tokens depth glyphs) → IsPromised file bound tokens depth font glyphs r
    of_cff h deep few once gives =
        record {
          exact = gave_ok_within file bound length r (cff_file find tokens depth glyphs) (IsAnswer tokens depth font glyphs) gives (λ out a. cff_answered bound tokens depth font glyphs d o h out bytes deep first few once a);
          within = within;
          err = gave_err_within file bound length r (cff_file find tokens depth glyphs) (λ e. (e ≡ OutOfMemory) ⊎ StandsWithin bound tokens depth font glyphs e) gives (inl refl) (λ e a. cff_refused bound tokens depth font glyphs d o h e once a) (cff_long bound tokens depth font glyphs d o h);
          no_answer = gave_err_within file bound length r (cff_file find tokens depth glyphs) (λ e. (e ≡ OutOfMemory) ⊎ HasNoAnswerWithin bound tokens depth font glyphs) gives (inl refl) (λ e a. cff_no_answer bound tokens depth font glyphs d o h e once a) (cff_long_no_answer bound tokens depth font glyphs d o h);
          before_memory = λ e f k. cff_opening_clean bound tokens depth font glyphs d o h e f;
        }

  pub promised_subset : (r : Result X Error) → IsPromised file bound tokens depth font glyphs r → IfOk r (λ x. IsSubset tokens depth font glyphs (file x))
  promised_subset (Ok x) p = p.exact.subset
  promised_subset (Err e) p = tt
