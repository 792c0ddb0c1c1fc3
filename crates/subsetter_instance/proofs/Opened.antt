-- The promise of the public call, by the plain way.
use Rattle.std.proofs.Common.{◌≡◌, ℕ, ◌≤◌, List, length, Option, Some, Result, Ok, Err, ℤ, refl, sym, ap, subst, ◌∙◌, ◌⊎◌, inl, inr}
use Rattle.std.specs.Prelude.{◌≢◌, codes, IfSome, IfOk, IfErr}
use Rattle.subsetter_base.specs.Bytes.{IsBytes}
use Rattle.subsetter_base.specs.Gives.{Gives}
use Rattle.subsetter_base.specs.declared.tag.Tag.{Tag}
use Rattle.subsetter_base.specs.declared.error.Error.{Error}
use Rattle.subsetter_base.specs.declared.error.Error.TheVariants.{UnknownKind, MalformedFont, Unimplemented, SubsetError, OverflowError, CFFError, OutOfMemory}
use Rattle.subsetter_base.proofs.ByteLemmas.{number-fits}
use Rattle.subsetter_base.proofs.Results.{failed_is}
use Rattle.subsetter_sfnt.specs.declared.extras.Extras.{Extras}
use Rattle.subsetter_sfnt.specs.declared.flavor.FontFlavor.TheVariants.{TrueType, Cff}
use Rattle.subsetter_sfnt.specs.Extras.{requested}
use Rattle.subsetter_sfnt.specs.Fault.{HasOpeningFault, no_kind, no_entry, entry_outside, no_face, nested, cut_directory, no_outlines, lone_cff2}
use Rattle.subsetter_sfnt.specs.Plain.{opened, flavored}
use Rattle.subsetter_sfnt.specs.Read.{Font, table_in}
use Rattle.subsetter_sfnt.proofs.Laws.Fault.{opened_refused}
use Rattle.subsetter_instance.specs.Answer.{IsAnswer, HasNoAnswer, IsClosed}
use Rattle.subsetter_instance.specs.Fault.{HasInstanceFault}
use Rattle.subsetter_instance.specs.Plain.{instance_in, instance_of}
use Rattle.subsetter_instance.specs.Promise.{IsInstancePromised}
use Rattle.subsetter_instance.specs.Source.{Source, source_in}
use Rattle.subsetter_instance.proofs.FaultLaws.Clean.{is_answer}
use Rattle.subsetter_instance.proofs.FaultLaws.Opening.{same_flavor, unflavored, no_opening_fault}
use Rattle.subsetter_instance.proofs.FaultLaws.Refused.{refused, no_answer}
use Rattle.subsetter_instance.proofs.FileLaws.Steps.{source_steps}

-- ---- headers that were read from are long enough

pub head_there : (find : List ℕ → Option (List ℕ)) (axes : ℕ) (s : Source) → source_in find axes ≡ Some s → IfSome (find (codes "head")) (λ h. 52 ≤ length h)
head_there find axes s h =
    let t = source_steps find axes s h in
    subst (λ o. IfSome o (λ l. 52 ≤ length l)) (sym t.head_is) (number-fits t.head 50 2 t.format t.format_is)

pub hhea_there : (find : List ℕ → Option (List ℕ)) (axes : ℕ) (s : Source) → source_in find axes ≡ Some s → IfSome (find (codes "hhea")) (λ h. 36 ≤ length h)
hhea_there find axes s h =
    let t = source_steps find axes s h in
    subst (λ o. IfSome o (λ l. 36 ≤ length l)) (sym t.hhea_is) (number-fits t.hhea 34 2 s.number_of_h_metrics t.pairs_is)

-- ---- a font that isn't opened

not_memory : (font : Font) (e : Error) → HasOpeningFault font e → e ≢ OutOfMemory
not_memory font e (no_kind k) h = absurd cc
not_memory font e (no_entry k c) h = absurd cc
not_memory font e (entry_outside at k c far) h = absurd cc
not_memory font e (no_face at k c w) h = absurd cc
not_memory font e (nested at k c w) h = absurd cc
not_memory font e (cut_directory at p r) h = absurd cc
not_memory font e (no_outlines r g c c2) h = absurd cc
not_memory font e (lone_cff2 g c c2) h = absurd cc

pub closed_unopened : (font : Font) (e : Error) → opened font ≡ Err e → IsClosed font e
unfolding instance_of
closed_unopened font e h = record { refused = λ settings glyphs steps. rw h refl; not_memory = not_memory font e (opened_refused font e h) }

pub closed_unflavored : (font : Font) (d : List ℕ) (x : Extras) (e : Error) → opened font ≡ Ok d → flavored (requested x (table_in font.bytes d)) ≡ Err e → IsClosed font e
unfolding instance_of
closed_unflavored font d x e o h =
    let f = sym (same_flavor x (table_in font.bytes d)) ∙ h in
    record { refused = λ settings glyphs steps. rw (o, f) refl; not_memory = not_memory font e (unflavored font d e o f) }

pub closed_cff : (font : Font) (d : List ℕ) (x : Extras) → opened font ≡ Ok d → flavored (requested x (table_in font.bytes d)) ≡ Ok Cff → IsClosed font Unimplemented
unfolding instance_of
closed_cff font d x o h =
    let f = sym (same_flavor x (table_in font.bytes d)) ∙ h in
    record { refused = λ settings glyphs steps. rw (o, f) refl; not_memory = λ e. absurd cc }

pub closed_promise : {V : Type 0} (view : V → List ℕ) (font : Font) (settings : List (Tag × ℤ)) (glyphs : List ℕ) (steps : ℕ) (e : Error) → IsClosed font e → IsInstancePromised view steps font settings glyphs (Err e)
closed_promise {V = V} view font settings glyphs steps e c =
    let h = c.refused settings glyphs steps in
    record {
      exact = tt;
      err = inr (refused font settings glyphs steps e h);
      no_answer = inr (no_answer font settings glyphs steps e h);
      before_memory = λ why fault out. c.not_memory (failed_is {A = V} e OutOfMemory out);
    }

-- ---- a font that is

pub instance_is : (font : Font) (d : List ℕ) (settings : List (Tag × ℤ)) (glyphs : List ℕ) (steps : ℕ) → opened font ≡ Ok d → flavored (table_in font.bytes d) ≡ Ok TrueType → instance_of font settings glyphs steps ≡ instance_in (table_in font.bytes d) settings glyphs steps
unfolding instance_of
instance_is font d settings glyphs steps o f = rw (o, f) refl

gave_ok : {X Y : Type 0} (view : X → Y) (r : Result X Error) (read : Result Y Error) (P : Y → Type 0) → Gives view r read → ((y : Y) → read ≡ Ok y → P y) → IfOk r (λ x. P (view x))
gave_ok view (Ok x) read P h f = f (view x) h
gave_ok view (Err e) read P h f = tt

gave_err : {X Y : Type 0} (view : X → Y) (r : Result X Error) (read : Result Y Error) (P : Error → Type 0) → Gives view r read → ((e : Error) → read ≡ Err e → P e) → IfErr r (λ e. (e ≡ OutOfMemory) ⊎ P e)
gave_err view (Ok x) read P h f = tt
gave_err view (Err OutOfMemory) read P h f = inl refl
gave_err view (Err UnknownKind) read P h f = inr (f UnknownKind h)
gave_err view (Err MalformedFont) read P h f = inr (f MalformedFont h)
gave_err view (Err Unimplemented) read P h f = inr (f Unimplemented h)
gave_err view (Err SubsetError) read P h f = inr (f SubsetError h)
gave_err view (Err OverflowError) read P h f = inr (f OverflowError h)
gave_err view (Err CFFError) read P h f = inr (f CFFError h)

module _ {V : Type 0} (view : V → List ℕ) (r : Result V Error) (font : Font) (d seen : List ℕ) (settings : List (Tag × ℤ)) (glyphs : List ℕ) (steps : ℕ) (bytes : IsBytes font.bytes) (same : seen ≡ font.bytes) (o : opened font ≡ Ok d) (f : flavored (table_in font.bytes d) ≡ Ok TrueType)
    (gives : Gives view r (instance_in (table_in seen d) settings glyphs steps)) where
  plainly : Gives view r (instance_of font settings glyphs steps)
  plainly = subst (Gives view r) (ap (λ (b : List ℕ). instance_in (table_in b d) settings glyphs steps) same ∙ sym (instance_is font d settings glyphs steps o f)) gives

  made_exact : IfOk r (λ out. IsAnswer font settings glyphs steps (view out))
  made_exact = gave_ok view r (instance_of font settings glyphs steps) (IsAnswer font settings glyphs steps) plainly (λ out h. is_answer font settings glyphs steps out bytes h)

  made_err : IfErr r (λ e. (e ≡ OutOfMemory) ⊎ HasInstanceFault font settings glyphs steps e)
  made_err = gave_err view r (instance_of font settings glyphs steps) (HasInstanceFault font settings glyphs steps) plainly (λ e h. refused font settings glyphs steps e h)

  made_no_answer : IfErr r (λ e. (e ≡ OutOfMemory) ⊎ HasNoAnswer font settings glyphs steps)
  made_no_answer = gave_err view r (instance_of font settings glyphs steps) (λ _. HasNoAnswer font settings glyphs steps) plainly (λ e h. no_answer font settings glyphs steps e h)

  made_before : (e : Error) → HasOpeningFault font e → r ≢ Err OutOfMemory
  made_before e fault h = absurd (no_opening_fault font d TrueType e o f fault)

  pub made_promise : IsInstancePromised view steps font settings glyphs r
  made_promise = record { exact = made_exact; err = made_err; no_answer = made_no_answer; before_memory = made_before }
