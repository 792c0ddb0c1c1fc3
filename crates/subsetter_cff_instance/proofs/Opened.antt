-- The promise of the public call, by the plain way.
--   closed_promise      of a font that isn't opened, or whose outlines aren't taken
--   made_promise        of any other font
use Rattle.std.proofs.Common.{◌≡◌, ℕ, List, Option, Result, Ok, Err, ℤ, refl, sym, ap, subst, ◌∙◌, ◌⊎◌, inl, inr}
use Rattle.std.specs.Prelude.{◌≢◌, IfOk, IfErr}
use Rattle.std.proofs.lemmas.Result.{IfOk-weaker, IfErr-weaker}
use Rattle.subsetter_base.specs.Bytes.{IsBytes}
use Rattle.subsetter_base.specs.Gives.{Fails}
use Rattle.subsetter_base.specs.Within.{IsTooLong}
use Rattle.subsetter_base.specs.declared.tag.Tag.{Tag}
use Rattle.subsetter_base.specs.declared.error.Error.{Error}
use Rattle.subsetter_base.specs.declared.error.Error.TheVariants.{UnknownKind, MalformedFont, Unimplemented, SubsetError, OverflowError, CFFError, OutOfMemory}
use Rattle.subsetter_base.proofs.Results.{failed_is}
use Rattle.subsetter_sfnt.specs.Plain.{opened}
use Rattle.subsetter_sfnt.specs.Read.{Font, table_in, stored}
use Rattle.subsetter_instance.proofs.FaultLaws.Opening.{same_find}
use Rattle.subsetter_cff_at.specs.Plain.{Drawn}
use Rattle.subsetter_cff_at.specs.View.{drawn_size, KeepsBound}
use Rattle.subsetter_cff_instance.specs.Answer.{IsCffAnswer, HasNoCffAnswer, PassesBound, HasTableFault, FailsInstance, IsClosedToCff}
use Rattle.subsetter_cff_instance.specs.Fault.{HasOutlinesFault, HasCffInstanceFault, in_table}
use Rattle.subsetter_cff_instance.specs.Plain.{cff_instance_in, cff_instance_of, charstrings_in, charstrings_of}
use Rattle.subsetter_cff_instance.specs.Promise.{IsCffInstancePromised}
use Rattle.subsetter_cff_instance.specs.Source.{outlines_or_fault}
use Rattle.subsetter_cff_instance.proofs.FaultLaws.Clean.{is_answer}
use Rattle.subsetter_cff_instance.proofs.FaultLaws.Opening.{no_outlines_fault, taken}
use Rattle.subsetter_cff_instance.proofs.FaultLaws.Refused.{in_tables, no_answer, refused}
use Rattle.subsetter_cff_instance.proofs.FileLaws.Instance.{is_cff_instance}

-- ---- why there is no answer

module _ (font : Font) (settings : List (Tag × ℤ)) (glyphs : List ℕ) (tokens depth : ℕ) (bound : Option ℕ) where
  abbrev pub IsRefusal : Error → Type 0
  IsRefusal e = (e ≡ OutOfMemory) ⊎ (HasCffInstanceFault font settings glyphs tokens depth e ⊎ PassesBound font settings glyphs tokens depth bound e)

  abbrev pub HasNone : Error → Type 0
  HasNone e = (e ≡ OutOfMemory) ⊎ (HasNoCffAnswer font settings glyphs tokens depth ⊎ PassesBound font settings glyphs tokens depth bound e)

  -- where there is a fault there is none
  has_none : (e : Error) → IsRefusal e → HasNone e
  has_none e (inl m) = inl m
  has_none e (inr (inl f)) = inr (inl (no_answer font settings glyphs tokens depth e f))
  has_none e (inr (inr p)) = inr (inr p)

  pub closed_promise : {V : Type 0} (view : V → List ℕ) (e : Error) → IsClosedToCff font e → IsCffInstancePromised view bound tokens depth font settings glyphs (Err e)
  closed_promise {V = V} view e c =
      let f = refused font settings glyphs tokens depth e (c.refused settings glyphs tokens depth) in
      record {
        exact = tt;
        within = tt;
        err = inr (inl f);
        no_answer = inr (inl (no_answer font settings glyphs tokens depth e f));
        before_memory = λ why fault out. c.not_memory (failed_is {A = V} e OutOfMemory out);
      }

-- ---- a font that is opened, and whose outlines are taken

module _ (font : Font) (d seen cff2 : List ℕ) (settings : List (Tag × ℤ)) (glyphs : List ℕ) (tokens depth : ℕ) (same : seen ≡ font.bytes) (o : opened font ≡ Ok d) (outlines : outlines_or_fault (table_in font.bytes d) ≡ Ok cff2) where
  find_is : table_in seen d ≡ stored font
  find_is = ap (λ (b : List ℕ). table_in b d) same ∙ sym (same_find font d o)

  plain_is : cff_instance_of font settings glyphs tokens depth ≡ cff_instance_in (table_in seen d) cff2 settings glyphs tokens depth
  unfolding cff_instance_of
  plain_is = rw (same, o, outlines) refl

  charstrings_are : charstrings_in (table_in seen d) cff2 settings glyphs tokens depth ≡ charstrings_of font settings glyphs tokens depth
  unfolding charstrings_of
  charstrings_are = rw (same, o, outlines) refl

  refused_in : (e : Error) → cff_instance_in (table_in seen d) cff2 settings glyphs tokens depth ≡ Err e → HasCffInstanceFault font settings glyphs tokens depth e
  refused_in e h = in_tables font settings glyphs tokens depth e cff2 (taken font d cff2 o outlines).cff2_is (ap (λ find. cff_instance_in find cff2 settings glyphs tokens depth) (sym find_is) ∙ h)

  fails : (e : Error) → Fails e (cff_instance_in (table_in seen d) cff2 settings glyphs tokens depth) → (e ≡ OutOfMemory) ⊎ HasCffInstanceFault font settings glyphs tokens depth e
  fails OutOfMemory h = inl refl
  fails UnknownKind h = inr (refused_in UnknownKind h)
  fails MalformedFont h = inr (refused_in MalformedFont h)
  fails Unimplemented h = inr (refused_in Unimplemented h)
  fails SubsetError h = inr (refused_in SubsetError h)
  fails OverflowError h = inr (refused_in OverflowError h)
  fails CFFError h = inr (refused_in CFFError h)

  in_new_table : (e : Error) → HasTableFault (table_in seen d) cff2 settings glyphs tokens depth e → HasCffInstanceFault font settings glyphs tokens depth e
  in_new_table e f = let t = subst (λ find. HasTableFault find cff2 settings glyphs tokens depth e) find_is f in in_table cff2 t.p (taken font d cff2 o outlines).cff2_is t.prepared_is t.fault

  -- there is no fault that is found before memory is taken
  made_before : {V : Type 0} (r : Result V Error) (e : Error) → HasOutlinesFault font e → r ≢ Err OutOfMemory
  made_before r e f h = absurd (no_outlines_fault font cff2 e (taken font d cff2 o outlines) f)

  module _ {V : Type 0} (r : Result V Error) (bound : Option ℕ) where
    made_within : IfOk r (λ _. KeepsBound bound (charstrings_in (table_in seen d) cff2 settings glyphs tokens depth)) → IfOk r (λ _. KeepsBound bound (charstrings_of font settings glyphs tokens depth))
    made_within h = subst (λ (read : Result Drawn Error). IfOk r (λ _. KeepsBound bound read)) charstrings_are h

    abbrev Fails_here : Error → Type 0
    Fails_here e = FailsInstance (table_in seen d) cff2 settings glyphs tokens depth bound e

    refusal : (e : Error) → Fails_here e → IsRefusal font settings glyphs tokens depth bound e
    refusal e (inl h) = elim (fails e h) [ inl m ↦ inl m | inr f ↦ inr (inl f) ]
    refusal e (inr (inl f)) = inr (inl (in_new_table e f))
    refusal e (inr (inr p)) = inr (inr (p.0, subst (λ (read : Result Drawn Error). IsTooLong bound drawn_size read) charstrings_are p.1))

    made_err : IfErr r Fails_here → IfErr r (IsRefusal font settings glyphs tokens depth bound)
    made_err h = IfErr-weaker r Fails_here (IsRefusal font settings glyphs tokens depth bound) refusal h

    made_no_answer : IfErr r Fails_here → IfErr r (HasNone font settings glyphs tokens depth bound)
    made_no_answer h = IfErr-weaker r Fails_here (HasNone font settings glyphs tokens depth bound) (λ e f. has_none font settings glyphs tokens depth bound e (refusal e f)) h

  module _ {V : Type 0} (view : V → List ℕ) (r : Result V Error) (bound : Option ℕ) (bytes : IsBytes font.bytes) (ok : IfOk r (λ v. cff_instance_in (table_in seen d) cff2 settings glyphs tokens depth ≡ Ok (view v))) where
    answer : (out : List ℕ) → cff_instance_in (table_in seen d) cff2 settings glyphs tokens depth ≡ Ok out → IsCffAnswer font settings glyphs tokens depth out
    answer out h = let whole = plain_is ∙ h in is_answer font settings glyphs tokens depth out (is_cff_instance font settings glyphs tokens depth out bytes whole) whole

    pub made_promise : IfOk r (λ _. KeepsBound bound (charstrings_in (table_in seen d) cff2 settings glyphs tokens depth)) → IfErr r (Fails_here r bound) → IsCffInstancePromised view bound tokens depth font settings glyphs r
    made_promise kept failed = record {
      exact = IfOk-weaker r (λ v. cff_instance_in (table_in seen d) cff2 settings glyphs tokens depth ≡ Ok (view v)) (λ v. IsCffAnswer font settings glyphs tokens depth (view v)) (λ v h. answer (view v) h) ok;
      within = made_within r bound kept;
      err = made_err r bound failed;
      no_answer = made_no_answer r bound failed;
      before_memory = made_before r;
    }
