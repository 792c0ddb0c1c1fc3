-- What an answer that is the plain way's promises.
use Rattle.std.proofs.Common.{◌≡◌, ℕ, List, Option, Result, Ok, Err, refl, inl, inr, ◌⊎◌}
use Rattle.std.specs.Prelude.{IfOk, IfErr}
use Rattle.subsetter_base.specs.Gives.{Fails}
use Rattle.subsetter_base.specs.Within.{IsTooLong}
use Rattle.subsetter_base.specs.declared.error.Error.{Error}
use Rattle.subsetter_base.specs.declared.error.Error.TheVariants.{UnknownKind, MalformedFont, Unimplemented, SubsetError, OverflowError, CFFError, OutOfMemory}
use Rattle.subsetter_points.specs.declared.bounds.Bounds.{Bounds}
use Rattle.subsetter_cff_at.specs.Boxes.{table_boxes}
use Rattle.subsetter_cff_at.specs.Fault.{HasFault}
use Rattle.subsetter_cff_at.specs.Plain.{drawn_of, made_table}
use Rattle.subsetter_cff_at.specs.Promise.{IsRequest, IsTableAt}
use Rattle.subsetter_cff_at.specs.Request.{Request}
use Rattle.subsetter_cff_at.specs.View.{drawn_size, FailsMaking, HasBoxes}
use Rattle.subsetter_cff_at.proofs.Excluded.{made_excludes}
use Rattle.subsetter_cff_at.proofs.FaultLaws.Faults.{refused_stands}
use Rattle.subsetter_cff_at.proofs.Promised.{boxes_back, made_is_table}

module _ {X : Type 0} (view : X → List ℕ) (bound : Option ℕ) (bytes : List ℕ) (r : Request) (tokens depth : ℕ) where
  pub answered : (a : Result X Error) → IsRequest r → IfOk a (λ x. made_table bytes r tokens depth ≡ Ok (view x)) → IfOk a (λ x. IsTableAt bytes r tokens depth (view x))
  answered (Ok x) is h = made_is_table bytes r tokens depth (view x) is h
  answered (Err e) is h = tt

  pub clean : (a : Result X Error) → IfOk a (λ x. made_table bytes r tokens depth ≡ Ok (view x)) → IfOk a (λ x. (e : Error) → HasFault bytes r tokens depth e → ⊥)
  clean (Ok x) h = λ e f. made_excludes bytes r tokens depth (view x) e h f
  clean (Err e) h = tt

  pub boxed : (boxes : X → List (Option Bounds)) (a : Result X Error) → IsRequest r → IfOk a (λ x. made_table bytes r tokens depth ≡ Ok (view x)) → IfOk a (λ x. HasBoxes (boxes x) (drawn_of bytes r tokens depth)) → IfOk a (λ x. boxes x ≡ table_boxes (view x))
  boxed boxes (Ok x) is h k = boxes_back bytes r tokens depth (view x) (boxes x) is h k
  boxed boxes (Err e) is h k = tt

  fails : (e : Error) → Fails e (made_table bytes r tokens depth) → (e ≡ OutOfMemory) ⊎ HasFault bytes r tokens depth e
  fails OutOfMemory h = inl refl
  fails UnknownKind h = inr (refused_stands bytes r tokens depth UnknownKind h)
  fails MalformedFont h = inr (refused_stands bytes r tokens depth MalformedFont h)
  fails Unimplemented h = inr (refused_stands bytes r tokens depth Unimplemented h)
  fails SubsetError h = inr (refused_stands bytes r tokens depth SubsetError h)
  fails OverflowError h = inr (refused_stands bytes r tokens depth OverflowError h)
  fails CFFError h = inr (refused_stands bytes r tokens depth CFFError h)

  pub refused : (a : Result X Error) → IfErr a (λ e. FailsMaking bytes r tokens depth bound e)
      → IfErr a (λ e. (e ≡ OutOfMemory) ⊎ (HasFault bytes r tokens depth e ⊎ ((e ≡ OverflowError) × IsTooLong bound drawn_size (drawn_of bytes r tokens depth))))
  refused (Ok x) h = tt
  refused (Err e) h = elim h [
    | inl f ↦ elim (fails e f) [ inl m ↦ inl m | inr stands ↦ inr (inl stands) ]
    | inr p ↦ inr (inr p)
  ]
