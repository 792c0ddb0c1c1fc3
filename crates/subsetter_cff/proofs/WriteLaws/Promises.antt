-- What an answer that gives the plain way's value promises: a subset where a table is answered, and a fault where it is refused.
use Rattle.std.proofs.Common.{◌≡◌, ℕ, ◌≤◌, List, [], ◌∷◌, length, Option, Some, Result, Ok, Err, refl, arith, inl, inr, ◌⊎◌}
use Rattle.std.specs.Prelude.{IfOk, IfErr, slice_get}
use Rattle.subsetter_base.specs.Gives.{Fails}
use Rattle.subsetter_base.specs.Within.{GivesWithin, IsTooLong}
use Rattle.subsetter_base.specs.declared.error.Error.{Error}
use Rattle.subsetter_base.specs.declared.error.Error.TheVariants.{UnknownKind, MalformedFont, Unimplemented, SubsetError, OverflowError, CFFError, OutOfMemory}
use Rattle.subsetter_cff.specs.Write.Plain.{cff_subset}
use Rattle.subsetter_cff.specs.Write.Headline.{IsSubsetLaidOut}
use Rattle.subsetter_cff.specs.Write.Refusals.CffFault.{HasCffFault}
use Rattle.subsetter_cff.proofs.WriteLaws.Headline.{answered_is_subset}
use Rattle.subsetter_cff.proofs.WriteLaws.RefusalsLaws.CffFaults.{refused_stands}
use Rattle.subsetter_cff.proofs.WriteLaws.RefusalsLaws.Excluded.{answered_excludes}

-- glyph 0 comes first
some_given : (glyphs : List ℕ) → slice_get glyphs 0 ≡ Some 0 → 1 ≤ length glyphs
some_given [] h = absurd cc
some_given (g ∷ gs) h = omega arith

module _ {X : Type 0} (view : X → List ℕ) (bound : Option ℕ) (bytes : List ℕ) (tokens depth : ℕ) (glyphs : List ℕ) where
  pub answered : (r : Result X Error) → 1 ≤ depth → slice_get glyphs 0 ≡ Some 0 → length glyphs ≤ 65535 → GivesWithin view bound length r (cff_subset bytes tokens depth glyphs)
      → IfOk r (λ x. IsSubsetLaidOut bytes tokens depth glyphs (view x))
  answered (Ok x) deep first few h = record { subset = answered_is_subset bytes tokens depth glyphs (view x) deep (some_given glyphs first) few h; layout = h }
  answered (Err e) deep first few h = tt

  pub clean : (r : Result X Error) → GivesWithin view bound length r (cff_subset bytes tokens depth glyphs) → IfOk r (λ x. (e : Error) → HasCffFault bytes tokens depth glyphs e → ⊥)
  clean (Ok x) h = λ e f. answered_excludes bytes tokens depth glyphs (view x) e h f
  clean (Err e) h = tt

  fails : (e : Error) → Fails e (cff_subset bytes tokens depth glyphs) → (e ≡ OutOfMemory) ⊎ HasCffFault bytes tokens depth glyphs e
  fails OutOfMemory h = inl refl
  fails UnknownKind h = inr (refused_stands bytes tokens depth glyphs UnknownKind h)
  fails MalformedFont h = inr (refused_stands bytes tokens depth glyphs MalformedFont h)
  fails Unimplemented h = inr (refused_stands bytes tokens depth glyphs Unimplemented h)
  fails SubsetError h = inr (refused_stands bytes tokens depth glyphs SubsetError h)
  fails OverflowError h = inr (refused_stands bytes tokens depth glyphs OverflowError h)
  fails CFFError h = inr (refused_stands bytes tokens depth glyphs CFFError h)

  pub refused : (r : Result X Error) → GivesWithin view bound length r (cff_subset bytes tokens depth glyphs)
      → IfErr r (λ e. (e ≡ OutOfMemory) ⊎ (HasCffFault bytes tokens depth glyphs e ⊎ ((e ≡ OverflowError) × IsTooLong bound length (cff_subset bytes tokens depth glyphs))))
  refused (Ok x) h = tt
  refused (Err e) h = elim h [
    | inl f ↦ elim (fails e f) [ inl m ↦ inl m | inr stands ↦ inr (inl stands) ]
    | inr p ↦ inr (inr p)
  ]
