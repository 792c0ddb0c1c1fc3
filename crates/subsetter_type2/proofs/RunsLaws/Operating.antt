-- An operator of one byte, by its first byte.
use Rattle.std.proofs.Common.{◌≡◌, ℕ, ◌<◌, ◌≤◌, false, List, [], ◌∷◌, ◌-◌, length, take, drop, get_or, refl, ap, sym, ◌∙◌, arith, inl, inr, eqb}
use Rattle.std.proofs.lemmas.Bool.{cases_Bool, eqb-true, lt-leb}
use Rattle.std.proofs.lemmas.List.{take_all}
use Rattle.subsetter_type2.specs.Runs.Machine.{Library, Registers, Does, Back, call, operate, act_at}
use Rattle.std.specs.Prelude.{Option, Some, None}
use Rattle.subsetter_type2.specs.declared.token.Effect.{Effect}
use Rattle.subsetter_type2.specs.declared.token.Effect.TheVariants.{CallsLocal, CallsGlobal, Returns}
use Rattle.subsetter_type2.specs.Token.{token_of, one_byte, one_byte_effect, effect_of}

not_equal : (n m : ℕ) → (n ≡ m → ⊥) → eqb n m ≡ false
not_equal n m ne = elim (cases_Bool (eqb n m)) [ inl e ↦ absurd (ne (eqb-true n m e)) | inr e ↦ e ]

by_first : (library : Library) (first : ℕ) (rest : List ℕ) (r : Registers) → first < 32 → (first ≡ 28 → ⊥) → (first ≡ 12 → ⊥) → act_at library (first ∷ rest) r ≡ operate library (one_byte first) (one_byte_effect first) rest r
unfolding act_at token_of effect_of
by_first library first rest r low a b = rw (not_equal first 28 a, not_equal first 12 b, lt-leb 32 first low) refl

pub operates : (library : Library) (bytes : List ℕ) (r : Registers) (effect : Option Effect) → 1 ≤ length bytes → get_or bytes 0 0 < 32 → (get_or bytes 0 0 ≡ 28 → ⊥) → (get_or bytes 0 0 ≡ 12 → ⊥)
    → effect ≡ one_byte_effect (get_or bytes 0 0) → act_at library bytes r ≡ operate library (one_byte (get_or bytes 0 0)) effect (take (length bytes - 1) (drop 1 bytes)) r
operates library [] r effect long low a b e = absurd (omega arith)
operates library (first ∷ rest) r effect long low a b e =
    by_first library first rest r low a b
    ∙ ap (λ (f : Option Effect). operate library (one_byte first) f rest r) (sym e)
    ∙ ap (λ (l : List ℕ). operate library (one_byte first) effect l r) (sym (take_all (length (first ∷ rest) - 1) rest (omega arith)))

-- a return, and the two calls
module _ (library : Library) (bytes : List ℕ) (r : Registers) (long : 1 ≤ length bytes) where
  by_effect : (first : ℕ) (effect : Option Effect) → get_or bytes 0 0 ≡ first → first < 32 → (first ≡ 28 → ⊥) → (first ≡ 12 → ⊥) → effect ≡ one_byte_effect first
      → act_at library bytes r ≡ operate library (one_byte (get_or bytes 0 0)) effect (take (length bytes - 1) (drop 1 bytes)) r
  by_effect first effect e low a b f = operates library bytes r effect long (omega arith) (λ h. a (sym e ∙ h)) (λ h. b (sym e ∙ h)) (f ∙ ap one_byte_effect (sym e))

  pub returns_at : get_or bytes 0 0 ≡ 11 → act_at library bytes r ≡ Does None r Back
  returns_at e = by_effect 11 (Some Returns) e (omega arith) (λ h. omega arith) (λ h. omega arith) refl

  pub calls_local_at : get_or bytes 0 0 ≡ 10 → act_at library bytes r ≡ call library.local (take (length bytes - 1) (drop 1 bytes)) r
  calls_local_at e = by_effect 10 (Some CallsLocal) e (omega arith) (λ h. omega arith) (λ h. omega arith) refl

  pub calls_global_at : get_or bytes 0 0 ≡ 29 → act_at library bytes r ≡ call library.global (take (length bytes - 1) (drop 1 bytes)) r
  calls_global_at e = by_effect 29 (Some CallsGlobal) e (omega arith) (λ h. omega arith) (λ h. omega arith) refl
