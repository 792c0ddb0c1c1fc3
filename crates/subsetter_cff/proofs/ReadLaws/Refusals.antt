-- The steps of a refusal, and members of a list.
use Rattle.std.proofs.Common.{◌≡◌, ℕ, zero, suc, Bool, true, false, ◌&&◌, List, [], ◌∷◌, Option, Some, None, refl, arith, inl, inr, ◌⊎◌}
use Rattle.std.specs.Prelude.{Contains, slice_get, Result, Ok, Err}
use Rattle.std.specs.Option.{ok_or, option_and_then}
use Rattle.std.proofs.lemmas.Option.{none-some, same_Some}
use Rattle.subsetter_base.specs.Bytes.{◌>>=◌}
use Rattle.subsetter_base.specs.declared.error.Error.{Error}
use Rattle.subsetter_cff.specs.Read.Opened.{check}

pub bind_err : {A B : Type 0} (r : Result A Error) (f : A → Result B Error) (e : Error) → r >>= f ≡ Err e → (r ≡ Err e) ⊎ ((x : A) × ((r ≡ Ok x) × (f x ≡ Err e)))
bind_err (Ok x) f e h = inr (x, (refl, h))
bind_err (Err d) f e h = inl cc

pub none_of : {A : Type 0} (o : Option A) (d e : Error) → ok_or o d ≡ Err e → (o ≡ None) × (d ≡ e)
none_of None d e h = (refl, cc)
none_of (Some x) d e h = absurd cc

pub failed : {A : Type 0} (b : Bool) (d e : Error) (r : Result A Error) → check b d r ≡ Err e → ((b ≡ false) × (d ≡ e)) ⊎ ((b ≡ true) × (r ≡ Err e))
failed true d e r h = inr (refl, h)
failed false d e r h = inl (refl, cc)

pub none_or : {A B : Type 0} (o : Option A) (f : A → Option B) → option_and_then f o ≡ None → (o ≡ None) ⊎ ((x : A) × ((o ≡ Some x) × (f x ≡ None)))
none_or None f e = inl refl
none_or (Some x) f e = inr (x, (refl, e))

pub not_both : (a b : Bool) → (a && b) ≡ false → (a ≡ false) ⊎ (b ≡ false)
not_both true b e = inr e
not_both false b e = inl refl

pub here : {A : Type 0} (x : A) (xs : List A) → Contains (x ∷ xs) x
here x xs = (0, omega arith, refl)

pub there : {A : Type 0} (y : A) (xs : List A) (x : A) → Contains xs x → Contains (y ∷ xs) x
there y xs x h = (suc h.0, omega (arith, h.1), h.2)

pub contains_at : {A : Type 0} (xs : List A) (i : ℕ) (x : A) → slice_get xs i ≡ Some x → Contains xs x
contains_at [] i x e = absurd (none-some x e)
contains_at (y ∷ xs) zero x e = (0, omega arith, same_Some _ _ e)
contains_at (y ∷ xs) (suc i) x e = there y xs x (contains_at xs i x e)
