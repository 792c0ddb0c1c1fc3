-- Steps that answer or refuse, one after another.
--   done, failed                 an answer and a refusal, whose values are told apart by done_is and failed_is
--   ok_not_err                   nothing is both
--   bind_ok, bind_err            the steps after an answer, and the step that refused
--   named_ok, named_err          a part that was asked for under the name of an error
--   with_front                   members before a list that is answered
use Rattle.std.proofs.Common.{◌≡◌, List, ◌++◌, Option, Some, None, Result, Ok, Err, refl, sym, ◌∙◌, ◌⊎◌, inl, inr}
use Rattle.std.specs.Option.{ok_or}
use Rattle.subsetter_base.specs.Bytes.{◌>>=◌}
use Rattle.subsetter_base.specs.declared.error.Error.{Error}

abbrev pub done : {A : Type 0} → A → Result A Error
done x = Ok x

pub done_is : {A : Type 0} (x y : A) → done x ≡ done y → x ≡ y
done_is x y h = cc

abbrev pub failed : {A : Type 0} → Error → Result A Error
failed e = Err e

pub failed_is : {A : Type 0} (d e : Error) → failed {A = A} d ≡ failed {A = A} e → d ≡ e
failed_is d e h = cc

pub ok_not_err : {A : Type 0} (r : Result A Error) (x : A) (e : Error) → r ≡ Ok x → r ≡ Err e → ⊥
ok_not_err r x e h k = let both = sym h ∙ k in cc

pub bind_ok : {A B : Type 0} (r : Result A Error) (f : A → Result B Error) (y : B) → (r >>= f) ≡ Ok y → (x : A) × (r ≡ Ok x) × (f x ≡ Ok y)
bind_ok (Ok x) f y e = (x, refl, e)
bind_ok (Err d) f y e = absurd cc

pub bind_err : {A B : Type 0} (r : Result A Error) (f : A → Result B Error) (e : Error) → (r >>= f) ≡ Err e → (r ≡ Err e) ⊎ ((x : A) × (r ≡ Ok x) × (f x ≡ Err e))
bind_err (Ok x) f e h = inr (x, refl, h)
bind_err (Err d) f e h = inl cc

pub named_ok : {A : Type 0} (o : Option A) (e : Error) (x : A) → ok_or o e ≡ Ok x → o ≡ Some x
named_ok None e x h = absurd cc
named_ok (Some y) e x h = cc

pub named_err : {A : Type 0} (o : Option A) (d e : Error) → ok_or o d ≡ Err e → (o ≡ None) × (d ≡ e)
named_err None d e h = (refl, cc)
named_err (Some x) d e h = absurd cc

abbrev pub with_front : {A : Type 0} → List A → Result (List A) Error → Result (List A) Error
with_front front read = read >>= λ xs. Ok (front ++ xs)
