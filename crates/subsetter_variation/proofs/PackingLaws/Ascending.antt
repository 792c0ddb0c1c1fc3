-- The point numbers of a tuple ascend.
use Rattle.std.proofs.Common.{◌≡◌, ℕ, zero, suc, ◌+◌, ◌≤◌, Bool, true, false, ◌&&◌, cond, nat_le, nat_lt, nat_eq, List, [], ◌∷◌, Option, Some, None, refl, ap, subst}
use Rattle.std.specs.Option.{option_map}
use Rattle.std.proofs.lemmas.Bool.{leb-true}
use Rattle.std.proofs.lemmas.Option.{same_Some}
use Rattle.subsetter_base.specs.Options.{◌>>=◌}
use Rattle.subsetter_variation.specs.Packing.Packed.{Run, begun, count_in, ended, next_point, point_numbers, points_from, runs, step_in, stepped}
use Rattle.subsetter_variation.specs.VariationLaws.{AreAscending, Ascends}

some_bind : {A B : Type 0} (o : Option A) (f : A → Option B) (y : B) → (o >>= f) ≡ Some y → (x : A) × (o ≡ Some x) × (f x ≡ Some y)
some_bind None f y h = absurd cc
some_bind (Some x) f y h = (x, refl, h)

some_map : {A B : Type 0} (f : A → B) (o : Option A) (y : B) → option_map f o ≡ Some y → (x : A) × (f x ≡ y)
some_map f None y h = absurd cc
some_map f (Some x) y h = (x, same_Some (f x) y h)

both_hold : {A : Type 0} (a b : Bool) (x p : A) → cond (a && b) (Some x) None ≡ Some p → (a ≡ true) × (x ≡ p)
both_hold true true x p h = (refl, same_Some x p h)
both_hold true false x p h = absurd cc
both_hold false b x p h = absurd cc

next_least : (limit before least : ℕ) (r : Run) (p : ℕ × Run) → next_point limit before least r ≡ Some p → least ≤ p.0
unfolding next_point
next_least limit before least r p h =
    let run = some_bind (begun 128 r) (λ run. step_in run >>= stepped limit before least) p h in
    let s = some_bind (step_in run.0) (stepped limit before least) p run.2 in
    let both = both_hold (nat_le least (before + s.0.0)) (nat_lt (before + s.0.0) limit) (before + s.0.0, s.0.1) p s.2 in
    subst (λ q. least ≤ q.0) both.1 (leb-true least (before + s.0.0) both.0)

points_ascend : (limit n before least : ℕ) (r : Run) (x : List ℕ × List ℕ) → points_from limit n before least r ≡ Some x → Ascends least x.0
points_ascend limit zero before least r x h =
    let end = some_map (λ bytes. ([], bytes)) (ended r) x h in
    subst (λ y. Ascends least y.0) end.1 tt
points_ascend limit (suc n) before least r x h =
    let p = some_bind (next_point limit before least r) (λ p. points_from limit n p.0 (p.0 + 1) p.1 >>= λ rest. Some (p.0 ∷ rest.0, rest.1)) x h in
    let rest = some_bind (points_from limit n p.0.0 (p.0.0 + 1) p.0.1) (λ rest. Some (p.0.0 ∷ rest.0, rest.1)) x p.2 in
    subst (λ y. Ascends least y.0) (same_Some (p.0.0 ∷ rest.0.0, rest.0.1) x rest.2) (next_least limit before least r p.0 p.1, points_ascend limit n p.0.0 (p.0.0 + 1) p.0.1 rest.0 rest.1)

some_list : (xs ys : List ℕ) → Some xs ≡ Some ys → xs ≡ ys
some_list xs ys h = cc

from_points : (limit n : ℕ) (bytes rest numbers : List ℕ) (o : Option (List ℕ × List ℕ)) → points_from limit n 0 0 (runs bytes) ≡ o → option_map {T = List ℕ × List ℕ} {U = Option (List ℕ) × List ℕ} (λ x. (Some x.0, x.1)) o ≡ Some (Some numbers, rest) → Ascends 0 numbers
from_points limit n bytes rest numbers None e k = absurd cc
from_points limit n bytes rest numbers (Some x) e k = subst (Ascends 0) (some_list x.0 numbers (ap (λ y. y.0) (same_Some (Some x.0, x.1) (Some numbers, rest) k))) (points_ascend limit n 0 0 (runs bytes) x e)

none_is_none : (xs : List ℕ) (o : Option (List ℕ)) → o ≡ None → o ≡ Some xs → ⊥
none_is_none xs None e h = cc
none_is_none xs (Some ys) e h = cc

numbers_ascend : (b : Bool) (limit n : ℕ) (bytes rest numbers : List ℕ) → cond b (Some (None, bytes)) (option_map {T = List ℕ × List ℕ} {U = Option (List ℕ) × List ℕ} (λ x. (Some x.0, x.1)) (points_from limit n 0 0 (runs bytes))) ≡ Some (Some numbers, rest) → Ascends 0 numbers
numbers_ascend true limit n bytes rest numbers h = absurd (none_is_none numbers None refl (ap (λ y. y.0) (same_Some {A = Option (List ℕ) × List ℕ} (None, bytes) (Some numbers, rest) h)))
numbers_ascend false limit n bytes rest numbers h = from_points limit n bytes rest numbers (points_from limit n 0 0 (runs bytes)) refl h

pub are_ascending : AreAscending
unfolding point_numbers
are_ascending limit bytes rest numbers h =
    let count = some_bind (count_in bytes) (λ count. cond (nat_eq count.0 0) (Some (None, count.1)) (option_map {T = List ℕ × List ℕ} {U = Option (List ℕ) × List ℕ} (λ x. (Some x.0, x.1)) (points_from limit count.0 0 0 (runs count.1)))) (Some numbers, rest) h in
    numbers_ascend (nat_eq count.0.0 0) limit count.0.0 count.0.1 rest numbers count.2
