-- The terms of a row, one after another.
use Rattle.std.proofs.Common.{◌≡◌, ℕ, suc, ◌+◌, ◌-◌, ◌<◌, List, Option, Some, None, ℤ, pos, ◌+ℤ◌, refl, ap, arith}
use Rattle.std.specs.Option.{option_map}
use Rattle.std.proofs.lemmas.Int.{ints}
use Rattle.subsetter_base.specs.Options.{◌>>=◌}
use Rattle.subsetter_variation.specs.Items.ItemVariations.{Store, Row, term, terms}

-- the sum of the terms so far and those that follow
abbrev pub on_top : ℤ → Option ℤ → Option ℤ
on_top sum rest = option_map (λ z. sum +ℤ z) rest

sum_assoc : (a b c : ℤ) → a +ℤ (b +ℤ c) ≡ (a +ℤ b) +ℤ c
sum_assoc a b c = omega (arith, ints)

top_more : (sum x : ℤ) (o : Option ℤ) → on_top sum (o >>= λ z. Some (x +ℤ z)) ≡ on_top (sum +ℤ x) o
top_more sum x None = refl
top_more sum x (Some z) = ap Some (sum_assoc sum x z)

pub terms_step : (sum x : ℤ) (s : Store) (at : List ℤ) (r : Row) (n k : ℕ) → k < n → term s at r k ≡ Some x → on_top sum (terms s at r (n - k) k) ≡ on_top (sum +ℤ x) (terms s at r (n - (k + 1)) (k + 1))
terms_step sum x s at r n k less h =
    let one : n - k ≡ suc (n - (k + 1)) = omega arith in
    rw (one, h) (top_more sum x (terms s at r (n - (k + 1)) (k + 1)))

pub terms_cut : (sum : ℤ) (s : Store) (at : List ℤ) (r : Row) (n k : ℕ) → k < n → term s at r k ≡ None → on_top sum (terms s at r (n - k) k) ≡ None
terms_cut sum s at r n k less h =
    let one : n - k ≡ suc (n - (k + 1)) = omega arith in
    rw (one, h) refl

sum_none : (a : ℤ) → a +ℤ pos 0 ≡ a
sum_none a = omega (arith, ints)

pub terms_end : (sum : ℤ) (s : Store) (at : List ℤ) (r : Row) (n k : ℕ) → n ≡ k → on_top sum (terms s at r (n - k) k) ≡ Some sum
terms_end sum s at r n k same =
    let none : n - k ≡ 0 = omega arith in
    rw none (ap Some (sum_none sum))
