-- The powers of ten of reals that were read are small, so a matrix that was read can always be scaled.
use Rattle.std.proofs.Common.{◌≡◌, ◌≢◌, List, [], ◌∷◌, length, Option, Some, None, refl, arith}
use Rattle.std.specs.List.{AllByRecursion}
use Rattle.subsetter_cffdata.specs.Numerals.Numbers.{Number, Real}
use Rattle.subsetter_cffdata.specs.Numerals.Values.{value, thousand, by_1000}
use Rattle.subsetter_cffdata.proofs.NumeralsLaws.BoundedNumbers.{thousand_there}
use Rattle.subsetter_cff.proofs.ReadLaws.EntriesLaws.ReadNumbers.{FitsNumber}

-- ---- a thousand times a number
record HasThousand (x : Number) : Type 0 where
  it : Number
  is : thousand x ≡ Some it

some_thousand : (x : Number) (o : Option Number) → thousand x ≡ o → o ≢ None → HasThousand x
some_thousand x None e there = absurd (there refl)
some_thousand x (Some y) e there = record { it = y; is = e }

has_thousand : (x : Number) → FitsNumber x → HasThousand x
has_thousand x fits = some_thousand x (thousand x) refl (thousand_there x fits.bounded)

-- a matrix with its first four numbers a thousand times as great is there
pub record IsScaled (m : List Number) : Type 0 where
  pub scaled : List Number
  pub is : by_1000 m ≡ Some scaled

pub by_1000_there : (m : List Number) → AllByRecursion FitsNumber m → length m ≡ 6 → IsScaled m
unfolding by_1000
by_1000_there [] all six = absurd (omega arith)
by_1000_there (a ∷ []) all six = absurd (omega arith)
by_1000_there (a ∷ b ∷ []) all six = absurd (omega arith)
by_1000_there (a ∷ b ∷ c ∷ []) all six = absurd (omega arith)
by_1000_there (a ∷ b ∷ c ∷ d ∷ []) all six = absurd (omega arith)
by_1000_there (a ∷ b ∷ c ∷ d ∷ e ∷ []) all six = absurd (omega arith)
by_1000_there (a ∷ b ∷ c ∷ d ∷ e ∷ f ∷ []) all six =
    let a' = has_thousand a all.0 in
    let b' = has_thousand b all.1.0 in
    let c' = has_thousand c all.1.1.0 in
    let d' = has_thousand d all.1.1.1.0 in
    record { scaled = a'.it ∷ b'.it ∷ c'.it ∷ d'.it ∷ Real (value e) ∷ Real (value f) ∷ []; is = rw (a'.is, b'.is, c'.is, d'.is) refl }
by_1000_there (a ∷ b ∷ c ∷ d ∷ e ∷ f ∷ g ∷ m) all six = absurd (omega arith)
