-- Which string a search gives.
use Rattle.std.proofs.Common.{◌≡◌, ℕ, zero, suc, ◌+◌, ◌*◌, ◌<◌, List, Option, Some, None, refl, ap, ◌∙◌, arith}
use Rattle.std.specs.Option.{option_or}
use Rattle.pdf_values.specs.Name.{string_at, string_from, IsFirstString, FirstIsTaken, NoneIsPassed}
use Rattle.pdf_values.specs.declared.naming.Kind.{Kind}

module _ (kind : Kind) (id : ℕ) (name : List ℕ) (storage : ℕ) where
  here : (at : ℕ) → at + 12 * 0 ≡ at
  here at = omega arith

  further : (at j : ℕ) → at + 12 * suc j ≡ at + 12 + 12 * j
  further at j = omega arith

  -- the first of the records is passed over
  none_before : (at place : ℕ) → string_at kind id name storage at ≡ None → ((j : ℕ) → j < place → string_at kind id name storage (at + 12 + 12 * j) ≡ None) → (j : ℕ) → j < suc place → string_at kind id name storage (at + 12 * j) ≡ None
  none_before at place e before zero l = ap (string_at kind id name storage) (here at) ∙ e
  none_before at place e before (suc j) l = ap (string_at kind id name storage) (further at j) ∙ before j (omega arith)

  one_further : (n at : ℕ) (string : List ℕ) → string_at kind id name storage at ≡ None → IsFirstString kind id name storage n (at + 12) string → IsFirstString kind id name storage (suc n) at string
  one_further n at string e f = record {
    index = suc f.index;
    inside = let l = f.inside in omega arith;
    stands = ap (string_at kind id name storage) (further at f.index) ∙ f.stands;
    before = none_before at f.index e f.before;
  }

  at_once : (n at : ℕ) (string : List ℕ) → string_at kind id name storage at ≡ Some string → IsFirstString kind id name storage (suc n) at string
  at_once n at string e = record {
    index = 0;
    inside = omega arith;
    stands = ap (string_at kind id name storage) (here at) ∙ e;
    before = λ j l. absurd (omega arith);
  }

  -- by what the first record has
  by_first : (n at : ℕ) (string : List ℕ) (found : Option (List ℕ)) → string_at kind id name storage at ≡ found → option_or found (string_from kind id name storage n (at + 12)) ≡ Some string → (string_from kind id name storage n (at + 12) ≡ Some string → IsFirstString kind id name storage n (at + 12) string) → IsFirstString kind id name storage (suc n) at string
  by_first n at string None e h further_on = one_further n at string e (further_on h)
  by_first n at string (Some other) e h further_on = at_once n at string (e ∙ h)

  pub first : (n at : ℕ) (string : List ℕ) → string_from kind id name storage n at ≡ Some string → IsFirstString kind id name storage n at string
  unfolding string_from
  first zero at string h = absurd cc
  first (suc n) at string h = by_first n at string (string_at kind id name storage at) refl h (first n (at + 12) string)

  none_by_first : (n at : ℕ) (found : Option (List ℕ)) → string_at kind id name storage at ≡ found → option_or found (string_from kind id name storage n (at + 12)) ≡ None → (string_from kind id name storage n (at + 12) ≡ None → (j : ℕ) → j < n → string_at kind id name storage (at + 12 + 12 * j) ≡ None) → (j : ℕ) → j < suc n → string_at kind id name storage (at + 12 * j) ≡ None
  none_by_first n at None e h further_on = none_before at n e (further_on h)
  none_by_first n at (Some other) e h further_on = absurd cc

  pub none : (n at : ℕ) → string_from kind id name storage n at ≡ None → (j : ℕ) → j < n → string_at kind id name storage (at + 12 * j) ≡ None
  unfolding string_from
  none zero at h j l = absurd (omega arith)
  none (suc n) at h j l = none_by_first n at (string_at kind id name storage at) refl h (none n (at + 12)) j l

pub first_is_taken : FirstIsTaken
first_is_taken kind id name storage n at string h = first kind id name storage n at string h

pub none_is_passed : NoneIsPassed
none_is_passed kind id name storage n at h = none kind id name storage n at h
