-- Lists without repeats: by places, and the sum over some of a list's members.
use Rattle.std.proofs.Common.{◌≡◌, ◌≢◌, ℕ, suc, ◌<◌, ◌≤◌, true, List, [], ◌∷◌, length, get_or, set, Option, Some, None, refl, sym, ap, ◌∙◌, inl, inr, arith}
use Rattle.std.specs.Prelude.{is_some, sum_by}
use Rattle.std.proofs.lemmas.Bool.{cases_lt}
use Rattle.std.proofs.lemmas.List.{get_or_default, get_or_past, get_or-set_other, length-set}
use Rattle.std.proofs.lemmas.List.Sums.{sum_by-cons, sum_by-set}
use Rattle.cid_embed.proofs.AgainLaws.Basics.{one_found}
use Rattle.subsetter_base.proofs.Options.{just}
use Rattle.subsetter_base.specs.Indexes.{index_of, IsWithoutRepeats}
use Rattle.subsetter_base.proofs.GlyphLemmas.{index-finds, Contains-index, length-le_small}

-- equal members are at one place
abbrev pub AreApart : List ℕ → Type 0
AreApart xs = (i j : ℕ) → i < length xs → j < length xs → get_or xs i 0 ≡ get_or xs j 0 → i ≡ j

pub apart : (xs : List ℕ) → IsWithoutRepeats xs → AreApart xs
apart xs once i j li lj same = one_found (index_of xs (get_or xs i 0)) i j (once i li) (ap (index_of xs) same ∙ once j lj)

pub place_at : (xs : List ℕ) (g i : ℕ) → AreApart xs → i < length xs → get_or xs i 0 ≡ g → index_of xs g ≡ Some i
place_at xs g i h li is = by (index_of xs g) refl (Contains-index xs g (i, li, get_or_default xs i g 0 li ∙ is))
  where
    by : (o : Option ℕ) → index_of xs g ≡ o → is_some o ≡ true → index_of xs g ≡ Some i
    by None e some = absurd cc
    by (Some k) e some = let f = index-finds xs g k e in e ∙ ap just (h k i f.0 li (f.1 ∙ sym is))

pub without_repeats : (xs : List ℕ) → AreApart xs → IsWithoutRepeats xs
without_repeats xs h i li = place_at xs (get_or xs i 0) i h li refl

fewer : (x : ℕ) (xs : List ℕ) → AreApart (x ∷ xs) → AreApart xs
fewer x xs h i j li lj same = let e = h (suc i) (suc j) (omega arith) (omega arith) same in omega (arith, e)

-- a sum over members at some places, each once, is at most that over all
pub sum_some : (f : List ℕ → ℕ) (xs zs : List (List ℕ)) (js : List ℕ) → f [] ≡ 0 → length zs ≡ length js → AreApart js → ((i : ℕ) → i < length js → get_or js i 0 < length xs) → ((i : ℕ) → i < length js → f (get_or zs i []) ≡ f (get_or xs (get_or js i 0) [])) → sum_by f zs ≤ sum_by f xs
sum_some f xs [] [] none len h below same = omega arith
sum_some f xs [] (j ∷ js) none len h below same = absurd (omega (arith, len))
sum_some f xs (z ∷ zs) [] none len h below same = absurd (omega (arith, len))
sum_some f xs (z ∷ zs) (j ∷ js) none len h below same =
    let ys = set xs j [] in
    let lj : j < length xs = below 0 (omega arith) in
    let other : (i : ℕ) → i < length js → get_or js i 0 ≢ j = λ i lt e. let z = h (suc i) 0 (omega arith) (omega arith) e in omega (arith, z) in
    let rest = sum_some f ys zs js none (omega (arith, len)) (fewer j js h) (λ i lt. omega (arith, below (suc i) (omega arith), length-set xs j [])) (λ i lt. same (suc i) (omega arith) ∙ ap f (sym (get_or-set_other xs j (get_or js i 0) [] [] (other i lt)))) in
    omega (arith, rest, sum_by-cons f z zs, sum_by-set f xs j [] [] lj, none, same 0 (omega arith))

in_all : (n : ℕ) (xs : List ℕ) → 0 < n → ((i : ℕ) → i < length xs → get_or xs i 0 < n) → (i : ℕ) → get_or xs i 0 < n
in_all n xs some h i = elim (cases_lt i (length xs)) [
  | inl lt ↦ h i lt
  | inr le ↦ omega (arith, some, get_or_past xs i 0 le)
]

-- at most n numbers below n
pub no_more : (n : ℕ) (xs : List ℕ) → IsWithoutRepeats xs → ((i : ℕ) → i < length xs → get_or xs i 0 < n) → length xs ≤ n
no_more n [] once h = omega arith
no_more n (x ∷ xs) once h = length-le_small n (x ∷ xs) once (in_all n (x ∷ xs) (omega (arith, h 0 (omega arith))) h)
