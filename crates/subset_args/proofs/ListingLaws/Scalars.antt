-- The characters of codes in a row.
use Rattle.std.proofs.Common.{◌≡◌, ℕ, ◌+◌, ◌-◌, ◌<◌, Bool, true, false, List, [], ◌∷◌, ◌++◌, filter, refl, sym, ap, ◌∙◌, append_assoc}
use Rattle.std.specs.Prelude.{if◌then◌else◌}
use Rattle.subset_args.specs.Listing.Lists.{counting}
use Rattle.subsetter_base.specs.Texts.{is_scalar}
use Rattle.subset_args.proofs.Counting.{counting_step}

kept : (b : Bool) (x : ℕ) (rest : List ℕ) → (if b then x ∷ rest else rest) ≡ (if b then x ∷ [] else []) ++ rest
kept true x rest = refl
kept false x rest = refl

-- the first code, and those after it
filter_step : (first end : ℕ) → first < end → filter is_scalar (counting first (end - first)) ≡ filter is_scalar (counting first 1) ++ filter is_scalar (counting (first + 1) (end - (first + 1)))
filter_step first end h = ap (filter is_scalar) (counting_step first end h) ∙ kept (is_scalar first) first (filter is_scalar (counting (first + 1) (end - (first + 1))))

-- what is left to add, after one more code
pub after_code : (old new : List ℕ) (code end : ℕ) (total : List ℕ) → code < end → new ≡ old ++ filter is_scalar (counting code 1) → old ++ filter is_scalar (counting code (end - code)) ≡ total → new ++ filter is_scalar (counting (code + 1) (end - (code + 1))) ≡ total
after_code old new code end total h n t =
    let rest = filter is_scalar (counting (code + 1) (end - (code + 1))) in
    ap (λ (v : List ℕ). v ++ rest) n ∙ (append_assoc old (filter is_scalar (counting code 1)) rest ∙ (ap (λ (v : List ℕ). old ++ v) (sym (filter_step code end h)) ∙ t))
