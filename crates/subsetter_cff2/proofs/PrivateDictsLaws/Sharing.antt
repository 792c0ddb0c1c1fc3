-- Results of a blend, one after the other.
use Rattle.std.proofs.Common.{◌≡◌, ℕ, ◌+◌, ◌-◌, ◌*◌, ◌<◌, ◌≤◌, ℤ, pos, List, length, get_or, take, drop, Option, Some, None, refl, sym, ap, ◌∙◌, arith}
use Rattle.std.specs.Option.{option_map}
use Rattle.std.proofs.lemmas.List.{drop_more, drop_all, take_rest}
use Rattle.subsetter_blend.specs.Runs.Blend.{share}
use Rattle.subsetter_cff2.specs.PrivateDicts.Blend.{added, varied, held, result_at}
use Rattle.subsetter_cff2.specs.PrivateDicts.Held.{IsBoundedBy}

varied_step : (v : Option ℤ) (ss : List ℤ) (ds : List (Option ℤ)) (k : ℕ) → k < length ss → k < length ds
    → varied v (drop k ss) (drop k ds) ≡ varied (added v (option_map (share (get_or ss k (pos 0))) (get_or ds k None))) (drop (k + 1) ss) (drop (k + 1) ds)
varied_step v ss ds k a b = rw (drop_more ss k (pos 0) a, drop_more ds k None b) refl

pub varied_over : (v : Option ℤ) (ss : List ℤ) (ds : List (Option ℤ)) (k : ℕ) → length ss ≤ k → varied v (drop k ss) ds ≡ v
varied_over v ss ds k h = ap (λ (xs : List ℤ). varied v xs ds) (drop_all k ss h)

-- one share more
pub vary_more : (default value sum delta : Option ℤ) (scalar : ℤ) (ss : List ℤ) (ds : List (Option ℤ)) (k : ℕ) → k < length ss → k < length ds
    → varied value (drop k ss) (drop k ds) ≡ varied default ss ds → scalar ≡ get_or ss k (pos 0) → delta ≡ get_or ds k None → sum ≡ added value (option_map (share scalar) delta)
    → varied sum (drop (k + 1) ss) (drop (k + 1) ds) ≡ varied default ss ds
vary_more default value sum delta scalar ss ds k a b same p q r =
    ap (λ (z : Option ℤ). varied z (drop (k + 1) ss) (drop (k + 1) ds))
    (r ∙ ap (λ (z : ℤ). added value (option_map (share z) delta)) p ∙ ap (λ (o : Option ℤ). added value (option_map (share (get_or ss k (pos 0))) o)) q)
    ∙ sym (varied_step value ss ds k a b)
    ∙ same

-- what is computed of the default numbered i is its result
pub result_is : (ss : List ℤ) (old now ds : List (Option ℤ)) (i count : ℕ) (r : Option ℤ) → count ≡ length ss → get_or now i None ≡ get_or old i None
    → r ≡ varied (get_or now i None) ss (take (length ds - i * count) (drop (i * count) ds)) → held r ≡ result_at ss old ds i
unfolding result_at
result_is ss old now ds i count r n e h =
    ap held
    (h
    ∙ ap (λ (xs : List (Option ℤ)). varied (get_or now i None) ss xs) (take_rest ds (i * count))
    ∙ ap (λ (z : Option ℤ). varied z ss (drop (i * count) ds)) e
    ∙ ap (λ (k : ℕ). varied (get_or old i None) ss (drop (i * k) ds)) n)

-- a greater bound
pub looser : (o : Option ℤ) (j k : ℕ) → j ≤ k → IsBoundedBy j o → IsBoundedBy k o
looser None j k le h = tt
looser (Some z) j k le h = omega (arith, h)
