-- The characters of a cluster, shared among its glyphs.
use Rattle.std.proofs.Common.{◌≡◌, ℕ, zero, suc, ◌-◌, ◌<◌, ◌≤◌, min, List, [], ◌∷◌, ◌++◌, length, get_or, take, drop, flat_map, refl, sym, ap, ◌∙◌, take-append-drop, length-drop, arith}
use Rattle.std.proofs.lemmas.List.{take_min, drop_min}
use Rattle.pdf_runs.specs.declared.items.Direction.{Direction}
use Rattle.pdf_runs.specs.Items.{in_reading, visual}
use Rattle.pdf_runs.specs.Shares.{first_count, one_each, shares}
use Rattle.pdf_runs.proofs.Joined.{visual_at}

each_length : (n : ℕ) (cs : List ℕ) → length (one_each n cs) ≡ n
each_length zero cs = refl
each_length (suc n) [] = ap suc (each_length n [])
each_length (suc n) (c ∷ cs) = ap suc (each_length n cs)

-- each glyph has a share
pub shares_length : (n : ℕ) (cs : List ℕ) → length (shares n cs) ≡ n
shares_length zero cs = refl
shares_length (suc n) cs = ap suc (each_length n (drop (first_count (suc n) cs) cs))

each_joined : (n : ℕ) (cs : List ℕ) → length cs ≤ n → flat_map (λ (s : List ℕ). s) (one_each n cs) ≡ cs
each_joined zero [] l = refl
each_joined zero (c ∷ cs) l = absurd (omega arith)
each_joined (suc n) [] l = each_joined n [] (omega arith)
each_joined (suc n) (c ∷ cs) l = ap (λ (s : List ℕ). c ∷ s) (each_joined n cs (omega arith))

-- no character is lost where there is a glyph
pub shares_joined : (n : ℕ) (cs : List ℕ) → flat_map (λ (s : List ℕ). s) (shares (suc n) cs) ≡ cs
shares_joined n cs =
    let first : ℕ = first_count (suc n) cs in
    let few : length (drop first cs) ≤ n = omega (arith, length-drop first cs) in
    ap (λ (l : List ℕ). take first cs ++ l) (each_joined n (drop first cs) few) ∙ take-append-drop first cs

none_left : (k : ℕ) → take {A = ℕ} 1 (drop k []) ≡ []
none_left zero = refl
none_left (suc k) = refl

-- the share at a place after the first
each_at : (n : ℕ) (cs : List ℕ) (k : ℕ) → k < n → get_or (one_each n cs) k [] ≡ take 1 (drop k cs)
each_at zero cs k l = absurd (omega arith)
each_at (suc n) [] zero l = refl
each_at (suc n) [] (suc k) l = each_at n [] k (omega arith) ∙ none_left k
each_at (suc n) (c ∷ cs) zero l = refl
each_at (suc n) (c ∷ cs) (suc k) l = each_at n cs k (omega arith)

share_begun : (count : ℕ) (cs : List ℕ) (first : ℕ) → 0 < count → first ≡ min (first_count count cs) (length cs) → take first cs ≡ get_or (shares count cs) 0 []
share_begun zero cs first l e = absurd (omega arith)
share_begun (suc n) cs first l e = ap (λ (k : ℕ). take k cs) e ∙ take_min (first_count (suc n) cs) cs

-- the share of the first glyph, which takes what there is
pub share_first : (count : ℕ) (cs : List ℕ) (first place : ℕ) → place ≡ 0 → place < count → first ≡ min (first_count count cs) (length cs) → take first cs ≡ get_or (shares count cs) place []
share_first count cs first zero p l e = share_begun count cs first l e
share_first count cs first (suc k) p l e = absurd (omega arith)

-- the share of another
pub share_later : (count : ℕ) (cs : List ℕ) (first place : ℕ) → 0 < place → place < count → first ≡ min (first_count count cs) (length cs) → take 1 (drop (place - 1) (drop first cs)) ≡ get_or (shares count cs) place []
share_later zero cs first place p l e = absurd (omega arith)
share_later (suc n) cs first zero p l e = absurd (omega arith)
share_later (suc n) cs first (suc k) p l e =
    let left : List ℕ = drop (first_count (suc n) cs) cs in
    ap (λ (m : ℕ). take 1 (drop m (drop first cs))) (omega arith)
    ∙ ap (λ (m : ℕ). take 1 (drop k (drop m cs))) e
    ∙ ap (λ (l : List ℕ). take 1 (drop k l)) (drop_min (first_count (suc n) cs) cs)
    ∙ sym (each_at n left k (omega arith))

-- what is seen at a place
pub seen_share : (d : Direction) (count : ℕ) (cs : List ℕ) (place : ℕ) → place < count → get_or (shares count cs) (in_reading d count place) [] ≡ get_or (visual d (shares count cs)) place []
seen_share d count cs place l =
    let all : List (List ℕ) = shares count cs in
    let fit : length all ≡ count = shares_length count cs in
    sym (visual_at d all place [] (omega arith) ∙ ap (λ (k : ℕ). get_or all (in_reading d k place) []) fit)
