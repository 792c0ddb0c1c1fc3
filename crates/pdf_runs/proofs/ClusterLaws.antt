-- The clusters of a run, from the first on.
use Rattle.std.proofs.Common.{◌≡◌, ℕ, ◌+◌, ◌≤◌, Bool, true, false, cond, not, ◌&&◌, List, [], ◌∷◌, ◌++◌, length, take, drop, flat_map, refl, sym, ap, ◌∙◌, append_assoc, one-add, arith, nat_lt, position, unwrap_or, Some, None, ltb-false, Bor}
use Rattle.std.proofs.lemmas.List.{map-append}
use Rattle.std.proofs.lemmas.List.Sums.{prefix_len-le-length}
use Rattle.std.specs.List.{list_all, position_or_len}
use Rattle.pdf_runs.specs.declared.items.Item.{Item}
use Rattle.pdf_runs.specs.Clusters.{before, clusters, lists}
use Rattle.pdf_runs.specs.Items.{begins, is_begun}
use Rattle.pdf_runs.specs.Laws.{ClustersAreTheRun, ClustersBeginOnce, is_cluster}

-- how many glyphs continue a cluster
abbrev continued : List Item → ℕ
continued is = position_or_len begins is

first_by : (b : Bool) (i j : Item) (is : List Item) → begins j ≡ b → clusters (j ∷ is) ≡ (j ∷ take (continued is) is) ∷ clusters (drop (continued is) is)
    → before i (clusters (j ∷ is)) ≡ (i ∷ take (cond (not b) (1 + continued is) 0) (j ∷ is)) ∷ clusters (drop (cond (not b) (1 + continued is) 0) (j ∷ is))
first_by true i j is e here =
    let c : List Item = j ∷ take (continued is) is in
    let cs : List (List Item) = clusters (drop (continued is) is) in
    ap (before i) here ∙ ap (λ (b : Bool). cond b ((i ∷ []) ∷ c ∷ cs) ((i ∷ c) ∷ cs)) e ∙ ap (λ (l : List (List Item)). (i ∷ []) ∷ l) (sym here)
first_by false i j is e here =
    let c : List Item = j ∷ take (continued is) is in
    let cs : List (List Item) = clusters (drop (continued is) is) in
    ap (before i) here ∙ ap (λ (b : Bool). cond b ((i ∷ []) ∷ c ∷ cs) ((i ∷ c) ∷ cs)) e
    ∙ sym (ap (λ (n : ℕ). (i ∷ take n (j ∷ is)) ∷ clusters (drop n (j ∷ is))) (one-add (continued is)))

-- the first cluster has the first glyph and those that continue it
pub first_cluster : (i : Item) (is : List Item) → clusters (i ∷ is) ≡ (i ∷ take (continued is) is) ∷ clusters (drop (continued is) is)
first_cluster i [] = refl
first_cluster i (j ∷ is) = first_by (begins j) i j is refl (first_cluster j is)

-- with one cluster more, clusters and those of the rest are still all
pub one_more : (so_far new : List (List Item)) (rest : List Item) (n : ℕ) (total : List (List Item)) → 1 ≤ length rest → n ≡ continued (drop 1 rest) → new ≡ so_far ++ (take (1 + n) rest ∷ [])
    → so_far ++ clusters rest ≡ total → new ++ clusters (drop (1 + n) rest) ≡ total
one_more so_far new [] n total l e more h = absurd (omega arith)
one_more so_far new (i ∷ is) n total l e more h =
    let first : List Item = take (1 + n) (i ∷ is) in
    let later : List (List Item) = clusters (drop (1 + n) (i ∷ is)) in
    let here : (m : ℕ) → m ≡ continued is → (take (1 + m) (i ∷ is) ∷ clusters (drop (1 + m) (i ∷ is))) ≡ clusters (i ∷ is) =
    λ m is_m. ap (λ (k : ℕ). take k (i ∷ is) ∷ clusters (drop k (i ∷ is))) (one-add m) ∙ ap (λ (k : ℕ). (i ∷ take k is) ∷ clusters (drop k is)) is_m ∙ sym (first_cluster i is)
    in
    ap (λ (l : List (List Item)). l ++ later) more ∙ append_assoc so_far (first ∷ []) later ∙ ap (λ (l : List (List Item)). so_far ++ l) (here n e) ∙ h

-- ---- the laws

joined_by : (b : Bool) (i : Item) (c : List Item) (cs : List (List Item)) → flat_map (λ (c : List Item). c) (cond b ((i ∷ []) ∷ c ∷ cs) ((i ∷ c) ∷ cs)) ≡ i ∷ flat_map (λ (c : List Item). c) (c ∷ cs)
joined_by true i c cs = refl
joined_by false i c cs = refl

joined_before : (i : Item) (cs : List (List Item)) → flat_map (λ (c : List Item). c) (before i cs) ≡ i ∷ flat_map (λ (c : List Item). c) cs
joined_before i [] = refl
joined_before i (c ∷ cs) = joined_by (is_begun c) i c cs

pub clusters_are_the_run : ClustersAreTheRun
clusters_are_the_run [] = refl
clusters_are_the_run (i ∷ is) = joined_before i (clusters is) ∙ ap (λ (l : List Item). i ∷ l) (clusters_are_the_run is)

-- all but the first glyph of the first cluster are as they are in clusters
abbrev nearly : List (List Item) → Bool
nearly [] = true
nearly ([] ∷ cs) = false
nearly ((i ∷ is) ∷ cs) = list_all (λ (j : Item). not (begins j)) is && list_all is_cluster cs

nearly_by : (b : Bool) (i j : Item) (is : List Item) (cs : List (List Item)) → begins j ≡ b → nearly ((j ∷ is) ∷ cs) ≡ true → nearly (cond b ((i ∷ []) ∷ (j ∷ is) ∷ cs) ((i ∷ j ∷ is) ∷ cs)) ≡ true
nearly_by true i j is cs e h = ap (λ (b : Bool). true && (b && list_all (λ (k : Item). not (begins k)) is && list_all is_cluster cs)) e ∙ h
nearly_by false i j is cs e h = ap (λ (b : Bool). not b && list_all (λ (k : Item). not (begins k)) is && list_all is_cluster cs) e ∙ h

nearly_before : (i : Item) (cs : List (List Item)) → nearly cs ≡ true → nearly (before i cs) ≡ true
nearly_before i [] h = refl
nearly_before i ([] ∷ cs) h = absurd cc
nearly_before i ((j ∷ is) ∷ cs) h = nearly_by (begins j) i j is cs refl h

nearly_clusters : (is : List Item) → nearly (clusters is) ≡ true
nearly_clusters [] = refl
nearly_clusters (i ∷ is) = nearly_before i (clusters is) (nearly_clusters is)

pub clusters_begin_once : ClustersBeginOnce
clusters_begin_once [] e = refl
clusters_begin_once (i ∷ is) e =
    let front : List Item = take (continued is) is in
    let later : List (List Item) = clusters (drop (continued is) is) in
    ap (list_all is_cluster) (first_cluster i is)
    ∙ ap (λ (b : Bool). b && list_all (λ (j : Item). not (begins j)) front && list_all is_cluster later) e
    ∙ sym (ap nearly (first_cluster i is)) ∙ nearly_clusters (i ∷ is)

-- ---- how many glyphs continue a cluster

found_by : (b : Bool) (n m : ℕ) → nat_lt n m ≡ b → n ≤ m → unwrap_or (cond b (Some n) None) m ≡ n
found_by true n m e l = refl
found_by false n m e l = let all : m ≤ n = ltb-false n m e in omega arith

pub found_or_all : {A : Type 0} (p : A → Bool) (xs : List A) → unwrap_or (position p xs) (length xs) ≡ position_or_len p xs
found_or_all p xs = found_by (nat_lt (position_or_len p xs) (length xs)) (position_or_len p xs) (length xs) refl (prefix_len-le-length (λ x. not (p x)) xs)

pub all_within : (is : List Item) (n : ℕ) → n ≡ continued is → n ≤ length is
all_within is n e = let all : continued is ≤ length is = prefix_len-le-length (λ i. not (begins i)) is in omega arith

-- ---- clusters that are borrowed

pub found_more : (found new : List (Bor (List Item))) (cluster : Bor (List Item)) (rest following : List Item) (n : ℕ) (total : List (List Item)) → 1 ≤ length rest → n ≡ 1 + continued (drop 1 rest)
    → cluster.now ≡ take n rest → following ≡ drop n rest → new ≡ found ++ cluster ∷ [] → lists found ++ clusters rest ≡ total → lists new ++ clusters following ≡ total
found_more found new cluster rest following n total l e is later more h =
    let m : ℕ = continued (drop 1 rest) in
    let here : lists new ≡ lists found ++ (take (1 + m) rest ∷ []) =
    ap lists more ∙ map-append (λ (c : Bor (List Item)). c.now) found (cluster ∷ []) ∙ ap (λ (c : List Item). lists found ++ c ∷ []) (is ∙ ap (λ (k : ℕ). take k rest) e)
    in
    ap (λ (l : List Item). lists new ++ clusters l) (later ∙ ap (λ (k : ℕ). drop k rest) e) ∙ one_more (lists found) (lists new) rest m total l refl here h
