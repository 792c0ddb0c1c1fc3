-- Figures of a run of known glyphs draw known glyphs, or own ones.
use Rattle.std.proofs.Common.{◌≡◌, ℕ, zero, suc, ◌+◌, ◌-◌, ◌/◌, Bool, true, false, cond, ◌&&◌, nat_lt, List, [], ◌∷◌, ◌++◌, length, map, flat_map, refl, ap, ◌∙◌, arith}
use Rattle.std.specs.List.{list_all}
use Rattle.std.proofs.lemmas.Grind.{common_steps}
use Rattle.pdf_runs.specs.declared.items.Direction.{Direction}
use Rattle.pdf_runs.specs.declared.items.Item.{Item}
use Rattle.pdf_runs.specs.Clusters.{before, clusters}
use Rattle.pdf_runs.specs.Items.{are_known, in_reading, is_begun}
use Rattle.pdf_runs.specs.Marks.{is_mark}
use Rattle.pdf_figures.specs.declared.choice.Choice.{Choice}
use Rattle.pdf_figures.specs.Figures.{Figured, at_place, beside, blank, cut, cut_one, divided, figured_cluster, figured_run, figures, first_share, in_parts, ink_advance, is_across, is_aside, is_divisible, is_whole, part_of, plain, rest_of, set_aside, untitled, wants_one, whole, wide_count}
use Rattle.pdf_figures.specs.Numbers.{is_known}

abbrev all_known : ℕ → List Figured → Bool
all_known n fs = list_all (is_known n) fs

both : (a b : Bool) → a ≡ true → b ≡ true → (a && b) ≡ true
both true true x y = refl
both true false x y = absurd cc
both false b x y = absurd cc

joined : (n : ℕ) (fs gs : List Figured) → all_known n fs ≡ true → all_known n gs ≡ true → all_known n (fs ++ gs) ≡ true
joined n [] gs x y = y
joined n (f ∷ fs) gs x y =
    let here : is_known n f ≡ true = grind (arith, common_steps, x) in
    let rest : all_known n fs ≡ true = grind (arith, common_steps, x) in
    both (is_known n f) (all_known n (fs ++ gs)) here (joined n fs gs rest y)

-- ---- figures that are cut

cut_by : (b : Bool) (n : ℕ) (f : Figured) (w v : ℕ) (cs : List ℕ) → all_known n (cut (untitled f) w cs) ≡ true → all_known n (cut (rest_of f w (wide_count cs)) v cs) ≡ true
    → all_known n (cond b (blank f.text ∷ cut (untitled f) w cs) (part_of f w (wide_count cs) ∷ cut (rest_of f w (wide_count cs)) v cs)) ≡ true
cut_by true n f w v cs x y = x
cut_by false n f w v cs x y = y

cut_known : (n : ℕ) (f : Figured) (w : ℕ) (cs : List ℕ) → all_known n (cut f w cs) ≡ true
cut_known n f w [] = refl
cut_known n f w (c ∷ cs) =
    cut_by (is_mark c) n f w (w - w / (wide_count cs + 1)) cs (cut_known n (untitled f) w cs) (cut_known n (rest_of f w (wide_count cs)) (w - w / (wide_count cs + 1)) cs)

one_by : (b : Bool) (n : ℕ) (fs : List Figured) (f : Figured) → all_known n fs ≡ true → is_known n f ≡ true → all_known n (cond b fs (f ∷ [])) ≡ true
one_by true n fs f x y = x
one_by false n fs f x y = both (is_known n f) true y refl

cut_one_known : (n : ℕ) (c : Choice) (cs : List ℕ) (f : Figured) → is_known n f ≡ true → all_known n (cut_one c cs f) ≡ true
cut_one_known n c cs f h = one_by (nat_lt 1 (wide_count cs) && is_divisible c f) n (cut (in_parts f) (ink_advance c f.ink) cs) f (cut_known n (in_parts f) (ink_advance c f.ink) cs) h

place_known : (n k : ℕ) (c : Choice) (cs : List ℕ) (fs : List Figured) → all_known n fs ≡ true → all_known n (at_place k (cut_one c cs) fs) ≡ true
place_known n k c cs [] h = refl
place_known n zero c cs (f ∷ fs) h =
    let here : is_known n f ≡ true = grind (arith, common_steps, h) in
    let rest : all_known n fs ≡ true = grind (arith, common_steps, h) in
    joined n (cut_one c cs f) fs (cut_one_known n c cs f here) rest
place_known n (suc k) c cs (f ∷ fs) h =
    let here : is_known n f ≡ true = grind (arith, common_steps, h) in
    let rest : all_known n fs ≡ true = grind (arith, common_steps, h) in
    both (is_known n f) (all_known n (at_place k (cut_one c cs) fs)) here (place_known n k c cs fs rest)

-- ---- clusters

plain_known : (n : ℕ) (is : List Item) → are_known n is ≡ true → all_known n (map plain is) ≡ true
plain_known n [] h = refl
plain_known n (i ∷ is) h =
    let here : nat_lt i.glyph n ≡ true = grind (arith, common_steps, h) in
    let rest : are_known n is ≡ true = grind (arith, common_steps, h) in
    both (nat_lt i.glyph n) (all_known n (map plain is)) here (plain_known n is rest)

beside_by : (b : Bool) (n : ℕ) (i : Item) → nat_lt i.glyph n ≡ true → is_known n (cond b (set_aside i) (plain i)) ≡ true
beside_by true n i h = refl
beside_by false n i h = h

beside_known : (n : ℕ) (c : Choice) (is : List Item) → are_known n is ≡ true → all_known n (map (beside c) is) ≡ true
beside_known n c [] h = refl
beside_known n c (i ∷ is) h =
    let here : nat_lt i.glyph n ≡ true = grind (arith, common_steps, h) in
    let rest : are_known n is ≡ true = grind (arith, common_steps, h) in
    both (is_known n (beside c i)) (all_known n (map (beside c) is)) (beside_by (is_aside c i) n i here) (beside_known n c is rest)

figures_by : (a b : Bool) (n : ℕ) (c : Choice) (is : List Item) → are_known n is ≡ true → all_known n (cond a (cond b (whole c is ∷ []) (map plain is)) (map (beside c) is)) ≡ true
figures_by true true n c is h = refl
figures_by true false n c is h = plain_known n is h
figures_by false b n c is h = beside_known n c is h

cluster_by : (b : Bool) (n : ℕ) (d : Direction) (c : Choice) (is : List Item) → are_known n is ≡ true → all_known n (cond b (divided d c is (figures c is)) (map plain is)) ≡ true
cluster_by true n d c is h =
    place_known n (in_reading d (length (figures c is)) 0) c (first_share d (length (figures c is)) is) (figures c is) (figures_by (wants_one is) (is_whole c is) n c is h)
cluster_by false n d c is h = plain_known n is h

cluster_known : (n : ℕ) (d : Direction) (c : Choice) (is : List Item) → are_known n is ≡ true → all_known n (figured_cluster d c is) ≡ true
cluster_known n d c is h = cluster_by (is_across d && nat_lt 0 c.most_parts) n d c is h

all_before_by : (b : Bool) (n : ℕ) (i : Item) (c : List Item) (cs : List (List Item)) → nat_lt i.glyph n ≡ true → list_all (are_known n) (c ∷ cs) ≡ true → list_all (are_known n) (cond b ((i ∷ []) ∷ c ∷ cs) ((i ∷ c) ∷ cs)) ≡ true
all_before_by true n i c cs x h = grind (arith, common_steps, x, h)
all_before_by false n i c cs x h = grind (arith, common_steps, x, h)

all_before : (n : ℕ) (i : Item) (cs : List (List Item)) → nat_lt i.glyph n ≡ true → list_all (are_known n) cs ≡ true → list_all (are_known n) (before i cs) ≡ true
all_before n i [] x h = grind (arith, common_steps, x)
all_before n i (c ∷ cs) x h = all_before_by (is_begun c) n i c cs x h

clusters_known : (n : ℕ) (is : List Item) → are_known n is ≡ true → list_all (are_known n) (clusters is) ≡ true
clusters_known n [] h = refl
clusters_known n (i ∷ is) h =
    let here : nat_lt i.glyph n ≡ true = grind (arith, common_steps, h) in
    let rest : are_known n is ≡ true = grind (arith, common_steps, h) in
    all_before n i (clusters is) here (clusters_known n is rest)

each_known : (n : ℕ) (d : Direction) (c : Choice) (cs : List (List Item)) → list_all (are_known n) cs ≡ true → all_known n (flat_map (figured_cluster d c) cs) ≡ true
each_known n d c [] h = refl
each_known n d c (is ∷ cs) h =
    let here : are_known n is ≡ true = grind (arith, common_steps, h) in
    let rest : list_all (are_known n) cs ≡ true = grind (arith, common_steps, h) in
    joined n (figured_cluster d c is) (flat_map (figured_cluster d c) cs) (cluster_known n d c is here) (each_known n d c cs rest)

pub run_known : (n : ℕ) (d : Direction) (c : Choice) (is : List Item) → are_known n is ≡ true → list_all (is_known n) (figured_run d c is) ≡ true
run_known n d c is h = each_known n d c (clusters is) (clusters_known n is h)

pub figures_known : (n : ℕ) (d : Direction) (c : Choice) (is : List Item) (fs : List Figured) → fs ≡ figured_run d c is → are_known n is ≡ true → list_all (is_known n) fs ≡ true
figures_known n d c is fs same h = ap (list_all (is_known n)) same ∙ run_known n d c is h
