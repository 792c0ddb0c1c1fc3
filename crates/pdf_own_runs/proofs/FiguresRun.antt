-- Items that are the figures of a run are a run too.
use Rattle.std.proofs.Common.{◌≡◌, ℕ, zero, suc, ◌+◌, ◌-◌, ◌/◌, Bool, true, false, cond, ◌&&◌, nat_lt, List, [], ◌∷◌, ◌++◌, length, map, flat_map, refl, sym, ap, ◌∙◌, arith, pos}
use Rattle.std.specs.Prelude.{is_some}
use Rattle.std.specs.List.{list_all}
use Rattle.std.specs.Ordering.{int_eq}
use Rattle.std.proofs.lemmas.Grind.{common_steps}
use Rattle.pdf_runs.specs.declared.items.Direction.{Direction}
use Rattle.pdf_runs.specs.declared.items.Direction.TheVariants.{LeftToRight, RightToLeft, TopToBottom}
use Rattle.pdf_runs.specs.declared.items.Item.{Item}
use Rattle.pdf_runs.specs.Clusters.{before, clusters}
use Rattle.pdf_runs.specs.Items.{are_along, are_known, in_reading, is_begun, is_run}
use Rattle.pdf_runs.specs.Marks.{is_mark}
use Rattle.pdf_figures.specs.declared.choice.Choice.{Choice}
use Rattle.pdf_figures.specs.declared.ink.OwnInk.{OwnInk}
use Rattle.pdf_figures.specs.Figures.{Figured, Ink, at_place, beside, blank, cut, cut_one, divided, figured_cluster, figured_run, figures, first_share, in_parts, ink_advance, is_across, is_aside, is_divisible, is_whole, part_of, plain, rest_of, set_aside, untitled, wants_one, whole, wide_count}
use Rattle.pdf_figures.specs.Numbers.{figured_by}
use Rattle.pdf_figures.specs.View.{inks_of}
use Rattle.pdf_own_runs.specs.Shown.{AreFigures}

-- ---- the first has a text

abbrev opens : List Figured → Bool
opens [] = false
opens (f ∷ fs) = is_some f.text

opens_before : (fs gs : List Figured) → opens fs ≡ true → opens (fs ++ gs) ≡ true
opens_before [] gs h = absurd cc
opens_before (f ∷ fs) gs h = h

cut_opens_by : (b : Bool) (f : Figured) (w v : ℕ) (cs : List ℕ) → is_some f.text ≡ true → opens (cond b (blank f.text ∷ cut (untitled f) w cs) (part_of f w (wide_count cs) ∷ cut (rest_of f w (wide_count cs)) v cs)) ≡ true
cut_opens_by true f w v cs h = h
cut_opens_by false f w v cs h = h

one_opens_by : (b : Bool) (f : Figured) (w x : ℕ) (cs : List ℕ) → is_some f.text ≡ true → opens (cond b (cut (in_parts f) w (x ∷ cs)) (f ∷ [])) ≡ true
one_opens_by true f w x cs h = cut_opens_by (is_mark x) (in_parts f) w (w - w / (wide_count cs + 1)) cs h
one_opens_by false f w x cs h = h

one_opens : (c : Choice) (cs : List ℕ) (f : Figured) → is_some f.text ≡ true → opens (cut_one c cs f) ≡ true
one_opens c [] f h = h
one_opens c (x ∷ cs) f h = one_opens_by (nat_lt 1 (wide_count (x ∷ cs)) && is_divisible c f) f (ink_advance c f.ink) x cs h

place_opens : (k : ℕ) (c : Choice) (cs : List ℕ) (fs : List Figured) → opens fs ≡ true → opens (at_place k (cut_one c cs) fs) ≡ true
place_opens k c cs [] h = absurd cc
place_opens zero c cs (f ∷ fs) h = opens_before (cut_one c cs f) fs (one_opens c cs f h)
place_opens (suc k) c cs (f ∷ fs) h = h

beside_opens : (b : Bool) (i : Item) (fs : List Figured) → is_some i.text ≡ true → opens (cond b (set_aside i) (plain i) ∷ fs) ≡ true
beside_opens true i fs h = h
beside_opens false i fs h = h

figures_opens : (a b : Bool) (c : Choice) (i : Item) (is : List Item) → is_some i.text ≡ true → opens (cond a (cond b (whole c (i ∷ is) ∷ []) (map plain (i ∷ is))) (map (beside c) (i ∷ is))) ≡ true
figures_opens true true c i is h = h
figures_opens true false c i is h = h
figures_opens false b c i is h = beside_opens (is_aside c i) i (map (beside c) is) h

cluster_opens_by : (b : Bool) (d : Direction) (c : Choice) (i : Item) (is : List Item) → is_some i.text ≡ true → opens (cond b (divided d c (i ∷ is) (figures c (i ∷ is))) (map plain (i ∷ is))) ≡ true
cluster_opens_by true d c i is h =
    place_opens (in_reading d (length (figures c (i ∷ is))) 0) c (first_share d (length (figures c (i ∷ is))) (i ∷ is)) (figures c (i ∷ is)) (figures_opens (wants_one (i ∷ is)) (is_whole c (i ∷ is)) c i is h)
cluster_opens_by false d c i is h = h

cluster_opens : (d : Direction) (c : Choice) (i : Item) (is : List Item) → is_some i.text ≡ true → opens (figured_cluster d c (i ∷ is)) ≡ true
cluster_opens d c i is h = cluster_opens_by (is_across d && nat_lt 0 c.most_parts) d c i is h

before_opens_by : (b : Bool) (d : Direction) (c : Choice) (i : Item) (g : List Item) (gs : List (List Item)) → is_some i.text ≡ true → opens (flat_map (figured_cluster d c) (cond b ((i ∷ []) ∷ g ∷ gs) ((i ∷ g) ∷ gs))) ≡ true
before_opens_by true d c i g gs h = opens_before (figured_cluster d c (i ∷ [])) (flat_map (figured_cluster d c) (g ∷ gs)) (cluster_opens d c i [] h)
before_opens_by false d c i g gs h = opens_before (figured_cluster d c (i ∷ g)) (flat_map (figured_cluster d c) gs) (cluster_opens d c i g h)

before_opens : (d : Direction) (c : Choice) (i : Item) (gs : List (List Item)) → is_some i.text ≡ true → opens (flat_map (figured_cluster d c) (before i gs)) ≡ true
before_opens d c i [] h = opens_before (figured_cluster d c (i ∷ [])) [] (cluster_opens d c i [] h)
before_opens d c i (g ∷ gs) h = before_opens_by (is_begun g) d c i g gs h

begun_items : (d : Direction) (c : Choice) (count : ℕ) (inks : List Ink) (is js : List Item) → is_begun is ≡ true → map (figured_by count inks) js ≡ figured_run d c is → is_begun js ≡ true
begun_items d c count inks is [] h e = refl
begun_items d c count inks [] (j ∷ js) h e = absurd cc
begun_items d c count inks (i ∷ is) (j ∷ js) h e = ap opens e ∙ before_opens d c i (clusters is) h

-- ---- the pen goes on along the line

abbrev is_level : Figured → Bool
is_level f = int_eq f.y_advance (pos 0)

abbrev are_level : List Figured → Bool
are_level fs = list_all is_level fs

both : (a b : Bool) → a ≡ true → b ≡ true → (a && b) ≡ true
both true true x y = refl
both true false x y = absurd cc
both false b x y = absurd cc

joined_level : (fs gs : List Figured) → are_level fs ≡ true → are_level gs ≡ true → are_level (fs ++ gs) ≡ true
joined_level [] gs x y = y
joined_level (f ∷ fs) gs x y =
    let here : is_level f ≡ true = grind (arith, common_steps, x) in
    let rest : are_level fs ≡ true = grind (arith, common_steps, x) in
    both (is_level f) (are_level (fs ++ gs)) here (joined_level fs gs rest y)

cut_level_by : (b : Bool) (f : Figured) (w v : ℕ) (cs : List ℕ) → is_level f ≡ true → are_level (cut (untitled f) w cs) ≡ true → are_level (cut (rest_of f w (wide_count cs)) v cs) ≡ true
    → are_level (cond b (blank f.text ∷ cut (untitled f) w cs) (part_of f w (wide_count cs) ∷ cut (rest_of f w (wide_count cs)) v cs)) ≡ true
cut_level_by true f w v cs h x y = x
cut_level_by false f w v cs h x y = both (is_level f) (are_level (cut (rest_of f w (wide_count cs)) v cs)) h y

cut_level : (f : Figured) (w : ℕ) (cs : List ℕ) → is_level f ≡ true → are_level (cut f w cs) ≡ true
cut_level f w [] h = refl
cut_level f w (x ∷ cs) h =
    cut_level_by (is_mark x) f w (w - w / (wide_count cs + 1)) cs h (cut_level (untitled f) w cs h) (cut_level (rest_of f w (wide_count cs)) (w - w / (wide_count cs + 1)) cs refl)

one_level_by : (b : Bool) (fs : List Figured) (f : Figured) → are_level fs ≡ true → is_level f ≡ true → are_level (cond b fs (f ∷ [])) ≡ true
one_level_by true fs f x y = x
one_level_by false fs f x y = both (is_level f) true y refl

one_level : (c : Choice) (cs : List ℕ) (f : Figured) → is_level f ≡ true → are_level (cut_one c cs f) ≡ true
one_level c cs f h = one_level_by (nat_lt 1 (wide_count cs) && is_divisible c f) (cut (in_parts f) (ink_advance c f.ink) cs) f (cut_level (in_parts f) (ink_advance c f.ink) cs h) h

place_level : (k : ℕ) (c : Choice) (cs : List ℕ) (fs : List Figured) → are_level fs ≡ true → are_level (at_place k (cut_one c cs) fs) ≡ true
place_level k c cs [] h = refl
place_level zero c cs (f ∷ fs) h =
    let here : is_level f ≡ true = grind (arith, common_steps, h) in
    let rest : are_level fs ≡ true = grind (arith, common_steps, h) in
    joined_level (cut_one c cs f) fs (one_level c cs f here) rest
place_level (suc k) c cs (f ∷ fs) h =
    let here : is_level f ≡ true = grind (arith, common_steps, h) in
    let rest : are_level fs ≡ true = grind (arith, common_steps, h) in
    both (is_level f) (are_level (at_place k (cut_one c cs) fs)) here (place_level k c cs fs rest)

abbrev flat : List Item → Bool
flat is = list_all (λ (i : Item). int_eq i.y_advance (pos 0)) is

plain_level : (is : List Item) → flat is ≡ true → are_level (map plain is) ≡ true
plain_level [] h = refl
plain_level (i ∷ is) h =
    let here : int_eq i.y_advance (pos 0) ≡ true = grind (arith, common_steps, h) in
    let rest : flat is ≡ true = grind (arith, common_steps, h) in
    both (int_eq i.y_advance (pos 0)) (are_level (map plain is)) here (plain_level is rest)

aside_level : (b : Bool) (i : Item) → int_eq i.y_advance (pos 0) ≡ true → is_level (cond b (set_aside i) (plain i)) ≡ true
aside_level true i h = h
aside_level false i h = h

beside_level : (c : Choice) (is : List Item) → flat is ≡ true → are_level (map (beside c) is) ≡ true
beside_level c [] h = refl
beside_level c (i ∷ is) h =
    let here : int_eq i.y_advance (pos 0) ≡ true = grind (arith, common_steps, h) in
    let rest : flat is ≡ true = grind (arith, common_steps, h) in
    both (is_level (beside c i)) (are_level (map (beside c) is)) (aside_level (is_aside c i) i here) (beside_level c is rest)

figures_level : (a b : Bool) (c : Choice) (is : List Item) → flat is ≡ true → are_level (cond a (cond b (whole c is ∷ []) (map plain is)) (map (beside c) is)) ≡ true
figures_level true true c is h = refl
figures_level true false c is h = plain_level is h
figures_level false b c is h = beside_level c is h

cluster_level_by : (b : Bool) (d : Direction) (c : Choice) (is : List Item) → flat is ≡ true → are_level (cond b (divided d c is (figures c is)) (map plain is)) ≡ true
cluster_level_by true d c is h = place_level (in_reading d (length (figures c is)) 0) c (first_share d (length (figures c is)) is) (figures c is) (figures_level (wants_one is) (is_whole c is) c is h)
cluster_level_by false d c is h = plain_level is h

cluster_level : (d : Direction) (c : Choice) (is : List Item) → flat is ≡ true → are_level (figured_cluster d c is) ≡ true
cluster_level d c is h = cluster_level_by (is_across d && nat_lt 0 c.most_parts) d c is h

-- ---- in clusters

module _ (p : Item → Bool) where
  before_all_by : (b : Bool) (i : Item) (g : List Item) (gs : List (List Item)) → p i ≡ true → list_all (list_all p) (g ∷ gs) ≡ true → list_all (list_all p) (cond b ((i ∷ []) ∷ g ∷ gs) ((i ∷ g) ∷ gs)) ≡ true
  before_all_by true i g gs x h = grind (arith, common_steps, x, h)
  before_all_by false i g gs x h = grind (arith, common_steps, x, h)

  before_all : (i : Item) (gs : List (List Item)) → p i ≡ true → list_all (list_all p) gs ≡ true → list_all (list_all p) (before i gs) ≡ true
  before_all i [] x h = grind (arith, common_steps, x)
  before_all i (g ∷ gs) x h = before_all_by (is_begun g) i g gs x h

  in_clusters : (is : List Item) → list_all p is ≡ true → list_all (list_all p) (clusters is) ≡ true
  in_clusters [] h = refl
  in_clusters (i ∷ is) h =
      let here : p i ≡ true = grind (arith, common_steps, h) in
      let rest : list_all p is ≡ true = grind (arith, common_steps, h) in
      before_all i (clusters is) here (in_clusters is rest)

each_level : (d : Direction) (c : Choice) (gs : List (List Item)) → list_all flat gs ≡ true → are_level (flat_map (figured_cluster d c) gs) ≡ true
each_level d c [] h = refl
each_level d c (g ∷ gs) h =
    let here : flat g ≡ true = grind (arith, common_steps, h) in
    let rest : list_all flat gs ≡ true = grind (arith, common_steps, h) in
    joined_level (figured_cluster d c g) (flat_map (figured_cluster d c) gs) (cluster_level d c g here) (each_level d c gs rest)

level_items : (count : ℕ) (inks : List Ink) (js : List Item) → are_level (map (figured_by count inks) js) ≡ flat js
level_items count inks [] = refl
level_items count inks (j ∷ js) = ap (λ (b : Bool). int_eq j.y_advance (pos 0) && b) (level_items count inks js)

flat_items : (d : Direction) (c : Choice) (count : ℕ) (inks : List Ink) (is js : List Item) → flat is ≡ true → map (figured_by count inks) js ≡ figured_run d c is → flat js ≡ true
flat_items d c count inks is js h e = sym (level_items count inks js) ∙ ap are_level e ∙ each_level d c (clusters is) (in_clusters (λ (i : Item). int_eq i.y_advance (pos 0)) is h)

-- ---- from top to bottom

abbrev upright : List Item → Bool
upright is = list_all (λ (i : Item). int_eq i.x_advance (pos 0)) is

abbrev are_upright : List Figured → Bool
are_upright fs = list_all (λ (f : Figured). int_eq f.x_advance (pos 0)) fs

plain_upright : (is : List Item) (fs : List Figured) → upright is ≡ true → are_upright fs ≡ true → are_upright (map plain is ++ fs) ≡ true
plain_upright [] fs h x = x
plain_upright (i ∷ is) fs h x =
    let here : int_eq i.x_advance (pos 0) ≡ true = grind (arith, common_steps, h) in
    let rest : upright is ≡ true = grind (arith, common_steps, h) in
    both (int_eq i.x_advance (pos 0)) (are_upright (map plain is ++ fs)) here (plain_upright is fs rest x)

each_upright : (c : Choice) (gs : List (List Item)) → list_all upright gs ≡ true → are_upright (flat_map (figured_cluster TopToBottom c) gs) ≡ true
each_upright c [] h = refl
each_upright c (g ∷ gs) h =
    let here : upright g ≡ true = grind (arith, common_steps, h) in
    let rest : list_all upright gs ≡ true = grind (arith, common_steps, h) in
    plain_upright g (flat_map (figured_cluster TopToBottom c) gs) here (each_upright c gs rest)

upright_by : (count : ℕ) (inks : List Ink) (js : List Item) → are_upright (map (figured_by count inks) js) ≡ upright js
upright_by count inks [] = refl
upright_by count inks (j ∷ js) = ap (λ (b : Bool). int_eq j.x_advance (pos 0) && b) (upright_by count inks js)

upright_items : (c : Choice) (count : ℕ) (inks : List Ink) (is js : List Item) → upright is ≡ true → map (figured_by count inks) js ≡ figured_run TopToBottom c is → upright js ≡ true
upright_items c count inks is js h e = sym (upright_by count inks js) ∙ ap are_upright e ∙ each_upright c (clusters is) (in_clusters (λ (i : Item). int_eq i.x_advance (pos 0)) is h)

-- ---- all

along_items : (d : Direction) (c : Choice) (count : ℕ) (inks : List Ink) (is js : List Item) → are_along d is ≡ true → map (figured_by count inks) js ≡ figured_run d c is → are_along d js ≡ true
along_items LeftToRight c count inks is js h e = flat_items LeftToRight c count inks is js h e
along_items RightToLeft c count inks is js h e = flat_items RightToLeft c count inks is js h e
along_items TopToBottom c count inks is js h e = upright_items c count inks is js h e

three : (a b c : Bool) → a ≡ true → b ≡ true → c ≡ true → (a && b && c) ≡ true
three a b c x y z = rw (x, y, z) refl

of_three : (a b c : Bool) → (a && b && c) ≡ true → (a ≡ true) × (c ≡ true)
of_three true true true h = (refl, refl)
of_three true true false h = absurd cc
of_three true false c h = absurd cc
of_three false b c h = absurd cc

pub figured_is_run : (d : Direction) (c : Choice) (count : ℕ) (os : List OwnInk) (is js : List Item) → is_run d count is ≡ true → map (figured_by count (inks_of os)) js ≡ figured_run d c is → are_known (count + length os) js ≡ true → is_run d (count + length os) js ≡ true
figured_is_run d c count os is js run e known =
    let (begun, along) = of_three (is_begun is) (are_known count is) (are_along d is) run in
    three (is_begun js) (are_known (count + length os) js) (are_along d js) (begun_items d c count (inks_of os) is js begun e) known (along_items d c count (inks_of os) is js along e)

pub are_figures : (d : Direction) (c : Choice) (count : ℕ) (os : List OwnInk) (is js : List Item) → map (figured_by count (inks_of os)) js ≡ figured_run d c is → is_run d count is ≡ true → are_known (count + length os) js ≡ true → AreFigures count c os d is js
are_figures d c count os is js e run known = record { figures = e; run = figured_is_run d c count os is js run e known }
