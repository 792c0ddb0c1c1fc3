-- The laws of runs with own glyphs.
use Rattle.std.proofs.Common.{◌≡◌, ℕ, Bool, true, false, cond, ◌&&◌, nat_lt, List, [], ◌∷◌, ◌++◌, length, map, flat_map, option_to_list, refl, sym, ap, ◌∙◌, append_assoc, ℤ, pos, ◌+ℤ◌, Bor}
use Rattle.std.specs.List.{list_all}
use Rattle.std.proofs.lemmas.List.Concat.{flat_map-append}
use lib.IntN.{+ℤ_idr, +ℤ_assoc}
use Rattle.pdf_runs.specs.declared.items.Direction.{Direction}
use Rattle.pdf_runs.specs.declared.items.Item.{Item}
use Rattle.pdf_runs.specs.Clusters.{clusters}
use Rattle.pdf_runs.specs.Items.{in_reading}
use Rattle.pdf_runs.specs.Laws.{Drawn, is_cluster, total, wanted}
use Rattle.pdf_runs.specs.Pieces.{is_bare as is_bare_item}
use Rattle.pdf_runs.proofs.ClusterLaws.{clusters_are_the_run, clusters_begin_once}
use Rattle.pdf_runs.proofs.SpreadLaws.{total_append}
use Rattle.pdf_figures.specs.declared.choice.Choice.{Choice}
use Rattle.pdf_figures.specs.Figures.{Figured, cut_one, divided, figured_cluster, figures, first_share, is_across, plain, x_total, y_total}
use Rattle.pdf_figures.specs.Laws.{FiguresDrawTheRun, PenGoesOn, TextIsKept, shown, texts_of, texts_of_items}
use Rattle.pdf_figures.proofs.Cuts.{both, shown_one, texts_one, x_of, x_one, y_of, y_one}
use Rattle.pdf_figures.proofs.Figures.{shown_append, shown_figures, shown_parts, shown_plain, texts_append, texts_at, texts_figures, texts_plain, total_at, x_figures, x_plain, y_figures, y_plain}

-- ---- a cluster

x_by : (b : Bool) (d : Direction) (c : Choice) (is : List Item) → total x_of (cond b (divided d c is (figures c is)) (map plain is)) ≡ x_total is
x_by true d c is =
    let fs : List Figured = figures c is in
    let share : List ℕ = first_share d (length fs) is in
    total_at x_of (cut_one c share) (x_one c share) (in_reading d (length fs) 0) fs ∙ x_figures c is
x_by false d c is = x_plain is

x_cluster : (d : Direction) (c : Choice) (is : List Item) → total x_of (figured_cluster d c is) ≡ x_total is
x_cluster d c is = x_by (is_across d && nat_lt 0 c.most_parts) d c is

y_by : (b : Bool) (d : Direction) (c : Choice) (is : List Item) → total y_of (cond b (divided d c is (figures c is)) (map plain is)) ≡ y_total is
y_by true d c is =
    let fs : List Figured = figures c is in
    let share : List ℕ = first_share d (length fs) is in
    total_at y_of (cut_one c share) (y_one c share) (in_reading d (length fs) 0) fs ∙ y_figures c is
y_by false d c is = y_plain is

y_cluster : (d : Direction) (c : Choice) (is : List Item) → total y_of (figured_cluster d c is) ≡ y_total is
y_cluster d c is = y_by (is_across d && nat_lt 0 c.most_parts) d c is

texts_by : (b : Bool) (d : Direction) (c : Choice) (is : List Item) → is_cluster is ≡ true → texts_of (cond b (divided d c is (figures c is)) (map plain is)) ≡ texts_of_items is
texts_by true d c is e =
    let fs : List Figured = figures c is in
    let share : List ℕ = first_share d (length fs) is in
    texts_at (cut_one c share) (texts_one c share) (in_reading d (length fs) 0) fs ∙ texts_figures c is e
texts_by false d c is e = texts_plain is

texts_cluster : (d : Direction) (c : Choice) (is : List Item) → is_cluster is ≡ true → texts_of (figured_cluster d c is) ≡ texts_of_items is
texts_cluster d c is e = texts_by (is_across d && nat_lt 0 c.most_parts) d c is e

shown_by : (b : Bool) (d : Direction) (c : Choice) (x y : ℤ) (is : List Item) → shown c.inked.now x y (cond b (divided d c is (figures c is)) (map plain is)) ≡ wanted c.inked.now x y is
shown_by true d c x y is =
    let fs : List Figured = figures c is in
    let share : List ℕ = first_share d (length fs) is in
    shown_parts c.inked.now (cut_one c share) (x_one c share) (y_one c share) (shown_one c share) (in_reading d (length fs) 0) x y fs ∙ shown_figures c x y is
shown_by false d c x y is = shown_plain c.inked.now x y is

shown_cluster : (d : Direction) (c : Choice) (x y : ℤ) (is : List Item) → shown c.inked.now x y (figured_cluster d c is) ≡ wanted c.inked.now x y is
shown_cluster d c x y is = shown_by (is_across d && nat_lt 0 c.most_parts) d c x y is

-- ---- clusters

total_joined : (f : Figured → ℤ) (g : Item → ℤ) (figured : List Item → List Figured) → ((is : List Item) → total f (figured is) ≡ total g is) → (cs : List (List Item))
    → total f (flat_map figured cs) ≡ total g (flat_map (λ (is : List Item). is) cs)
total_joined f g figured same [] = refl
total_joined f g figured same (is ∷ cs) =
    total_append f (figured is) (flat_map figured cs)
    ∙ ap (λ (z : ℤ). z +ℤ total f (flat_map figured cs)) (same is)
    ∙ ap (λ (z : ℤ). total g is +ℤ z) (total_joined f g figured same cs)
    ∙ sym (total_append g is (flat_map (λ (is : List Item). is) cs))

pub pen_goes_on : PenGoesOn
pen_goes_on d c is = (
  total_joined x_of (λ (i : Item). i.x_advance) (figured_cluster d c) (x_cluster d c) (clusters is) ∙ ap x_total (clusters_are_the_run is),
  total_joined y_of (λ (i : Item). i.y_advance) (figured_cluster d c) (y_cluster d c) (clusters is) ∙ ap y_total (clusters_are_the_run is),
)

texts_joined : (d : Direction) (c : Choice) (cs : List (List Item)) → list_all is_cluster cs ≡ true → texts_of (flat_map (figured_cluster d c) cs) ≡ texts_of_items (flat_map (λ (is : List Item). is) cs)
texts_joined d c [] e = refl
texts_joined d c (is ∷ cs) e =
    let two : (is_cluster is ≡ true) × (list_all is_cluster cs ≡ true) = both (is_cluster is) (list_all is_cluster cs) e in
    texts_append (figured_cluster d c is) (flat_map (figured_cluster d c) cs)
    ∙ ap (λ (l : List (Bor (List ℕ))). l ++ texts_of (flat_map (figured_cluster d c) cs)) (texts_cluster d c is two.0)
    ∙ ap (λ (l : List (Bor (List ℕ))). texts_of_items is ++ l) (texts_joined d c cs two.1)
    ∙ sym (flat_map-append (λ (i : Item). option_to_list i.text) is (flat_map (λ (is : List Item). is) cs))

pub text_is_kept : TextIsKept
text_is_kept d c is e = texts_joined d c (clusters is) (clusters_begin_once is e) ∙ ap texts_of_items (clusters_are_the_run is)

wanted_append : (inked : List Bool) (x y : ℤ) (is js : List Item) → wanted inked x y (is ++ js) ≡ wanted inked x y is ++ wanted inked (x +ℤ x_total is) (y +ℤ y_total is) js
wanted_append inked x y [] js = ap (λ (a : ℤ). wanted inked a y js) (sym (+ℤ_idr x)) ∙ ap (λ (b : ℤ). wanted inked (x +ℤ pos 0) b js) (sym (+ℤ_idr y))
wanted_append inked x y (i ∷ is) js =
    let here : List Drawn = cond (is_bare_item inked i) [] (record { glyph = i.glyph; x = x +ℤ i.x_offset; y = y +ℤ i.y_offset } ∷ []) in
    let first : List Drawn = wanted inked (x +ℤ i.x_advance) (y +ℤ i.y_advance) is in
    let xs : ℤ = x_total is in
    let ys : ℤ = y_total is in
    ap (λ (l : List Drawn). here ++ l) (wanted_append inked (x +ℤ i.x_advance) (y +ℤ i.y_advance) is js)
    ∙ ap (λ (a : ℤ). here ++ (first ++ wanted inked a ((y +ℤ i.y_advance) +ℤ ys) js)) (+ℤ_assoc x i.x_advance xs)
    ∙ ap (λ (b : ℤ). here ++ (first ++ wanted inked (x +ℤ (i.x_advance +ℤ xs)) b js)) (+ℤ_assoc y i.y_advance ys)
    ∙ sym (append_assoc here first (wanted inked (x +ℤ (i.x_advance +ℤ xs)) (y +ℤ (i.y_advance +ℤ ys)) js))

shown_joined : (d : Direction) (c : Choice) (x y : ℤ) (cs : List (List Item)) → shown c.inked.now x y (flat_map (figured_cluster d c) cs) ≡ wanted c.inked.now x y (flat_map (λ (is : List Item). is) cs)
shown_joined d c x y [] = refl
shown_joined d c x y (is ∷ cs) =
    let inked : List Bool = c.inked.now in
    let fs : List Figured = figured_cluster d c is in
    let gs : List Figured = flat_map (figured_cluster d c) cs in
    let js : List Item = flat_map (λ (is : List Item). is) cs in
    let here : List Drawn = wanted inked x y is in
    shown_append inked x y fs gs
    ∙ ap (λ (l : List Drawn). l ++ shown inked (x +ℤ total x_of fs) (y +ℤ total y_of fs) gs) (shown_cluster d c x y is)
    ∙ ap (λ (z : ℤ). here ++ shown inked (x +ℤ z) (y +ℤ total y_of fs) gs) (x_cluster d c is)
    ∙ ap (λ (z : ℤ). here ++ shown inked (x +ℤ x_total is) (y +ℤ z) gs) (y_cluster d c is)
    ∙ ap (λ (l : List Drawn). here ++ l) (shown_joined d c (x +ℤ x_total is) (y +ℤ y_total is) cs)
    ∙ sym (wanted_append inked x y is js)

pub figures_draw_the_run : FiguresDrawTheRun
figures_draw_the_run d c x y is = shown_joined d c x y (clusters is) ∙ ap (wanted c.inked.now x y) (clusters_are_the_run is)
