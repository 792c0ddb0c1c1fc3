-- The figures of a cluster.
use Rattle.std.proofs.Common.{◌≡◌, ℕ, zero, suc, Bool, true, false, cond, ◌&&◌, not, List, [], ◌∷◌, ◌++◌, map, get_or, Option, Some, None, option_to_list, refl, sym, ap, ◌∙◌, append_assoc, append-nil, ℤ, pos, ◌+ℤ◌, Bor}
use Rattle.std.specs.Prelude.{is_some}
use Rattle.std.specs.List.{list_all}
use Rattle.std.specs.Ordering.{int_eq}
use Rattle.std.proofs.lemmas.Bool.Decides.{Decides-int_eq}
use Rattle.std.proofs.lemmas.List.{map-append}
use Rattle.std.proofs.lemmas.List.Concat.{flat_map-append}
use lib.IntN.{+ℤ_idr, +ℤ_assoc}
use Rattle.pdf_runs.specs.declared.items.Item.{Item}
use Rattle.pdf_runs.specs.Items.{begins}
use Rattle.pdf_runs.specs.Laws.{Drawn, is_cluster, total, wanted}
use Rattle.pdf_runs.specs.Pieces.{is_bare as is_bare_item}
use Rattle.pdf_runs.proofs.SpreadLaws.{total_append}
use Rattle.pdf_figures.specs.declared.choice.Choice.{Choice}
use Rattle.pdf_figures.specs.Figures.{Figured, aside, at_place, beside, can_be_own, figures, is_aside, is_back, is_whole, is_zeroth, parts_of, plain, set_aside, wants_one, whole, x_total, y_total}
use Rattle.pdf_figures.specs.Laws.{moved_by, shown, shown_at, texts_of, texts_of_items}
use Rattle.pdf_figures.proofs.Cuts.{both, text_in, x_of, y_of}

-- ---- figures one after the other

pub texts_append : (fs gs : List Figured) → texts_of (fs ++ gs) ≡ texts_of fs ++ texts_of gs
texts_append fs gs = flat_map-append (λ (f : Figured). option_to_list f.text) fs gs

pub shown_append : (inked : List Bool) (x y : ℤ) (fs gs : List Figured) → shown inked x y (fs ++ gs) ≡ shown inked x y fs ++ shown inked (x +ℤ total x_of fs) (y +ℤ total y_of fs) gs
shown_append inked x y [] gs = ap (λ (a : ℤ). shown inked a y gs) (sym (+ℤ_idr x)) ∙ ap (λ (b : ℤ). shown inked (x +ℤ pos 0) b gs) (sym (+ℤ_idr y))
shown_append inked x y (f ∷ fs) gs =
    let here : List Drawn = shown_at inked f f.ink (x +ℤ f.x_offset) (y +ℤ f.y_offset) in
    let first : List Drawn = shown inked (x +ℤ f.x_advance) (y +ℤ f.y_advance) fs in
    let xs : ℤ = total x_of fs in
    let ys : ℤ = total y_of fs in
    ap (λ (l : List Drawn). here ++ l) (shown_append inked (x +ℤ f.x_advance) (y +ℤ f.y_advance) fs gs)
    ∙ ap (λ (a : ℤ). here ++ (first ++ shown inked a ((y +ℤ f.y_advance) +ℤ ys) gs)) (+ℤ_assoc x f.x_advance xs)
    ∙ ap (λ (b : ℤ). here ++ (first ++ shown inked (x +ℤ (f.x_advance +ℤ xs)) b gs)) (+ℤ_assoc y f.y_advance ys)
    ∙ sym (append_assoc here first (shown inked (x +ℤ (f.x_advance +ℤ xs)) (y +ℤ (f.y_advance +ℤ ys)) gs))

-- ---- a figure that is put in parts

pub total_at : (h : Figured → ℤ) (g : Figured → List Figured) → ((f : Figured) → total h (g f) ≡ h f) → (k : ℕ) (fs : List Figured) → total h (at_place k g fs) ≡ total h fs
total_at h g same k [] = refl
total_at h g same zero (f ∷ fs) = total_append h (g f) fs ∙ ap (λ (z : ℤ). z +ℤ total h fs) (same f)
total_at h g same (suc k) (f ∷ fs) = ap (λ (z : ℤ). h f +ℤ z) (total_at h g same k fs)

pub texts_at : (g : Figured → List Figured) → ((f : Figured) → texts_of (g f) ≡ option_to_list f.text) → (k : ℕ) (fs : List Figured) → texts_of (at_place k g fs) ≡ texts_of fs
texts_at g same k [] = refl
texts_at g same zero (f ∷ fs) = texts_append (g f) fs ∙ ap (λ (l : List (Bor (List ℕ))). l ++ texts_of fs) (same f)
texts_at g same (suc k) (f ∷ fs) = ap (λ (l : List (Bor (List ℕ))). option_to_list f.text ++ l) (texts_at g same k fs)

pub shown_parts : (inked : List Bool) (g : Figured → List Figured) → ((f : Figured) → total x_of (g f) ≡ f.x_advance) → ((f : Figured) → total y_of (g f) ≡ f.y_advance)
    → ((x y : ℤ) (f : Figured) → shown inked x y (g f) ≡ shown_at inked f f.ink (x +ℤ f.x_offset) (y +ℤ f.y_offset)) → (k : ℕ) (x y : ℤ) (fs : List Figured) → shown inked x y (at_place k g fs) ≡ shown inked x y fs
shown_parts inked g on up same k x y [] = refl
shown_parts inked g on up same zero x y (f ∷ fs) =
    shown_append inked x y (g f) fs
    ∙ ap (λ (l : List Drawn). l ++ shown inked (x +ℤ total x_of (g f)) (y +ℤ total y_of (g f)) fs) (same x y f)
    ∙ ap (λ (z : ℤ). shown_at inked f f.ink (x +ℤ f.x_offset) (y +ℤ f.y_offset) ++ shown inked (x +ℤ z) (y +ℤ total y_of (g f)) fs) (on f)
    ∙ ap (λ (z : ℤ). shown_at inked f f.ink (x +ℤ f.x_offset) (y +ℤ f.y_offset) ++ shown inked (x +ℤ f.x_advance) (y +ℤ z) fs) (up f)
shown_parts inked g on up same (suc k) x y (f ∷ fs) =
    ap (λ (l : List Drawn). shown_at inked f f.ink (x +ℤ f.x_offset) (y +ℤ f.y_offset) ++ l) (shown_parts inked g on up same k (x +ℤ f.x_advance) (y +ℤ f.y_advance) fs)

-- ---- items as they are

pub x_plain : (is : List Item) → total x_of (map plain is) ≡ x_total is
x_plain [] = refl
x_plain (i ∷ is) = ap (λ (z : ℤ). i.x_advance +ℤ z) (x_plain is)

pub y_plain : (is : List Item) → total y_of (map plain is) ≡ y_total is
y_plain [] = refl
y_plain (i ∷ is) = ap (λ (z : ℤ). i.y_advance +ℤ z) (y_plain is)

pub texts_plain : (is : List Item) → texts_of (map plain is) ≡ texts_of_items is
texts_plain [] = refl
texts_plain (i ∷ is) = ap (λ (l : List (Bor (List ℕ))). option_to_list i.text ++ l) (texts_plain is)

pub shown_plain : (inked : List Bool) (x y : ℤ) (is : List Item) → shown inked x y (map plain is) ≡ wanted inked x y is
shown_plain inked x y [] = refl
shown_plain inked x y (i ∷ is) =
    ap (λ (l : List Drawn). cond (is_bare_item inked i) [] (record { glyph = i.glyph; x = x +ℤ i.x_offset; y = y +ℤ i.y_offset } ∷ []) ++ l) (shown_plain inked (x +ℤ i.x_advance) (y +ℤ i.y_advance) is)

-- ---- items that may be set aside

x_aside : (b : Bool) (i : Item) → x_of (cond b (set_aside i) (plain i)) ≡ i.x_advance
x_aside true i = refl
x_aside false i = refl

y_aside : (b : Bool) (i : Item) → y_of (cond b (set_aside i) (plain i)) ≡ i.y_advance
y_aside true i = refl
y_aside false i = refl

texts_aside : (b : Bool) (i : Item) → option_to_list (text_in (cond b (set_aside i) (plain i))) ≡ option_to_list i.text
texts_aside true i = refl
texts_aside false i = refl

x_beside : (c : Choice) (is : List Item) → total x_of (map (beside c) is) ≡ x_total is
x_beside c [] = refl
x_beside c (i ∷ is) = ap (λ (z : ℤ). z +ℤ total x_of (map (beside c) is)) (x_aside (is_aside c i) i) ∙ ap (λ (z : ℤ). i.x_advance +ℤ z) (x_beside c is)

y_beside : (c : Choice) (is : List Item) → total y_of (map (beside c) is) ≡ y_total is
y_beside c [] = refl
y_beside c (i ∷ is) = ap (λ (z : ℤ). z +ℤ total y_of (map (beside c) is)) (y_aside (is_aside c i) i) ∙ ap (λ (z : ℤ). i.y_advance +ℤ z) (y_beside c is)

texts_beside : (c : Choice) (is : List Item) → texts_of (map (beside c) is) ≡ texts_of_items is
texts_beside c [] = refl
texts_beside c (i ∷ is) =
    ap (λ (l : List (Bor (List ℕ))). l ++ texts_of (map (beside c) is)) (texts_aside (is_aside c i) i)
    ∙ ap (λ (l : List (Bor (List ℕ))). option_to_list i.text ++ l) (texts_beside c is)

abbrev drawn_item : List Bool → ℤ → ℤ → Item → List Drawn
drawn_item inked x y i = cond (is_bare_item inked i) [] (record { glyph = i.glyph; x = x +ℤ i.x_offset; y = y +ℤ i.y_offset } ∷ [])

inked_by : (b r s : Bool) (l : List Drawn) → b ≡ true → cond (not b && r && s) [] l ≡ l
inked_by true r s l e = refl
inked_by false r s l e = absurd cc

item_at : (x y dx dy : ℤ) (g : ℕ) → dy ≡ pos 0 → moved_by (x +ℤ pos 0) (y +ℤ pos 0) (record { glyph = g; x = dx; y = pos 0 }) ≡ record { glyph = g; x = x +ℤ dx; y = y +ℤ dy }
item_at x y dx dy g e =
    ap (λ (z : ℤ). record { glyph = g; x = z +ℤ dx; y = (y +ℤ pos 0) +ℤ pos 0 }) (+ℤ_idr x)
    ∙ ap (λ (z : ℤ). record { glyph = g; x = x +ℤ dx; y = z +ℤ pos 0 }) (+ℤ_idr y)
    ∙ ap (λ (z : ℤ). record { glyph = g; x = x +ℤ dx; y = y +ℤ z }) (sym e)

shown_aside : (b : Bool) (c : Choice) (x y : ℤ) (i : Item) → (b ≡ true → (get_or c.inked.now i.glyph true ≡ true) × (i.y_offset ≡ pos 0))
    → shown c.inked.now x y (cond b (set_aside i) (plain i) ∷ []) ≡ drawn_item c.inked.now x y i
shown_aside true c x y i h =
    append-nil (moved_by (x +ℤ pos 0) (y +ℤ pos 0) (record { glyph = i.glyph; x = i.x_offset; y = pos 0 }) ∷ [])
    ∙ ap (λ (p : Drawn). p ∷ []) (item_at x y i.x_offset i.y_offset i.glyph (h refl).1)
    ∙ sym (inked_by (get_or c.inked.now i.glyph true) (int_eq i.x_advance (pos 0)) (int_eq i.y_advance (pos 0)) (record { glyph = i.glyph; x = x +ℤ i.x_offset; y = y +ℤ i.y_offset } ∷ []) (h refl).0)
shown_aside false c x y i h = append-nil (drawn_item c.inked.now x y i)

-- it has ink, and isn't moved up or down
aside_has : (c : Choice) (i : Item) → is_aside c i ≡ true → (get_or c.inked.now i.glyph true ≡ true) × (i.y_offset ≡ pos 0)
aside_has c i e =
    let two : ((not (is_zeroth i) && get_or c.inked.now i.glyph true) ≡ true) × ((int_eq i.y_offset (pos 0) && (is_back c i && can_be_own c (aside i) i.x_advance)) ≡ true) =
    both (not (is_zeroth i) && get_or c.inked.now i.glyph true) (int_eq i.y_offset (pos 0) && (is_back c i && can_be_own c (aside i) i.x_advance)) e
    in
    let level : int_eq i.y_offset (pos 0) ≡ true = (both (int_eq i.y_offset (pos 0)) (is_back c i && can_be_own c (aside i) i.x_advance) two.1).0 in
    ((both (not (is_zeroth i)) (get_or c.inked.now i.glyph true) two.0).1, (Decides-int_eq i.y_offset (pos 0)).0 level)

-- with a figure before others
first_shown : (inked : List Bool) (x y : ℤ) (f : Figured) (fs : List Figured) → shown inked x y (f ∷ fs) ≡ shown inked x y (f ∷ []) ++ shown inked (x +ℤ f.x_advance) (y +ℤ f.y_advance) fs
first_shown inked x y f fs =
    ap (λ (l : List Drawn). l ++ shown inked (x +ℤ f.x_advance) (y +ℤ f.y_advance) fs) (sym (append-nil (shown_at inked f f.ink (x +ℤ f.x_offset) (y +ℤ f.y_offset))))

shown_beside : (c : Choice) (x y : ℤ) (is : List Item) → shown c.inked.now x y (map (beside c) is) ≡ wanted c.inked.now x y is
shown_beside c x y [] = refl
shown_beside c x y (i ∷ is) =
    let fs : List Figured = map (beside c) is in
    first_shown c.inked.now x y (beside c i) fs
    ∙ ap (λ (l : List Drawn). l ++ shown c.inked.now (x +ℤ x_of (beside c i)) (y +ℤ y_of (beside c i)) fs) (shown_aside (is_aside c i) c x y i (aside_has c i))
    ∙ ap (λ (z : ℤ). drawn_item c.inked.now x y i ++ shown c.inked.now (x +ℤ z) (y +ℤ y_of (beside c i)) fs) (x_aside (is_aside c i) i)
    ∙ ap (λ (z : ℤ). drawn_item c.inked.now x y i ++ shown c.inked.now (x +ℤ i.x_advance) (y +ℤ z) fs) (y_aside (is_aside c i) i)
    ∙ ap (λ (l : List Drawn). drawn_item c.inked.now x y i ++ l) (shown_beside c (x +ℤ i.x_advance) (y +ℤ i.y_advance) is)

-- ---- a cluster in one

item_moved : (b : Bool) (x y a d dx dy : ℤ) (g : ℕ)
    → cond b [] (record { glyph = g; x = (x +ℤ a) +ℤ dx; y = (y +ℤ d) +ℤ dy } ∷ []) ≡ map (moved_by x y) (cond b [] (record { glyph = g; x = a +ℤ dx; y = d +ℤ dy } ∷ []))
item_moved true x y a d dx dy g = refl
item_moved false x y a d dx dy g =
    ap (λ (z : ℤ). record { glyph = g; x = z; y = (y +ℤ d) +ℤ dy } ∷ []) (+ℤ_assoc x a dx) ∙ ap (λ (z : ℤ). record { glyph = g; x = x +ℤ (a +ℤ dx); y = z } ∷ []) (+ℤ_assoc y d dy)

-- glyphs from another pen on are moved
wanted_moved : (inked : List Bool) (x y a d : ℤ) (is : List Item) → wanted inked (x +ℤ a) (y +ℤ d) is ≡ map (moved_by x y) (wanted inked a d is)
wanted_moved inked x y a d [] = refl
wanted_moved inked x y a d (i ∷ is) =
    let here : List Drawn = map (moved_by x y) (drawn_item inked a d i) in
    ap (λ (l : List Drawn). l ++ wanted inked ((x +ℤ a) +ℤ i.x_advance) ((y +ℤ d) +ℤ i.y_advance) is) (item_moved (is_bare_item inked i) x y a d i.x_offset i.y_offset i.glyph)
    ∙ ap (λ (z : ℤ). here ++ wanted inked z ((y +ℤ d) +ℤ i.y_advance) is) (+ℤ_assoc x a i.x_advance)
    ∙ ap (λ (z : ℤ). here ++ wanted inked (x +ℤ (a +ℤ i.x_advance)) z is) (+ℤ_assoc y d i.y_advance)
    ∙ ap (λ (l : List Drawn). here ++ l) (wanted_moved inked x y (a +ℤ i.x_advance) (d +ℤ i.y_advance) is)
    ∙ sym (map-append (moved_by x y) (drawn_item inked a d i) (wanted inked (a +ℤ i.x_advance) (d +ℤ i.y_advance) is))

shown_whole : (c : Choice) (x y : ℤ) (is : List Item) → shown c.inked.now x y (whole c is ∷ []) ≡ wanted c.inked.now x y is
shown_whole c x y is =
    append-nil (map (moved_by (x +ℤ pos 0) (y +ℤ pos 0)) (parts_of c is))
    ∙ sym (wanted_moved c.inked.now (x +ℤ pos 0) (y +ℤ pos 0) (pos 0) (pos 0) is)
    ∙ ap (λ (z : ℤ). wanted c.inked.now z ((y +ℤ pos 0) +ℤ pos 0) is) (+ℤ_idr (x +ℤ pos 0) ∙ +ℤ_idr x)
    ∙ ap (λ (z : ℤ). wanted c.inked.now x z is) (+ℤ_idr (y +ℤ pos 0) ∙ +ℤ_idr y)

none_in : (t : Option (Bor (List ℕ))) → not (is_some t) ≡ true → option_to_list t ≡ []
none_in None e = refl
none_in (Some t) e = absurd cc

none_said : (is : List Item) → list_all (λ (i : Item). not (begins i)) is ≡ true → texts_of_items is ≡ []
none_said [] e = refl
none_said (i ∷ is) e =
    let two : (not (begins i) ≡ true) × (list_all (λ (i : Item). not (begins i)) is ≡ true) = both (not (begins i)) (list_all (λ (i : Item). not (begins i)) is) e in
    ap (λ (l : List (Bor (List ℕ))). l ++ texts_of_items is) (none_in i.text two.0) ∙ none_said is two.1

texts_whole : (c : Choice) (is : List Item) → is_cluster is ≡ true → texts_of (whole c is ∷ []) ≡ texts_of_items is
texts_whole c [] e = refl
texts_whole c (i ∷ is) e = ap (λ (l : List (Bor (List ℕ))). option_to_list i.text ++ l) (sym (none_said is (both (begins i) (list_all (λ (i : Item). not (begins i)) is) e).1))

-- ---- one of the three

x_figures_by : (b w : Bool) (c : Choice) (is : List Item) → total x_of (cond b (cond w (whole c is ∷ []) (map plain is)) (map (beside c) is)) ≡ x_total is
x_figures_by true true c is = +ℤ_idr (x_total is)
x_figures_by true false c is = x_plain is
x_figures_by false w c is = x_beside c is

pub x_figures : (c : Choice) (is : List Item) → total x_of (figures c is) ≡ x_total is
x_figures c is = x_figures_by (wants_one is) (is_whole c is) c is

y_figures_by : (b w : Bool) (c : Choice) (is : List Item) → (w ≡ true → y_total is ≡ pos 0) → total y_of (cond b (cond w (whole c is ∷ []) (map plain is)) (map (beside c) is)) ≡ y_total is
y_figures_by true true c is h = sym (h refl)
y_figures_by true false c is h = y_plain is
y_figures_by false w c is h = y_beside c is

whole_level : (c : Choice) (is : List Item) → is_whole c is ≡ true → y_total is ≡ pos 0
whole_level c is e = (Decides-int_eq (y_total is) (pos 0)).0 (both (can_be_own c (parts_of c is) (x_total is)) (int_eq (y_total is) (pos 0)) e).1

pub y_figures : (c : Choice) (is : List Item) → total y_of (figures c is) ≡ y_total is
y_figures c is = y_figures_by (wants_one is) (is_whole c is) c is (whole_level c is)

texts_figures_by : (b w : Bool) (c : Choice) (is : List Item) → is_cluster is ≡ true → texts_of (cond b (cond w (whole c is ∷ []) (map plain is)) (map (beside c) is)) ≡ texts_of_items is
texts_figures_by true true c is e = texts_whole c is e
texts_figures_by true false c is e = texts_plain is
texts_figures_by false w c is e = texts_beside c is

pub texts_figures : (c : Choice) (is : List Item) → is_cluster is ≡ true → texts_of (figures c is) ≡ texts_of_items is
texts_figures c is e = texts_figures_by (wants_one is) (is_whole c is) c is e

shown_figures_by : (b w : Bool) (c : Choice) (x y : ℤ) (is : List Item) → shown c.inked.now x y (cond b (cond w (whole c is ∷ []) (map plain is)) (map (beside c) is)) ≡ wanted c.inked.now x y is
shown_figures_by true true c x y is = shown_whole c x y is
shown_figures_by true false c x y is = shown_plain c.inked.now x y is
shown_figures_by false w c x y is = shown_beside c x y is

pub shown_figures : (c : Choice) (x y : ℤ) (is : List Item) → shown c.inked.now x y (figures c is) ≡ wanted c.inked.now x y is
shown_figures c x y is = shown_figures_by (wants_one is) (is_whole c is) c x y is
