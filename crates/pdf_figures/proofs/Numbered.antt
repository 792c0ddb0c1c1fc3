-- The laws of runs for items by number.
use Rattle.std.proofs.Common.{◌≡◌, ℕ, ◌+◌, ◌-◌, ◌≤◌, Bool, true, false, cond, ◌&&◌, not, nat_lt, List, [], ◌∷◌, ◌++◌, map, get_or, flat_map, Option, Some, None, option_to_list, refl, sym, ap, ◌∙◌, append-nil, arith, ltb-true, ltb-false, ℤ, pos, ◌+ℤ◌, Bor}
use Rattle.std.specs.Prelude.{is_some}
use Rattle.std.specs.Ordering.{int_eq}
use Rattle.std.proofs.lemmas.List.Concat.{flat_map-append}
use Rattle.pdf_runs.specs.declared.items.Direction.{Direction}
use Rattle.pdf_runs.specs.declared.items.Item.{Item}
use Rattle.pdf_runs.specs.Clusters.{before, clusters}
use Rattle.pdf_runs.specs.Items.{is_begun, text_in, text_of}
use Rattle.pdf_runs.specs.Laws.{Drawn, total, wanted}
use Rattle.pdf_runs.specs.Pieces.{is_bare as is_bare_item}
use Rattle.pdf_figures.specs.declared.choice.Choice.{Choice}
use Rattle.pdf_figures.specs.Figures.{Figured, Ink, figured_run, glyph, ink_parts, own, x_total, y_total}
use Rattle.pdf_figures.specs.Laws.{IsInked, ItemsDrawTheRun, ItemsSayTheRun, expanded, moved_by, parts_at, shown, shown_at, texts_of, texts_of_items}
use Rattle.pdf_figures.specs.Numbers.{as_own, figured_by, ink_by, own_by}
use Rattle.pdf_figures.proofs.Cuts.{both, opposite, x_of, y_of}
use Rattle.pdf_figures.proofs.Runs.{figures_draw_the_run, pen_goes_on, text_is_kept}

-- ---- what is drawn

abbrev at_pen : ℤ → ℤ → Item → Drawn
at_pen x y i = record { glyph = i.glyph; x = x +ℤ i.x_offset; y = y +ℤ i.y_offset }

same_by : (b : Bool) (p : Drawn) → flat_map (λ (q : Drawn). parts_at (glyph p.glyph) q.x q.y) (cond b [] (p ∷ [])) ≡ cond b [] (p ∷ [])
same_by true p = refl
same_by false p = refl

inkless_by : (i : Ink) (f : Figured) (inked : List Bool) (x y : ℤ) → ink_parts (as_own i) ≡ [] → [] ≡ shown_at inked f (as_own i) x y
inkless_by (glyph g) f inked x y e = refl
inkless_by (own ps a) f inked x y e = sym (ap (map (moved_by x y)) e)

parts_by : (i : Ink) (f : Figured) (inked : List Bool) (x y : ℤ) → parts_at (as_own i) x y ++ [] ≡ shown_at inked f (as_own i) x y
parts_by (glyph g) f inked x y = refl
parts_by (own ps a) f inked x y = append-nil (map (moved_by x y) ps)

own_item : (b : Bool) (i : Ink) (f : Figured) (inked : List Bool) (p : Drawn) → (b ≡ true → ink_parts (as_own i) ≡ []) → flat_map (λ (q : Drawn). parts_at (as_own i) q.x q.y) (cond b [] (p ∷ [])) ≡ shown_at inked f (as_own i) p.x p.y
own_item true i f inked p h = inkless_by i f inked p.x p.y (h refl)
own_item false i f inked p h = parts_by i f inked p.x p.y

bare_not_inked : (all : List Bool) (i : Item) → is_bare_item all i ≡ true → get_or all i.glyph true ≡ false
bare_not_inked all i e =
    opposite (get_or all i.glyph true)
    (both (not (get_or all i.glyph true)) (int_eq i.x_advance (pos 0)) (both (not (get_or all i.glyph true) && int_eq i.x_advance (pos 0)) (int_eq i.y_advance (pos 0)) e).0).0

item_by : (b : Bool) (count : ℕ) (inks : List Ink) (inked all : List Bool) (x y : ℤ) (i : Item) → IsInked count inks inked all → nat_lt i.glyph count ≡ b
    → flat_map (λ (q : Drawn). parts_at (cond b (glyph i.glyph) (own_by inks (i.glyph - count))) q.x q.y) (cond (is_bare_item all i) [] (at_pen x y i ∷ []))
    ≡ shown_at inked (figured_by count inks i) (cond b (glyph i.glyph) (own_by inks (i.glyph - count))) (x +ℤ i.x_offset) (y +ℤ i.y_offset)
item_by true count inks inked all x y i h e =
    let same : get_or all i.glyph true ≡ get_or inked i.glyph true = h.font i.glyph (ltb-true i.glyph count e) in
    same_by (is_bare_item all i) (at_pen x y i) ∙ ap (λ (t : Bool). cond (not t && int_eq i.x_advance (pos 0) && int_eq i.y_advance (pos 0)) [] (at_pen x y i ∷ [])) same
item_by false count inks inked all x y i h e =
    let over : count ≤ i.glyph = ltb-false i.glyph count e in
    let number : count + (i.glyph - count) ≡ i.glyph = omega arith in
    own_item (is_bare_item all i) (get_or inks (i.glyph - count) (own [] 0)) (figured_by count inks i) inked (at_pen x y i)
    (λ bare. h.own_ones (i.glyph - count) (ap (λ (g : ℕ). get_or all g true) number ∙ bare_not_inked all i bare))

one_glyph : (b : Bool) (count : ℕ) (inks : List Ink) (p : Drawn) → flat_map (expanded count inks) (cond b [] (p ∷ [])) ≡ flat_map (λ (q : Drawn). parts_at (ink_by count inks p.glyph) q.x q.y) (cond b [] (p ∷ []))
one_glyph true count inks p = refl
one_glyph false count inks p = refl

-- the parts of what items draw are what their figures draw
parts_shown : (count : ℕ) (inks : List Ink) (inked all : List Bool) (x y : ℤ) (js : List Item) → IsInked count inks inked all → flat_map (expanded count inks) (wanted all x y js) ≡ shown inked x y (map (figured_by count inks) js)
parts_shown count inks inked all x y [] h = refl
parts_shown count inks inked all x y (j ∷ js) h =
    let here : List Drawn = cond (is_bare_item all j) [] (at_pen x y j ∷ []) in
    let later : List Drawn = wanted all (x +ℤ j.x_advance) (y +ℤ j.y_advance) js in
    flat_map-append (expanded count inks) here later
    ∙ ap (λ (l : List Drawn). l ++ flat_map (expanded count inks) later) (one_glyph (is_bare_item all j) count inks (at_pen x y j) ∙ item_by (nat_lt j.glyph count) count inks inked all x y j h refl)
    ∙ ap (λ (l : List Drawn). shown_at inked (figured_by count inks j) (ink_by count inks j.glyph) (x +ℤ j.x_offset) (y +ℤ j.y_offset) ++ l) (parts_shown count inks inked all (x +ℤ j.x_advance) (y +ℤ j.y_advance) js h)

pub items_draw_the_run : ItemsDrawTheRun
items_draw_the_run d c count inks all is js h e =
    parts_shown count inks c.inked.now all (pos 0) (pos 0) js h ∙ ap (shown c.inked.now (pos 0) (pos 0)) e ∙ figures_draw_the_run d c (pos 0) (pos 0) is

-- ---- what is said

texts_by_number : (count : ℕ) (inks : List Ink) (js : List Item) → texts_of (map (figured_by count inks) js) ≡ texts_of_items js
texts_by_number count inks [] = refl
texts_by_number count inks (j ∷ js) = ap (λ (l : List (Bor (List ℕ))). option_to_list j.text ++ l) (texts_by_number count inks js)

abbrev texts_now : List Item → List (List ℕ)
texts_now is = map (λ (t : Bor (List ℕ)). t.now) (texts_of_items is)

-- the first cluster begins where its run does
begun_cond : (b : Bool) (i : Item) (d : List Item) (ds : List (List Item)) (c : List Item) (cs : List (List Item)) → cond b ((i ∷ []) ∷ d ∷ ds) ((i ∷ d) ∷ ds) ≡ c ∷ cs → is_begun c ≡ is_begun (i ∷ [])
begun_cond true i d ds c cs e = let same : c ≡ i ∷ [] = cc in ap is_begun same
begun_cond false i d ds c cs e = let same : c ≡ i ∷ d = cc in ap is_begun same

begun_by : (i : Item) (ds : List (List Item)) (c : List Item) (cs : List (List Item)) → before i ds ≡ c ∷ cs → is_begun c ≡ is_begun (i ∷ [])
begun_by i [] c cs e = let same : c ≡ i ∷ [] = cc in ap is_begun same
begun_by i (d ∷ ds) c cs e = begun_cond (is_begun d) i d ds c cs e

first_begun : (is : List Item) (c : List Item) (cs : List (List Item)) → clusters is ≡ c ∷ cs → is_begun c ≡ is_begun is
first_begun [] c cs e = absurd cc
first_begun (i ∷ is) c cs e = begun_by i (clusters is) c cs e

-- texts, with one more before those that no cluster begins with
abbrev or_none : Bool → List (List ℕ) → List (List ℕ)
or_none b ts = cond b ts ([] ∷ ts)

titled_by : (t : Option (Bor (List ℕ))) (l : List (Bor (List ℕ))) → text_in t ∷ map (λ (t : Bor (List ℕ)). t.now) l ≡ or_none (is_some t) (map (λ (t : Bor (List ℕ)). t.now) (option_to_list t ++ l))
titled_by None l = refl
titled_by (Some t) l = refl

none_by : (b : Bool) (ts : List (List ℕ)) → [] ≡ or_none b ts → ts ≡ []
none_by true ts e = sym e
none_by false ts e = absurd cc

same_or : (b c : Bool) (ts us : List (List ℕ)) → b ≡ c → us ≡ or_none c ts → us ≡ or_none b ts
same_or b c ts us e h = h ∙ ap (λ (t : Bool). or_none t ts) (sym e)

more_cond : (b : Bool) (i : Item) (d : List Item) (ds : List (List Item)) (ts : List (List ℕ)) → text_of d ∷ map text_of ds ≡ or_none b ts → map text_of (cond b ((i ∷ []) ∷ d ∷ ds) ((i ∷ d) ∷ ds)) ≡ text_in i.text ∷ ts
more_cond true i d ds ts e = ap (λ (l : List (List ℕ)). text_in i.text ∷ l) e
more_cond false i d ds ts e = let same : map text_of ds ≡ ts = cc in ap (λ (l : List (List ℕ)). text_in i.text ∷ l) same

more_by : (i : Item) (is : List Item) (ds : List (List Item)) → clusters is ≡ ds → map text_of ds ≡ or_none (is_begun is) (texts_now is) → map text_of (before i ds) ≡ text_in i.text ∷ texts_now is
more_by i is [] e h = ap (λ (l : List (List ℕ)). text_in i.text ∷ l) (sym (none_by (is_begun is) (texts_now is) h))
more_by i is (d ∷ ds) e h = more_cond (is_begun d) i d ds (texts_now is) (same_or (is_begun d) (is_begun is) (texts_now is) (text_of d ∷ map text_of ds) (first_begun is d ds e) h)

texts_or : (is : List Item) → map text_of (clusters is) ≡ or_none (is_begun is) (texts_now is)
texts_or [] = refl
texts_or (i ∷ is) = more_by i is (clusters is) refl (texts_or is) ∙ titled_by i.text (texts_of_items is)

-- a run that begins with a cluster has the texts of its clusters
texts_begun : (is : List Item) → is_begun is ≡ true → map text_of (clusters is) ≡ texts_now is
texts_begun is e = texts_or is ∙ ap (λ (b : Bool). or_none b (texts_now is)) e

pub items_say_the_run : ItemsSayTheRun
items_say_the_run d c count inks is js begun first e =
    let same : texts_of_items js ≡ texts_of_items is = sym (texts_by_number count inks js) ∙ ap texts_of e ∙ text_is_kept d c is begun in
    texts_begun js first ∙ ap (map (λ (t : Bor (List ℕ)). t.now)) same ∙ sym (texts_begun is begun)

-- ---- where the pen goes

x_by_number : (count : ℕ) (inks : List Ink) (js : List Item) → total x_of (map (figured_by count inks) js) ≡ x_total js
x_by_number count inks [] = refl
x_by_number count inks (j ∷ js) = ap (λ (z : ℤ). j.x_advance +ℤ z) (x_by_number count inks js)

y_by_number : (count : ℕ) (inks : List Ink) (js : List Item) → total y_of (map (figured_by count inks) js) ≡ y_total js
y_by_number count inks [] = refl
y_by_number count inks (j ∷ js) = ap (λ (z : ℤ). j.y_advance +ℤ z) (y_by_number count inks js)

pub x_of_items : (d : Direction) (c : Choice) (count : ℕ) (inks : List Ink) (is js : List Item) → map (figured_by count inks) js ≡ figured_run d c is → x_total js ≡ x_total is
x_of_items d c count inks is js e = sym (x_by_number count inks js) ∙ ap (total x_of) e ∙ (pen_goes_on d c is).0

pub y_of_items : (d : Direction) (c : Choice) (count : ℕ) (inks : List Ink) (is js : List Item) → map (figured_by count inks) js ≡ figured_run d c is → y_total js ≡ y_total is
y_of_items d c count inks is js e = sym (y_by_number count inks js) ∙ ap (total y_of) e ∙ (pen_goes_on d c is).1
