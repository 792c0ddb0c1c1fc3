-- Own glyphs that are put after others keep their numbers.
use Rattle.std.proofs.Common.{◌≡◌, ℕ, ◌+◌, ◌-◌, ◌<◌, ◌≤◌, Bool, true, false, cond, nat_lt, List, [], ◌∷◌, ◌++◌, length, get_or, map, drop, refl, sym, ap, ◌∙◌, append_assoc, append-nil, arith, length-append}
use Rattle.std.proofs.lemmas.Grind.{common_steps}
use Rattle.std.specs.List.{list_all}
use Rattle.std.proofs.lemmas.List.{drop_more, map-append, length-map}
use Rattle.pdf_runs.specs.declared.items.Item.{Item}
use Rattle.pdf_runs.specs.Items.{are_known}
use Rattle.pdf_figures.specs.declared.ink.Figure.{Figure}
use Rattle.pdf_figures.specs.declared.ink.OwnInk.{OwnInk}
use Rattle.pdf_figures.specs.Figures.{Figured, Ink, glyph, own}
use Rattle.pdf_figures.specs.Numbers.{as_own, figured_by, ink_by, is_known, own_by}
use Rattle.pdf_figures.specs.View.{Extends, IsNumberOf, figure_seen, figures_seen, inks_of, own_seen}

pub unchanged : (os : List OwnInk) → Extends os os
unchanged os = record { further = []; are = sym (append-nil os) }

pub further_on : (a b c : List OwnInk) → Extends a b → Extends b c → Extends a c
further_on a b c x y = record { further = x.further ++ y.further; are = y.are ∙ ap (λ (l : List OwnInk). l ++ y.further) x.are ∙ append_assoc a x.further y.further }

pub one_more : (os new : List OwnInk) (o : OwnInk) → new ≡ os ++ o ∷ [] → Extends os new
one_more os new o h = record { further = o ∷ []; are = h }

get_front : {A : Type 0} (xs ys : List A) (k : ℕ) (e : A) → k < length xs → get_or (xs ++ ys) k e ≡ get_or xs k e
get_front xs ys k e l = grind (arith, common_steps)

pub kept_by : (os new : List OwnInk) (k : ℕ) → Extends os new → k < length os → own_by (inks_of new) k ≡ own_by (inks_of os) k
kept_by os new k x l =
    ap (λ (l : List OwnInk). own_by (inks_of l) k) x.are
    ∙ ap (λ (l : List Ink). as_own (get_or l k (own [] 0))) (map-append own_seen os x.further)
    ∙ ap as_own (get_front (inks_of os) (inks_of x.further) k (own [] 0) (rw length-map l))

pub longer : (os new : List OwnInk) → Extends os new → length os ≤ length new
longer os new x = omega (arith, length-append os x.further, ap length x.are)

pub number_kept : (count : ℕ) (os new : List OwnInk) (i : Ink) (n : ℕ) → Extends os new → IsNumberOf count os i n → IsNumberOf count new i n
number_kept count os new i n x h = record {
  above = h.above;
  below = omega (arith, longer os new x, h.below);
  same = kept_by os new (n - count) x (omega (arith, h.above, h.below)) ∙ h.same;
}

-- ---- items

ink_kept_by : (b : Bool) (count g : ℕ) (os new : List OwnInk) → nat_lt g count ≡ b → Extends os new → g < count + length os → cond b (glyph g) (own_by (inks_of new) (g - count)) ≡ cond b (glyph g) (own_by (inks_of os) (g - count))
ink_kept_by true count g os new e x l = refl
ink_kept_by false count g os new e x l =
    let above : count ≤ g = grind (arith, e) in
    kept_by os new (g - count) x (omega (arith, above, l))

ink_kept : (count g : ℕ) (os new : List OwnInk) → Extends os new → g < count + length os → ink_by count (inks_of new) g ≡ ink_by count (inks_of os) g
ink_kept count g os new x l = ink_kept_by (nat_lt g count) count g os new refl x l

item_kept : (count : ℕ) (i : Item) (os new : List OwnInk) → Extends os new → i.glyph < count + length os → figured_by count (inks_of new) i ≡ figured_by count (inks_of os) i
item_kept count i os new x l =
    ap (λ (k : Ink). record { ink = k; text = i.text; x_advance = i.x_advance; y_advance = i.y_advance; x_offset = i.x_offset; y_offset = i.y_offset }) (ink_kept count i.glyph os new x l)

first_known : (n : ℕ) (i : Item) (js : List Item) → are_known n (i ∷ js) ≡ true → (i.glyph < n) × (are_known n js ≡ true)
first_known n i js h = (grind (arith, common_steps), grind (arith, common_steps))

pub items_kept : (count : ℕ) (js : List Item) (os new : List OwnInk) → Extends os new → are_known (count + length os) js ≡ true → map (figured_by count (inks_of new)) js ≡ map (figured_by count (inks_of os)) js
items_kept count [] os new x h = refl
items_kept count (i ∷ js) os new x h =
    let t = first_known (count + length os) i js h in
    ap (λ (f : Figured). f ∷ map (figured_by count (inks_of new)) js) (item_kept count i os new x t.0)
    ∙ ap (λ (fs : List Figured). figured_by count (inks_of os) i ∷ fs) (items_kept count js os new x t.1)

known_more : (n m : ℕ) (js : List Item) → n ≤ m → are_known n js ≡ true → are_known m js ≡ true
known_more n m [] l h = refl
known_more n m (i ∷ js) l h =
    let t = first_known n i js h in
    let rest : are_known m js ≡ true = known_more n m js l t.1 in
    grind (arith, common_steps, t.0, l, rest)

known_last : (n : ℕ) (js : List Item) (i : Item) → are_known n js ≡ true → i.glyph < n → are_known n (js ++ i ∷ []) ≡ true
known_last n [] i h l = grind (arith, common_steps)
known_last n (j ∷ js) i h l =
    let t = first_known n j js h in
    let rest : are_known n (js ++ i ∷ []) ≡ true = known_last n js i t.1 l in
    grind (arith, common_steps, t.0, rest)

-- the first k figures have items
pub record AreNumbered (count : ℕ) (fs : List Figure) (k : ℕ) (first os : List OwnInk) (js : List Item) : Type 0 where
  pub same : map (figured_by count (inks_of os)) js ++ figures_seen (drop k fs) ≡ figures_seen fs
  pub known : are_known (count + length os) js ≡ true
  pub extends : Extends first os
  pub rest : list_all (is_known count) (figures_seen (drop k fs)) ≡ true

rest_on : (count : ℕ) (f : Figure) (fs : List Figure) → list_all (is_known count) (figures_seen (f ∷ fs)) ≡ true → list_all (is_known count) (figures_seen fs) ≡ true
rest_on count f fs h = grind (arith, common_steps)

pub next_known : (count : ℕ) (fs : List Figure) (k : ℕ) (e : Figure) → k < length fs → list_all (is_known count) (figures_seen (drop k fs)) ≡ true → is_known count (figure_seen (get_or fs k e)) ≡ true
next_known count fs k e l h =
    let here : list_all (is_known count) (figures_seen (get_or fs k e ∷ drop (k + 1) fs)) ≡ true = sym (ap (λ (l : List Figure). list_all (is_known count) (figures_seen l)) (drop_more fs k e l)) ∙ h in
    grind (arith, common_steps, here)

pub numbered_on : (count : ℕ) (fs : List Figure) (k : ℕ) (e : Figure) (first os new : List OwnInk) (js more : List Item) (i : Item) → k < length fs → Extends os new → more ≡ js ++ i ∷ [] → figured_by count (inks_of new) i ≡ figure_seen (get_or fs k e) → i.glyph < count + length new
    → AreNumbered count fs k first os js → AreNumbered count fs (k + 1) first new more
numbered_on count fs k e first os new js more i l x put same below h =
    let wider : are_known (count + length new) js ≡ true = known_more (count + length os) (count + length new) js (omega (arith, longer os new x)) h.known in
    let rest = sym (ap (λ (l : List Figure). list_all (is_known count) (figures_seen l)) (drop_more fs k e l)) ∙ h.rest in
    record {
      same =
          ap (λ (l : List Item). map (figured_by count (inks_of new)) l ++ figures_seen (drop (k + 1) fs)) put
          ∙ ap (λ (l : List Figured). l ++ figures_seen (drop (k + 1) fs)) (map-append (figured_by count (inks_of new)) js (i ∷ []))
          ∙ append_assoc (map (figured_by count (inks_of new)) js) (figured_by count (inks_of new) i ∷ []) (figures_seen (drop (k + 1) fs))
          ∙ ap (λ (l : List Figured). l ++ figured_by count (inks_of new) i ∷ figures_seen (drop (k + 1) fs)) (items_kept count js os new x h.known)
          ∙ ap (λ (f : Figured). map (figured_by count (inks_of os)) js ++ f ∷ figures_seen (drop (k + 1) fs)) same
          ∙ sym (ap (λ (l : List Figure). map (figured_by count (inks_of os)) js ++ figures_seen l) (drop_more fs k e l))
          ∙ h.same;
      known = rw put (known_last (count + length new) js i wider below);
      extends = further_on first os new h.extends x;
      rest = rest_on count (get_or fs k e) (drop (k + 1) fs) rest;
    }
