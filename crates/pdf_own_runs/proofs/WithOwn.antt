-- A font with own glyphs after its own, and runs that are shown by it.
use Rattle.std.proofs.Common.{◌≡◌, ℕ, zero, suc, ◌+◌, ◌-◌, ◌<◌, ◌≤◌, Bool, true, false, ◌&&◌, nat_lt, List, [], ◌∷◌, ◌++◌, length, map, get_or, take, Result, Ok, Err, refl, sym, ap, subst, inl, inr, ◌∙◌, arith, length-append, ltb-true, ltb-false, ℤ}
use Rattle.std.specs.Prelude.{Option, reverse, flat_map, ◌⊎◌, IfErr, IfOk, OnOk, min, replicate}
use Rattle.std.proofs.lemmas.List.Concat.{flat_map_single}
use Rattle.std.proofs.lemmas.List.Folds.{flat_map-map}
use Rattle.std.proofs.lemmas.List.{get_or_append_left, get_or-append-add, get_or-append_right, get_or-replicate, get_or-take, get_or_past, length-replicate, length-take-le}
use Rattle.pdf_runs.specs.declared.codes.Pair.{Pair}
use Rattle.pdf_runs.specs.declared.error.RunError.{RunError}
use Rattle.pdf_runs.specs.declared.error.RunError.TheVariants.{InvalidText, OutOfMemory, Overfull}
use Rattle.pdf_runs.specs.declared.items.Direction.{Direction}
use Rattle.pdf_runs.specs.declared.items.Direction.TheVariants.{LeftToRight, RightToLeft, TopToBottom}
use Rattle.pdf_runs.specs.Clusters.{clusters}
use Rattle.pdf_runs.proofs.Joined.{visual_joined}
use Rattle.pdf_values.specs.Rounding.{thousandths}
use Rattle.pdf_runs.specs.declared.items.Item.{Item}
use Rattle.pdf_runs.specs.Codes.{with_pairs}
use Rattle.pdf_runs.specs.Pieces.{pieces_of_run}
use Rattle.pdf_runs.specs.Items.{are_along, are_known, is_begun, is_run, text_of, visual}
use Rattle.pdf_operators.specs.declared.order.Order.{Order}
use Rattle.pdf_operators.specs.declared.places.Advance.{Advance}
use Rattle.pdf_operators.specs.declared.places.Font.{Font}
use Rattle.pdf_operators.specs.Operators.{operators, text_of_all, units_of}
use Rattle.pdf_operators.specs.Reading.{AreCoded, IsEnd, IsExtracted, IsShown}
use Rattle.pdf_operators.specs.Pens.{advance_of, end_of, pen_of}
use Rattle.pdf_operators.specs.Runs.{IsRefused, is_valid, run_acts}
use Rattle.pdf_figures.specs.declared.choice.Choice.{Choice}
use Rattle.pdf_figures.specs.declared.ink.OwnInk.{OwnInk}
use Rattle.pdf_figures.specs.declared.ink.Placed.{Placed}
use Rattle.pdf_figures.specs.Figures.{ink_parts, own, x_total, y_total}
use Rattle.pdf_figures.specs.Laws.{IsInked}
use Rattle.pdf_figures.specs.Numbers.{as_own}
use Rattle.pdf_figures.specs.View.{drawn_of, inks_of, own_seen}
use Rattle.pdf_figures.proofs.Numbered.{items_draw_the_run, items_say_the_run, x_of_items, y_of_items}
use Rattle.pdf_own_runs.specs.Fonts.{all_inked, first_inked, has_parts}
use Rattle.pdf_own_runs.specs.Fonts.{IsWithOwn, own_metrics}
use Rattle.pdf_own_runs.specs.Shown.{AreFigures, IsShownBy, IsShownWithOwn, IsUnshown, IsUnshownWithOwn, no_memory, no_room, no_run}

-- ---- which glyphs have ink

front_length : (count : ℕ) (known : List Bool) → length (take (min count (length known)) known) ≡ min count (length known)
front_length count known = length-take-le (min count (length known)) known (omega arith)

known_by : (b : Bool) (g count : ℕ) (known : List Bool) → nat_lt g (length known) ≡ b → g < count → get_or (first_inked count known) g true ≡ get_or known g true
known_by true g count known e l =
    let m : ℕ = min count (length known) in
    let low : g < length known = ltb-true g (length known) e in
    let within : g < m = omega arith in
    get_or_append_left (take m known) (replicate (count - m) true) true g (rw front_length within) ∙ get_or-take m known g true within
known_by false g count known e l =
    let m : ℕ = min count (length known) in
    let high : length known ≤ g = ltb-false g (length known) e in
    let above : m ≤ g = omega arith in
    let room : g - m < count - m = omega arith in
    get_or-append_right (take m known) (replicate (count - m) true) m g true (front_length count known) above ∙ get_or-replicate (count - m) (g - m) true true room ∙ sym (get_or_past known g true high)

known_one : (g count : ℕ) (known : List Bool) → g < count → get_or (first_inked count known) g true ≡ get_or known g true
known_one g count known l = known_by (nat_lt g (length known)) g count known refl l

first_length : (count : ℕ) (known : List Bool) → length (first_inked count known) ≡ count
first_length count known =
    let m : ℕ = min count (length known) in
    omega (arith, length-append (take m known) (replicate (count - m) true), front_length count known, length-replicate (count - m) true)

no_parts : (ps : List Placed) → nat_lt 0 (length ps) ≡ false → map drawn_of ps ≡ []
no_parts [] e = refl
no_parts (p ∷ ps) e = let none : suc (length ps) ≤ 0 = ltb-false 0 (suc (length ps)) e in absurd (omega arith)

inkless : (os : List OwnInk) (k : ℕ) → get_or (map has_parts os) k true ≡ false → ink_parts (as_own (get_or (map own_seen os) k (own [] 0))) ≡ []
inkless [] k e = absurd cc
inkless (o ∷ os) zero e = no_parts o.parts.items e
inkless (o ∷ os) (suc k) e = inkless os k e

pub inked_with : (count : ℕ) (known : List Bool) (os : List OwnInk) → IsInked count (inks_of os) known (all_inked count known os)
inked_with count known os = record {
  font = λ g l. get_or_append_left (first_inked count known) (map has_parts os) true g (rw first_length l) ∙ known_one g count known l;
  own_ones = λ k e. inkless os k (sym (get_or-append-add (first_inked count known) (map has_parts os) k true) ∙ ap (λ (n : ℕ). get_or (all_inked count known os) (n + k) true) (first_length count known) ∙ e);
}

-- ---- a run

first_of : (a b c : Bool) → (a && b && c) ≡ true → a ≡ true
first_of true b c e = refl
first_of false b c e = absurd cc

pub begun : (d : Direction) (count : ℕ) (is : List Item) → is_run d count is ≡ true → is_begun is ≡ true
begun d count is e = first_of (is_begun is) (are_known count is) (are_along d is) e

same_pens : (is js : List Item) → x_total js ≡ x_total is → y_total js ≡ y_total is → advance_of js ≡ advance_of is
same_pens is js e h = ap (λ (z : ℤ). pen_of z (y_total js)) e ∙ ap (pen_of (x_total is)) h

-- lists of texts as they are seen
texts_seen : (d : Direction) (cs : List (List Item)) → visual d (map text_of cs) ≡ map text_of (visual d cs)
texts_seen LeftToRight cs = refl
texts_seen RightToLeft cs = ap reverse (sym (flat_map_single text_of cs)) ∙ visual_joined RightToLeft (λ (c : List Item). text_of c ∷ []) cs ∙ flat_map_single text_of (reverse cs)
texts_seen TopToBottom cs = refl

same_text : (d : Direction) (cs ds : List (List Item)) → map text_of ds ≡ map text_of cs → text_of_all (visual d ds) ≡ text_of_all (visual d cs)
same_text d cs ds e =
    sym (flat_map-map (λ (t : List ℕ). t) text_of (visual d ds))
    ∙ ap (flat_map (λ (t : List ℕ). t)) (sym (texts_seen d ds) ∙ ap (visual d) e ∙ texts_seen d cs)
    ∙ flat_map-map (λ (t : List ℕ). t) text_of (visual d cs)

same_found : (d : Direction) (o : Order) (is js : List Item) (found : List (Option (List ℕ))) → map text_of (clusters js) ≡ map text_of (clusters is) → IsExtracted d o js found → IsExtracted d o is found
same_found d o is js found e x = record { texts = x.texts; all = x.all; text = x.text ∙ ap units_of (same_text d (clusters is) (clusters js) e) }

same_end : (f all : Font) (d : Direction) (is js : List Item) (at : ℤ) → all.units ≡ f.units → advance_of js ≡ advance_of is → IsEnd all d js at → IsEnd f d is at
same_end f all d is js at u a h = h ∙ ap (λ (p : Advance). thousandths (end_of d p) all.units) a ∙ ap (thousandths (end_of d (advance_of is))) u

pub shown_with : (f : Font) (c : Choice) (d : Direction) (o : Order) (size : ℕ) (pairs new : List Pair) (os : List OwnInk) (is js : List Item) (bytes : List ℕ) → is_run d (length f.metrics.now) is ≡ true → AreFigures (length f.metrics.now) c os d is js
    → IsShownBy f c.inked.now os d o size pairs new js bytes → IsShownWithOwn f c d o size pairs new os is bytes
shown_with f c d o size pairs new os is js bytes run h s =
    let count : ℕ = length f.metrics.now in
    let said : map text_of (clusters js) ≡ map text_of (clusters is) = items_say_the_run d c count (inks_of os) is js (begun d count is run) (begun d (count + length os) js h.run) h.figures in
    let pens : advance_of js ≡ advance_of is = same_pens is js (x_of_items d c count (inks_of os) is js h.figures) (y_of_items d c count (inks_of os) is js h.figures) in
    record {
      items = js;
      figures = h;
      shown = s;
      text = same_found d o is js _ said s.shown.text;
      drawn = items_draw_the_run d c count (inks_of os) s.font.inked.now is js s.with_own.inked h.figures;
      pen = same_end f s.font d is js _ s.with_own.units pens s.shown.pen;
    }

-- ---- what functions answer

pub with_own : (f all : Font) (known : List Bool) (os : List OwnInk) (count : ℕ) → count ≡ length f.metrics.now → all.units ≡ f.units → all.metrics.now ≡ f.metrics.now ++ map (own_metrics f.units) os → all.inked.now ≡ all_inked count known os → IsWithOwn f known os all
with_own f all known os count n u m i = record {
  units = u;
  metrics = m;
  inked = subst (λ (l : List Bool). IsInked (length f.metrics.now) (inks_of os) known l) (sym i) (subst (λ (k : ℕ). IsInked k (inks_of os) known (all_inked count known os)) n (inked_with count known os));
}

pub items_shown : {V : Type 0} (view : V → List ℕ) (r : Result V RunError) (f all : Font) (known : List Bool) (os : List OwnInk) (d : Direction) (o : Order) (size : ℕ) (old new : List Pair) (js : List Item) → IsWithOwn f known os all
    → IfOk r (λ (t : V). view t ≡ operators size new (run_acts all d o js)) → IfOk r (λ (t : V). IsShown all d o size new js (view t)) → OnOk r (is_valid all d o js ≡ true) → OnOk r (new ≡ with_pairs old (pieces_of_run d all.inked.now js)) → OnOk r (AreCoded new (pieces_of_run d all.inked.now js))
    → IfOk r (λ (t : V). IsShownBy f known os d o size old new js (view t))
items_shown view (Ok t) f all known os d o size old new js w a b v p k = record { font = all; with_own = w; valid = v; operators = a; shown = b; pairs = p; coded = k }
items_shown view (Err e) f all known os d o size old new js w a b v p k = tt

pub items_refused : {V : Type 0} (r : Result V RunError) (f all : Font) (known : List Bool) (os : List OwnInk) (d : Direction) (o : Order) (old new : List Pair) (js : List Item) → IsWithOwn f known os all → IfErr r (λ (e : RunError). IsRefused all d o old new js e) → IfErr r (λ (e : RunError). IsUnshown f known os d o old new js e)
items_refused (Ok t) f all known os d o old new js w h = tt
items_refused (Err e) f all known os d o old new js w h = inr (record { font = all; with_own = w; refused = h })

pub run_shown : {V : Type 0} (view : V → List ℕ) (r : Result V RunError) (f : Font) (c : Choice) (d : Direction) (o : Order) (size : ℕ) (old new : List Pair) (os given : List OwnInk) (is js items : List Item) (count : ℕ) → count ≡ length f.metrics.now → given ≡ os → items ≡ js
    → is_run d (length f.metrics.now) is ≡ true → AreFigures count c os d is js → IfOk r (λ (t : V). IsShownBy f c.inked.now given d o size old new items (view t)) → IfOk r (λ (t : V). IsShownWithOwn f c d o size old new os is (view t))
run_shown view (Ok t) f c d o size old new os given is js items count n same all run h s =
    shown_with f c d o size old new os is js (view t) run (subst (λ (k : ℕ). AreFigures k c os d is js) n h) (subst (λ (l : List OwnInk). IsShownBy f c.inked.now l d o size old new js (view t)) same (subst (λ (l : List Item). IsShownBy f c.inked.now given d o size old new l (view t)) all s))
run_shown view (Err e) f c d o size old new os given is js items count n same all run h s = tt

pub uncounted : (f : Font) (c : Choice) (d : Direction) (o : Order) (pairs : List Pair) (os : List OwnInk) (is : List Item) (e : RunError) → ((e ≡ InvalidText) × (is_run d (length f.metrics.now) is ≡ false)) ⊎ ((e ≡ Overfull) × (65535 < length f.metrics.now)) → IsUnshownWithOwn f c d o pairs pairs os is e
uncounted f c d o pairs os is e (inl h) = rw h.0 (inl (no_run h.1, refl))
uncounted f c d o pairs os is e (inr h) = rw h.0 (inl (no_room (omega (arith, h.1)), refl))

pub unfigured : (f : Font) (c : Choice) (d : Direction) (o : Order) (pairs : List Pair) (os : List OwnInk) (is : List Item) (count : ℕ) (e : RunError) → count ≡ length f.metrics.now → (e ≡ OutOfMemory) ⊎ ((e ≡ Overfull) × (65535 ≤ count + length os)) → IsUnshownWithOwn f c d o pairs pairs os is e
unfigured f c d o pairs os is count e n (inl h) = rw h (inl (no_memory, refl))
unfigured f c d o pairs os is count e n (inr h) = rw h.0 (inl (no_room (omega (arith, n, h.1)), refl))
