-- Where the glyphs of a run are drawn.
use Rattle.std.proofs.Common.{◌≡◌, ℕ, zero, suc, ◌+◌, ◌*◌, Bool, true, false, List, [], ◌∷◌, ◌++◌, map, reverse, flat_map, refl, sym, ap, ◌∙◌, subst, append_assoc, arith, ℤ, pos, negsuc, ◌+ℤ◌}
use Rattle.std.specs.Prelude.{is_some, if◌then◌else◌, ◌-ℤ◌, ◌*ℤ◌, ◌<ℤ◌, ◌≤ℤ◌, ◌≤◌, unsigned_abs}
use Rattle.std.specs.Ordering.{int_eq}
use Rattle.std.proofs.lemmas.Bool.Decides.{Decides-int_eq}
use Rattle.std.proofs.lemmas.Int.{ints}
use Rattle.std.proofs.lemmas.List.{map-append, reverse-append}
use Rattle.std.proofs.lemmas.List.Concat.{flat_map-append}
use mathlib.Core.List.{reverse-cons}
use lib.IntN.{+ℤ_assoc}
use Rattle.std.proofs.lemmas.List.Elements.{All-head, All-tail}
use Rattle.subsetter_base.specs.Remap.{index_by}
use Rattle.pdf_values.specs.Rounding.{thousandths}
use Rattle.pdf_values.proofs.Nearest.{thousandths_is}
use Rattle.pdf_runs.specs.declared.codes.Pair.{Pair}
use Rattle.pdf_runs.specs.declared.items.Direction.{Direction}
use Rattle.pdf_runs.specs.declared.items.Item.{Item}
use Rattle.pdf_runs.specs.declared.pieces.Figure.{Figure}
use Rattle.pdf_runs.specs.declared.pieces.Figure.TheVariants.{Source, Blank}
use Rattle.pdf_runs.specs.declared.pieces.Piece.{Piece}
use Rattle.pdf_runs.specs.Clusters.{clusters}
use Rattle.pdf_runs.specs.Codes.{pair_of, same}
use Rattle.pdf_runs.specs.Laws.{Drawn, drawn, drawn_at, total, wanted}
use Rattle.pdf_runs.specs.Pieces.{pieces_of_clusters, pieces_of_run}
use Rattle.pdf_runs.proofs.RunLaws.{glyphs_are_drawn, pen_goes_on}
use Rattle.pdf_runs.proofs.SpreadLaws.{total_append}
use Rattle.pdf_operators.specs.declared.order.Order.{Order}
use Rattle.pdf_operators.specs.declared.places.Font.{Font}
use Rattle.pdf_operators.specs.declared.places.Stop.{Stop}
use Rattle.pdf_operators.specs.Content.{Mark, code, ended, marks_of, number}
use Rattle.pdf_operators.specs.Operators.{Act, back, code_of, finish, raise, show, text_of_all}
use Rattle.pdf_operators.specs.Order.{is_turned, turned}
use Rattle.pdf_operators.specs.Pens.{advance_of, end_of, first_pen, start}
use Rattle.pdf_operators.specs.Places.{above, along, laid, last_back, metrics_of, next, origin_at, pen_at, pen_then, shown_at, stop_after, x_of, y_of}
use Rattle.pdf_operators.specs.Reading.{ArePlaced, AreCoded, Origin, ThousandthsAreNear, aimed, origin_of, origins, placed, risen, run_marks, width_in}
use Rattle.pdf_operators.specs.Runs.{acts_after, in_span, is_spanned, part_acts, part_pieces, part_stop, run_parts}
use Rattle.pdf_operators.proofs.Coded.{All-back, All-front, figure_found}
use Rattle.pdf_operators.proofs.PartLaws.{All-turned, parts_written, pieces_written}

-- ---- lengths

pub nothing_off : (a q : ℤ) → q ≡ pos 0 → a ≡ a -ℤ q
nothing_off a q e = omega (arith, ints, e)

pub back_to : (a b : ℤ) → a -ℤ (a -ℤ b) ≡ b
back_to a b = omega (arith, ints)

off_again : (a b : ℤ) → (a +ℤ b) -ℤ b ≡ a
off_again a b = omega (arith, ints)

-- ---- one code

show_by : (e : Bool) (w : ℕ → ℤ) (at up q : ℤ) (c : ℕ) (rest : List Mark) → (e ≡ true → q ≡ pos 0)
    → placed w at up ((((if e then [] else number q ∷ []) ++ code c ∷ []) ++ []) ++ rest) ≡ record { code = c; at = at -ℤ q; rise = up } ∷ placed w ((at -ℤ q) +ℤ w c) up rest
show_by true w at up q c rest h = ap (λ (a : ℤ). record { code = c; at = a; rise = up } ∷ placed w (a +ℤ w c) up rest) (nothing_off at q (h refl))
show_by false w at up q c rest h = refl

show_placed : (w : ℕ → ℤ) (size : ℕ) (pairs : List Pair) (at up z : ℤ) (q : Pair) (rest : List Mark) → placed w at up (flat_map (marks_of size pairs) (show z q ∷ []) ++ rest) ≡ record { code = code_of pairs q; at = at -ℤ z; rise = up } ∷ placed w ((at -ℤ z) +ℤ w (code_of pairs q)) up rest
show_placed w size pairs at up z q rest = show_by (int_eq z (pos 0)) w at up z (code_of pairs q) rest (λ h. (Decides-int_eq z (pos 0)).0 h)

raised_by : (b : Bool) (w : ℕ → ℤ) (size : ℕ) (pairs : List Pair) (at up r z : ℤ) (q : Pair) (rest : List Mark) → (b ≡ true → r ≡ up)
    → placed w at (risen size up) (flat_map (marks_of size pairs) ((if b then [] else raise r ∷ []) ++ show z q ∷ []) ++ rest) ≡ record { code = code_of pairs q; at = at -ℤ z; rise = risen size r } ∷ placed w ((at -ℤ z) +ℤ w (code_of pairs q)) (risen size r) rest
raised_by true w size pairs at up r z q rest h =
    ap (λ (u : ℤ). placed w at (risen size u) (flat_map (marks_of size pairs) (show z q ∷ []) ++ rest)) (sym (h refl)) ∙ show_placed w size pairs at (risen size r) z q rest
raised_by false w size pairs at up r z q rest h = show_placed w size pairs at (risen size r) z q rest

piece_placed : (w : ℕ → ℤ) (size : ℕ) (pairs : List Pair) (s n : Stop) (q : Pair) (rest : List Mark)
    → placed w s.at (risen size s.rise) (flat_map (marks_of size pairs) (shown_at s n q) ++ rest) ≡ record { code = code_of pairs q; at = s.at -ℤ n.back; rise = risen size n.rise } ∷ placed w ((s.at -ℤ n.back) +ℤ w (code_of pairs q)) (risen size n.rise) rest
piece_placed w size pairs s n q rest = raised_by (int_eq n.rise s.rise) w size pairs s.at s.rise n.rise n.back q rest (λ h. (Decides-int_eq n.rise s.rise).0 h)

-- ---- pieces

figure_aimed : (f : Font) (d : Direction) (size : ℕ) (g : Figure) (c : ℕ) (x y : ℤ) → origin_of f g (record { code = c; at = thousandths (along d x y) f.units +ℤ (metrics_of f g).position; rise = risen size (thousandths (above d y) f.units) }) ≡ map (aimed f d size) (drawn_at g x y)
figure_aimed f d size (Source g) c x y =
    ap (λ (a : ℤ). record { glyph = g; at = a; rise = risen size (thousandths (above d y) f.units) } ∷ []) (off_again (thousandths (along d x y) f.units) (metrics_of f (Source g)).position)
figure_aimed f d size Blank c x y = refl

-- what pieces draw after a stop
abbrev drawn_from : Bool → ℤ → ℤ → List Piece → List Drawn
drawn_from b x y [] = []
drawn_from b x y (p ∷ ps) = drawn_at p.figure (pen_at b x p.x_advance +ℤ p.x) (pen_at b y p.y_advance +ℤ p.y) ++ drawn_from b (pen_then b x p.x_advance) (pen_then b y p.y_advance) ps

abbrev drawn_after : Stop → List Piece → List Drawn
drawn_after s ps = drawn_from s.is_turned s.x s.y ps

pieces_placed : (f : Font) (d : Direction) (size : ℕ) (pairs : List Pair) (ps : List Piece) (s : Stop) (rest : List Mark) → AreCoded pairs ps
    → origins f pairs (placed (width_in f pairs) s.at (risen size s.rise) (flat_map (marks_of size pairs) (laid f d s ps) ++ rest)) ≡ map (aimed f d size) (drawn_after s ps) ++ origins f pairs (placed (width_in f pairs) (stop_after f d s ps).at (risen size (stop_after f d s ps).rise) rest)
pieces_placed f d size pairs [] s rest h = refl
pieces_placed f d size pairs (p ∷ ps) s rest h =
    let w : ℕ → ℤ = width_in f pairs in
    let n : Stop = next f d s p in
    let c : ℕ = code_of pairs (pair_of p) in
    let up : ℤ = risen size n.rise in
    let shown : ℤ = origin_at f d s p +ℤ (metrics_of f p.figure).position in
    let marks : List Act → List Mark = flat_map (marks_of size pairs) in
    let more : List Mark = marks (laid f d n ps) ++ rest in
    let here : Figure → ℤ → List Origin = λ (g : Figure) (a : ℤ). origin_of f g (record { code = c; at = a; rise = up }) ++ origins f pairs (placed w (a +ℤ (metrics_of f g).displacement) up more) in
    let following : List Origin = origins f pairs (placed w (stop_after f d n ps).at (risen size (stop_after f d n ps).rise) rest) in
    let first : List Drawn = drawn_at p.figure (x_of s p) (y_of s p) in
    ap (λ (ms : List Mark). origins f pairs (placed w s.at (risen size s.rise) (ms ++ rest))) (flat_map-append (marks_of size pairs) (shown_at s n (pair_of p)) (laid f d n ps))
    ∙ ap (λ (ms : List Mark). origins f pairs (placed w s.at (risen size s.rise) ms)) (append_assoc (marks (shown_at s n (pair_of p))) (marks (laid f d n ps)) rest)
    ∙ ap (origins f pairs) (piece_placed w size pairs s n (pair_of p) more)
    ∙ ap (λ (g : Figure). here g (s.at -ℤ n.back)) (figure_found pairs p (All-head (λ (q : Piece). is_some (index_by same pairs (pair_of q)) ≡ true) p ps h))
    ∙ ap (here p.figure) (back_to s.at shown)
    ∙ ap (λ (os : List Origin). os ++ origins f pairs (placed w n.at up more)) (figure_aimed f d size p.figure c (x_of s p) (y_of s p))
    ∙ ap (λ (os : List Origin). map (aimed f d size) first ++ os) (pieces_placed f d size pairs ps n rest (All-tail (λ (q : Piece). is_some (index_by same pairs (pair_of q)) ≡ true) p ps h))
    ∙ sym (append_assoc (map (aimed f d size) first) (map (aimed f d size) (drawn_after n ps)) following)
    ∙ ap (λ (os : List Origin). os ++ following) (sym (map-append (aimed f d size) first (drawn_after n ps)))

-- ---- parts

pub span_marks : (size : ℕ) (pairs : List Pair) (acts : List Act) (rest : List Mark) → flat_map (marks_of size pairs) (acts ++ finish ∷ []) ++ rest ≡ flat_map (marks_of size pairs) acts ++ ended ∷ rest
span_marks size pairs acts rest =
    ap (λ (ms : List Mark). ms ++ rest) (flat_map-append (marks_of size pairs) acts (finish ∷ []))
    ∙ append_assoc (flat_map (marks_of size pairs) acts) (ended ∷ []) rest

part_by : (b : Bool) (f : Font) (d : Direction) (size : ℕ) (pairs : List Pair) (text : List ℕ) (ps : List Piece) (s : Stop) (rest : List Mark) → AreCoded pairs ps
    → origins f pairs (placed (width_in f pairs) s.at (risen size s.rise) (flat_map (marks_of size pairs) (in_span b text (laid f d s ps)) ++ rest)) ≡ map (aimed f d size) (drawn_after s ps) ++ origins f pairs (placed (width_in f pairs) (stop_after f d s ps).at (risen size (stop_after f d s ps).rise) rest)
part_by false f d size pairs text ps s rest h = pieces_placed f d size pairs ps s rest h
part_by true f d size pairs text ps s rest h =
    ap (λ (ms : List Mark). origins f pairs (placed (width_in f pairs) s.at (risen size s.rise) ms)) (span_marks size pairs (laid f d s ps) rest)
    ∙ pieces_placed f d size pairs ps s (ended ∷ rest) h

-- what is drawn after a stop, in two parts
drawn_twice : (f : Font) (d : Direction) (ps qs : List Piece) (s : Stop) → drawn_after s (ps ++ qs) ≡ drawn_after s ps ++ drawn_after (stop_after f d s ps) qs
drawn_twice f d [] qs s = refl
drawn_twice f d (p ∷ ps) qs s =
    let here : List Drawn = drawn_at p.figure (x_of s p) (y_of s p) in
    let n : Stop = next f d s p in
    ap (λ (l : List Drawn). here ++ l) (drawn_twice f d ps qs n) ∙ sym (append_assoc here (drawn_after n ps) (drawn_after (stop_after f d n ps) qs))

-- the way stays
pub way_stays : (f : Font) (d : Direction) (ps : List Piece) (s : Stop) → (stop_after f d s ps).is_turned ≡ s.is_turned
way_stays f d [] s = refl
way_stays f d (p ∷ ps) s = way_stays f d ps (next f d s p)

end_by : (a b : Bool) (f : Font) (size : ℕ) (pairs : List Pair) (w : ℕ → ℤ) (at up z : ℤ) → origins f pairs (placed w at up (flat_map (marks_of size pairs) ((if a then [] else back z ∷ []) ++ (if b then [] else raise (pos 0) ∷ [])))) ≡ []
end_by true true f size pairs w at up z = refl
end_by true false f size pairs w at up z = refl
end_by false true f size pairs w at up z = refl
end_by false false f size pairs w at up z = refl

parts_placed : (f : Font) (d : Direction) (size : ℕ) (pairs : List Pair) (end : ℤ) (gs : List (List (List Item))) (b : Bool) (s : Stop) → s.is_turned ≡ b → AreCoded pairs (pieces_written f d b gs)
    → origins f pairs (placed (width_in f pairs) s.at (risen size s.rise) (flat_map (marks_of size pairs) (acts_after f d end s gs))) ≡ map (aimed f d size) (drawn_after s (pieces_written f d b gs))
parts_placed f d size pairs end [] b s e h = end_by (int_eq (last_back f end s) (pos 0)) (int_eq s.rise (pos 0)) f size pairs (width_in f pairs) s.at (risen size s.rise) (last_back f end s)
parts_placed f d size pairs end (g ∷ gs) b s e h =
    let w : ℕ → ℤ = width_in f pairs in
    let ps : List Piece = part_pieces f d s g in
    let own : ps ≡ turned b (pieces_of_clusters d f.inked.now g) = ap (λ (t : Bool). turned t (pieces_of_clusters d f.inked.now g)) e in
    let qs : List Piece = pieces_written f d b gs in
    let n : Stop = part_stop f d s g in
    let marks : List Act → List Mark = flat_map (marks_of size pairs) in
    let coded : AreCoded pairs (ps ++ qs) = subst (λ (l : List Piece). AreCoded pairs (l ++ qs)) (sym own) h in
    ap (λ (ms : List Mark). origins f pairs (placed w s.at (risen size s.rise) ms)) (flat_map-append (marks_of size pairs) (part_acts f d s g) (acts_after f d end n gs))
    ∙ part_by (is_spanned d g ps) f d size pairs (text_of_all g) ps s (marks (acts_after f d end n gs)) (All-front (λ (q : Piece). is_some (index_by same pairs (pair_of q)) ≡ true) ps qs coded)
    ∙ ap (λ (os : List Origin). map (aimed f d size) (drawn_after s ps) ++ os) (parts_placed f d size pairs end gs b n (way_stays f d ps s ∙ e) (All-back (λ (q : Piece). is_some (index_by same pairs (pair_of q)) ≡ true) ps qs coded))
    ∙ sym (map-append (aimed f d size) (drawn_after s ps) (drawn_after n qs))
    ∙ ap (map (aimed f d size)) (sym (drawn_twice f d ps qs s))
    ∙ ap (λ (l : List Piece). map (aimed f d size) (drawn_after s (l ++ qs))) own

-- ---- from the last to the first

on_is_drawn : (x y : ℤ) (ps : List Piece) → drawn_from false x y ps ≡ drawn x y ps
on_is_drawn x y [] = refl
on_is_drawn x y (p ∷ ps) = ap (λ (l : List Drawn). drawn_at p.figure (x +ℤ p.x) (y +ℤ p.y) ++ l) (on_is_drawn (x +ℤ p.x_advance) (y +ℤ p.y_advance) ps)

none_off : (a : ℤ) → a ≡ a -ℤ pos 0
none_off a = omega (arith, ints)

less_twice : (a b c : ℤ) → (a -ℤ b) -ℤ c ≡ a -ℤ (b +ℤ c)
less_twice a b c = omega (arith, ints)

back_twice : (x y : ℤ) (ps qs : List Piece) → drawn_from true x y (ps ++ qs) ≡ drawn_from true x y ps ++ drawn_from true (x -ℤ total (λ (p : Piece). p.x_advance) ps) (y -ℤ total (λ (p : Piece). p.y_advance) ps) qs
back_twice x y [] qs = ap (λ (a : ℤ). drawn_from true a y qs) (none_off x) ∙ ap (λ (b : ℤ). drawn_from true (x -ℤ pos 0) b qs) (none_off y)
back_twice x y (p ∷ ps) qs =
    let here : List Drawn = drawn_at p.figure ((x -ℤ p.x_advance) +ℤ p.x) ((y -ℤ p.y_advance) +ℤ p.y) in
    let first : List Drawn = drawn_from true (x -ℤ p.x_advance) (y -ℤ p.y_advance) ps in
    let tx : ℤ = total (λ (q : Piece). q.x_advance) ps in
    let ty : ℤ = total (λ (q : Piece). q.y_advance) ps in
    ap (λ (l : List Drawn). here ++ l) (back_twice (x -ℤ p.x_advance) (y -ℤ p.y_advance) ps qs)
    ∙ ap (λ (a : ℤ). here ++ (first ++ drawn_from true a ((y -ℤ p.y_advance) -ℤ ty) qs)) (less_twice x p.x_advance tx)
    ∙ ap (λ (b : ℤ). here ++ (first ++ drawn_from true (x -ℤ (p.x_advance +ℤ tx)) b qs)) (less_twice y p.y_advance ty)
    ∙ sym (append_assoc here first (drawn_from true (x -ℤ (p.x_advance +ℤ tx)) (y -ℤ (p.y_advance +ℤ ty)) qs))

turned_sum : (a b : ℤ) → b +ℤ (a +ℤ pos 0) ≡ a +ℤ b
turned_sum a b = omega (arith, ints)

total_turned : (g : Piece → ℤ) (ps : List Piece) → total g (reverse ps) ≡ total g ps
total_turned g [] = refl
total_turned g (p ∷ ps) =
    ap (total g) (reverse-cons p ps) ∙ total_append g (reverse ps) (p ∷ []) ∙ ap (λ (z : ℤ). z +ℤ (g p +ℤ pos 0)) (total_turned g ps) ∙ turned_sum (g p) (total g ps)

pen_back : (x a t u : ℤ) → u ≡ t → (x +ℤ (a +ℤ t)) -ℤ u ≡ x +ℤ a
pen_back x a t u e = omega (arith, ints, e)

again : (x a o : ℤ) → ((x +ℤ a) -ℤ a) +ℤ o ≡ x +ℤ o
again x a o = omega (arith, ints)

one_turned : (g : Figure) (x y : ℤ) → drawn_at g x y ++ [] ≡ reverse (drawn_at g x y)
one_turned (Source g) x y = refl
one_turned Blank x y = refl

-- written from the last to the first, from the end back, pieces draw the same in the other order
back_is_drawn : (x y : ℤ) (ps : List Piece) → drawn_from true (x +ℤ total (λ (p : Piece). p.x_advance) ps) (y +ℤ total (λ (p : Piece). p.y_advance) ps) (reverse ps) ≡ reverse (drawn x y ps)
back_is_drawn x y [] = refl
back_is_drawn x y (p ∷ ps) =
    let xa : Piece → ℤ = λ q. q.x_advance in
    let ya : Piece → ℤ = λ q. q.y_advance in
    let ex : ℤ = x +ℤ (p.x_advance +ℤ total xa ps) in
    let ey : ℤ = y +ℤ (p.y_advance +ℤ total ya ps) in
    let sx : ex ≡ (x +ℤ p.x_advance) +ℤ total xa ps = sym (+ℤ_assoc x p.x_advance (total xa ps)) in
    let sy : ey ≡ (y +ℤ p.y_advance) +ℤ total ya ps = sym (+ℤ_assoc y p.y_advance (total ya ps)) in
    let later : List Drawn = drawn (x +ℤ p.x_advance) (y +ℤ p.y_advance) ps in
    let at_x : ex -ℤ total xa (reverse ps) ≡ x +ℤ p.x_advance = pen_back x p.x_advance (total xa ps) (total xa (reverse ps)) (total_turned xa ps) in
    let at_y : ey -ℤ total ya (reverse ps) ≡ y +ℤ p.y_advance = pen_back y p.y_advance (total ya ps) (total ya (reverse ps)) (total_turned ya ps) in
    ap (drawn_from true ex ey) (reverse-cons p ps)
    ∙ back_twice ex ey (reverse ps) (p ∷ [])
    ∙ ap (λ (a : ℤ). drawn_from true a ey (reverse ps) ++ drawn_from true (ex -ℤ total xa (reverse ps)) (ey -ℤ total ya (reverse ps)) (p ∷ [])) sx
    ∙ ap (λ (b : ℤ). drawn_from true ((x +ℤ p.x_advance) +ℤ total xa ps) b (reverse ps) ++ drawn_from true (ex -ℤ total xa (reverse ps)) (ey -ℤ total ya (reverse ps)) (p ∷ [])) sy
    ∙ ap (λ (l : List Drawn). l ++ drawn_from true (ex -ℤ total xa (reverse ps)) (ey -ℤ total ya (reverse ps)) (p ∷ [])) (back_is_drawn (x +ℤ p.x_advance) (y +ℤ p.y_advance) ps)
    ∙ ap (λ (a : ℤ). reverse later ++ drawn_from true a (ey -ℤ total ya (reverse ps)) (p ∷ [])) at_x
    ∙ ap (λ (b : ℤ). reverse later ++ drawn_from true (x +ℤ p.x_advance) b (p ∷ [])) at_y
    ∙ ap (λ (a : ℤ). reverse later ++ (drawn_at p.figure a (((y +ℤ p.y_advance) -ℤ p.y_advance) +ℤ p.y) ++ [])) (again x p.x_advance p.x)
    ∙ ap (λ (b : ℤ). reverse later ++ (drawn_at p.figure (x +ℤ p.x) b ++ [])) (again y p.y_advance p.y)
    ∙ ap (λ (l : List Drawn). reverse later ++ l) (one_turned p.figure (x +ℤ p.x) (y +ℤ p.y))
    ∙ sym (reverse-append (drawn_at p.figure (x +ℤ p.x) (y +ℤ p.y)) later)

from_zero : (z : ℤ) → z ≡ pos 0 +ℤ z
from_zero z = omega (arith, ints)

-- what a whole run draws
run_drawn : (b : Bool) (d : Direction) (inked : List Bool) (is : List Item)
    → drawn_from b (first_pen b (total (λ (i : Item). i.x_advance) is)) (first_pen b (total (λ (i : Item). i.y_advance) is)) (turned b (pieces_of_run d inked is)) ≡ turned b (wanted inked (pos 0) (pos 0) is)
run_drawn false d inked is = on_is_drawn (pos 0) (pos 0) (pieces_of_run d inked is) ∙ glyphs_are_drawn d inked (pos 0) (pos 0) is
run_drawn true d inked is =
    let ps : List Piece = pieces_of_run d inked is in
    let on = pen_goes_on d inked is in
    let tx : ℤ = total (λ (p : Piece). p.x_advance) ps in
    let ty : ℤ = total (λ (p : Piece). p.y_advance) ps in
    ap (λ (a : ℤ). drawn_from true a (total (λ (i : Item). i.y_advance) is) (reverse ps)) (sym on.0 ∙ from_zero tx)
    ∙ ap (λ (b : ℤ). drawn_from true (pos 0 +ℤ tx) b (reverse ps)) (sym on.1 ∙ from_zero ty)
    ∙ back_is_drawn (pos 0) (pos 0) ps
    ∙ ap (λ (l : List Drawn). reverse l) (glyphs_are_drawn d inked (pos 0) (pos 0) is)

no_rise : (size : ℕ) → pos 0 ≡ risen size (pos 0)
no_rise size = let none : 0 ≡ 0 * size = omega arith in ap pos none

pub glyphs_are_placed : (f : Font) (d : Direction) (o : Order) (size : ℕ) (pairs : List Pair) (is : List Item) → AreCoded pairs (pieces_of_run d f.inked.now is)
    → ArePlaced f d o size is (origins f pairs (placed (width_in f pairs) (pos 0) (pos 0) (run_marks f d o size pairs is)))
glyphs_are_placed f d o size pairs is h =
    let b : Bool = is_turned d o in
    let all : pieces_written f d b (run_parts d o is) ≡ turned b (pieces_of_run d f.inked.now is) = parts_written f d b (clusters is) in
    ap (λ (up : ℤ). origins f pairs (placed (width_in f pairs) (pos 0) up (run_marks f d o size pairs is))) (no_rise size)
    ∙ parts_placed f d size pairs (end_of d (advance_of is)) (run_parts d o is) b (start b (advance_of is)) refl (subst (AreCoded pairs) (sym all) (All-turned (λ (q : Piece). is_some (index_by same pairs (pair_of q)) ≡ true) b (pieces_of_run d f.inked.now is) h))
    ∙ ap (λ (l : List Piece). map (aimed f d size) (drawn_after (start b (advance_of is)) l)) all
    ∙ ap (map (aimed f d size)) (run_drawn b d f.inked.now is)

-- ---- how near

mul_next : (d q : ℕ) → d * suc q ≡ d * q + d
mul_next d q = grind arith

-- one more, times d
next_one : (d : ℕ) (r : ℤ) → pos d *ℤ (r +ℤ pos 1) ≡ (pos d *ℤ r) +ℤ pos d
next_one d (pos q) = ap pos (grind arith)
next_one d (negsuc zero) = grind (arith, ints)
next_one d (negsuc (suc q)) =
    let a : negsuc (suc q) +ℤ pos 1 ≡ negsuc q = omega (arith, ints) in
    ap (λ r. pos d *ℤ r) a ∙ omega (arith, ints, mul_next d (suc q))

near_by : (a b : ℤ) (u : ℕ) → a ≤ℤ (b +ℤ pos u) → (b +ℤ pos u) <ℤ (a +ℤ pos (2 * u)) → unsigned_abs (a -ℤ b) ≤ u
near_by a b u low high = omega (arith, ints)

pub thousandths_are_near : ThousandthsAreNear
thousandths_are_near v units h =
    let near = thousandths_is v units h in
    near_by (pos (2 * units) *ℤ thousandths v units) (pos 2000 *ℤ v) units near.low (subst (λ (z : ℤ). ((pos 2000 *ℤ v) +ℤ pos units) <ℤ z) (next_one (2 * units) (thousandths v units)) near.high)
