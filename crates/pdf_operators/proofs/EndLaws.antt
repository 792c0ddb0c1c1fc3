-- Where the pen is after a run.
use Rattle.std.proofs.Common.{◌≡◌, ℕ, Bool, true, false, List, [], ◌∷◌, ◌++◌, flat_map, refl, sym, ap, ◌∙◌, subst, ℤ, pos, ◌+ℤ◌}
use Rattle.std.specs.Prelude.{is_some, if◌then◌else◌, ◌-ℤ◌}
use Rattle.std.specs.Ordering.{int_eq}
use Rattle.std.proofs.lemmas.Bool.Decides.{Decides-int_eq}
use Rattle.std.proofs.lemmas.List.Concat.{flat_map-append}
use Rattle.std.proofs.lemmas.List.Elements.{All-head, All-tail}
use Rattle.subsetter_base.specs.Remap.{index_by}
use Rattle.pdf_values.specs.Rounding.{thousandths}
use Rattle.pdf_runs.specs.declared.codes.Pair.{Pair}
use Rattle.pdf_runs.specs.declared.items.Direction.{Direction}
use Rattle.pdf_runs.specs.declared.items.Item.{Item}
use Rattle.pdf_runs.specs.declared.pieces.Figure.{Figure}
use Rattle.pdf_runs.specs.declared.pieces.Piece.{Piece}
use Rattle.pdf_runs.specs.Clusters.{clusters}
use Rattle.pdf_runs.specs.Codes.{pair_of, same}
use Rattle.pdf_runs.specs.Pieces.{pieces_of_clusters, pieces_of_run}
use Rattle.pdf_operators.specs.declared.order.Order.{Order}
use Rattle.pdf_operators.specs.declared.places.Font.{Font}
use Rattle.pdf_operators.specs.declared.places.Stop.{Stop}
use Rattle.pdf_operators.specs.Content.{Mark, code, ended, marks_of, number}
use Rattle.pdf_operators.specs.Operators.{back, code_of, raise, show, text_of_all}
use Rattle.pdf_operators.specs.Order.{is_turned, turned}
use Rattle.pdf_operators.specs.Pens.{advance_of, end_of, start}
use Rattle.pdf_operators.specs.Places.{laid, last_back, metrics_of, next, origin_at, shown_at, stop_after}
use Rattle.pdf_operators.specs.Reading.{AreCoded, IsEnd, pen_past, run_marks, width_in}
use Rattle.pdf_operators.specs.Runs.{acts_after, in_span, is_spanned, part_acts, part_pieces, part_stop, run_parts}
use Rattle.pdf_operators.proofs.Coded.{All-back, All-front, figure_found}
use Rattle.pdf_operators.proofs.PartLaws.{All-turned, parts_written, pieces_written}
use Rattle.pdf_operators.proofs.PlaceLaws.{back_to, nothing_off, span_marks, way_stays}
use Rattle.pdf_operators.proofs.TextLaws.{regrouped}

-- ---- one code

show_end : (e : Bool) (w : ℕ → ℤ) (at q : ℤ) (c : ℕ) (rest : List Mark) → (e ≡ true → q ≡ pos 0) → pen_past w at ((((if e then [] else number q ∷ []) ++ code c ∷ []) ++ []) ++ rest) ≡ pen_past w ((at -ℤ q) +ℤ w c) rest
show_end true w at q c rest h = ap (λ (a : ℤ). pen_past w (a +ℤ w c) rest) (nothing_off at q (h refl))
show_end false w at q c rest h = refl

raised_end : (b : Bool) (w : ℕ → ℤ) (size : ℕ) (pairs : List Pair) (at r z : ℤ) (q : Pair) (rest : List Mark) → pen_past w at (flat_map (marks_of size pairs) ((if b then [] else raise r ∷ []) ++ show z q ∷ []) ++ rest) ≡ pen_past w ((at -ℤ z) +ℤ w (code_of pairs q)) rest
raised_end true w size pairs at r z q rest = show_end (int_eq z (pos 0)) w at z (code_of pairs q) rest (λ h. (Decides-int_eq z (pos 0)).0 h)
raised_end false w size pairs at r z q rest = show_end (int_eq z (pos 0)) w at z (code_of pairs q) rest (λ h. (Decides-int_eq z (pos 0)).0 h)

-- ---- pieces

pieces_end : (f : Font) (d : Direction) (size : ℕ) (pairs : List Pair) (ps : List Piece) (s : Stop) (rest : List Mark) → AreCoded pairs ps
    → pen_past (width_in f pairs) s.at (flat_map (marks_of size pairs) (laid f d s ps) ++ rest) ≡ pen_past (width_in f pairs) (stop_after f d s ps).at rest
pieces_end f d size pairs [] s rest h = refl
pieces_end f d size pairs (p ∷ ps) s rest h =
    let w : ℕ → ℤ = width_in f pairs in
    let n : Stop = next f d s p in
    let shown : ℤ = origin_at f d s p +ℤ (metrics_of f p.figure).position in
    let more : List Mark = flat_map (marks_of size pairs) (laid f d n ps) ++ rest in
    ap (pen_past w s.at) (regrouped size pairs (shown_at s n (pair_of p)) (laid f d n ps) rest)
    ∙ raised_end (int_eq n.rise s.rise) w size pairs s.at n.rise n.back (pair_of p) more
    ∙ ap (λ (g : Figure). pen_past w ((s.at -ℤ n.back) +ℤ (metrics_of f g).displacement) more) (figure_found pairs p (All-head (λ (q : Piece). is_some (index_by same pairs (pair_of q)) ≡ true) p ps h))
    ∙ ap (λ (a : ℤ). pen_past w (a +ℤ (metrics_of f p.figure).displacement) more) (back_to s.at shown)
    ∙ pieces_end f d size pairs ps n rest (All-tail (λ (q : Piece). is_some (index_by same pairs (pair_of q)) ≡ true) p ps h)

-- ---- parts

part_end : (b : Bool) (f : Font) (d : Direction) (size : ℕ) (pairs : List Pair) (text : List ℕ) (ps : List Piece) (s : Stop) (rest : List Mark) → AreCoded pairs ps
    → pen_past (width_in f pairs) s.at (flat_map (marks_of size pairs) (in_span b text (laid f d s ps)) ++ rest) ≡ pen_past (width_in f pairs) (stop_after f d s ps).at rest
part_end false f d size pairs text ps s rest h = pieces_end f d size pairs ps s rest h
part_end true f d size pairs text ps s rest h =
    ap (pen_past (width_in f pairs) s.at) (span_marks size pairs (laid f d s ps) rest) ∙ pieces_end f d size pairs ps s (ended ∷ rest) h

end_by : (a b : Bool) (w : ℕ → ℤ) (size : ℕ) (pairs : List Pair) (at z : ℤ) → (a ≡ true → z ≡ pos 0) → pen_past w at (flat_map (marks_of size pairs) ((if a then [] else back z ∷ []) ++ (if b then [] else raise (pos 0) ∷ []))) ≡ at -ℤ z
end_by true true w size pairs at z h = nothing_off at z (h refl)
end_by true false w size pairs at z h = nothing_off at z (h refl)
end_by false true w size pairs at z h = refl
end_by false false w size pairs at z h = refl

parts_end : (f : Font) (d : Direction) (size : ℕ) (pairs : List Pair) (end : ℤ) (gs : List (List (List Item))) (b : Bool) (s : Stop) → s.is_turned ≡ b → AreCoded pairs (pieces_written f d b gs)
    → pen_past (width_in f pairs) s.at (flat_map (marks_of size pairs) (acts_after f d end s gs)) ≡ thousandths end f.units
parts_end f d size pairs end [] b s e h =
    end_by (int_eq (last_back f end s) (pos 0)) (int_eq s.rise (pos 0)) (width_in f pairs) size pairs s.at (last_back f end s) (λ t. (Decides-int_eq (last_back f end s) (pos 0)).0 t)
    ∙ back_to s.at (thousandths end f.units)
parts_end f d size pairs end (g ∷ gs) b s e h =
    let w : ℕ → ℤ = width_in f pairs in
    let ps : List Piece = part_pieces f d s g in
    let own : ps ≡ turned b (pieces_of_clusters d f.inked.now g) = ap (λ (t : Bool). turned t (pieces_of_clusters d f.inked.now g)) e in
    let qs : List Piece = pieces_written f d b gs in
    let n : Stop = part_stop f d s g in
    let coded : AreCoded pairs (ps ++ qs) = subst (λ (l : List Piece). AreCoded pairs (l ++ qs)) (sym own) h in
    ap (pen_past w s.at) (flat_map-append (marks_of size pairs) (part_acts f d s g) (acts_after f d end n gs))
    ∙ part_end (is_spanned d g ps) f d size pairs (text_of_all g) ps s (flat_map (marks_of size pairs) (acts_after f d end n gs)) (All-front (λ (q : Piece). is_some (index_by same pairs (pair_of q)) ≡ true) ps qs coded)
    ∙ parts_end f d size pairs end gs b n (way_stays f d ps s ∙ e) (All-back (λ (q : Piece). is_some (index_by same pairs (pair_of q)) ≡ true) ps qs coded)

pub pen_is_placed : (f : Font) (d : Direction) (o : Order) (size : ℕ) (pairs : List Pair) (is : List Item) → AreCoded pairs (pieces_of_run d f.inked.now is)
    → IsEnd f d is (pen_past (width_in f pairs) (pos 0) (run_marks f d o size pairs is))
pen_is_placed f d o size pairs is h =
    let b : Bool = is_turned d o in
    parts_end f d size pairs (end_of d (advance_of is)) (run_parts d o is) b (start b (advance_of is)) refl
    (subst (AreCoded pairs) (sym (parts_written f d b (clusters is))) (All-turned (λ (q : Piece). is_some (index_by same pairs (pair_of q)) ≡ true) b (pieces_of_run d f.inked.now is) h))
