-- The text that is extracted from a run.
use Rattle.std.proofs.Common.{◌≡◌, ℕ, Bool, true, false, not, ◌&&◌, List, [], ◌∷◌, ◌++◌, map, reverse, flat_map, Option, Some, None, refl, sym, ap, ◌∙◌, subst, append_assoc, append-nil, ℤ, pos}
use Rattle.std.specs.Prelude.{is_some, if◌then◌else◌, ◌||◌, option_to_list}
use Rattle.std.specs.List.{list_any}
use Rattle.std.specs.Ordering.{int_eq}
use Rattle.std.proofs.lemmas.List.{map-append}
use Rattle.std.proofs.lemmas.List.Concat.{flat_map-append}
use Rattle.std.proofs.lemmas.List.Elements.{All-head, All-tail}
use mathlib.Core.List.{reverse-cons}
use Rattle.subsetter_base.specs.Remap.{index_by}
use Rattle.subsetter_base.specs.Texts.{utf16}
use Rattle.pdf_runs.specs.declared.codes.Pair.{Pair}
use Rattle.pdf_runs.specs.declared.items.Direction.{Direction}
use Rattle.pdf_runs.specs.declared.items.Direction.TheVariants.{LeftToRight, RightToLeft, TopToBottom}
use Rattle.pdf_runs.specs.declared.items.Item.{Item}
use Rattle.pdf_runs.specs.declared.pieces.Figure.{Figure}
use Rattle.pdf_runs.specs.declared.pieces.Piece.{Piece}
use Rattle.pdf_runs.specs.Clusters.{clusters}
use Rattle.pdf_runs.specs.Codes.{is_zeroth, pair_of, same, zeroth}
use Rattle.pdf_runs.specs.Items.{text_of, visual}
use Rattle.pdf_runs.specs.Laws.{said}
use Rattle.pdf_runs.specs.Pieces.{pieces_of_cluster, pieces_of_clusters, pieces_of_run}
use Rattle.pdf_runs.proofs.Joined.{joined_map, joined_same, joined_twice, visual_joined}
use Rattle.pdf_runs.proofs.RunLaws.{said_cluster}
use Rattle.pdf_operators.specs.declared.order.Order.{Order}
use Rattle.pdf_operators.specs.declared.order.Order.TheVariants.{Visual, Logical}
use Rattle.pdf_operators.specs.declared.places.Font.{Font}
use Rattle.pdf_operators.specs.declared.places.Stop.{Stop}
use Rattle.pdf_operators.specs.Content.{Mark, code, ended, marks_of, number}
use Rattle.pdf_operators.specs.Operators.{Act, back, code_of, raise, show, text_of_all, units_of}
use Rattle.pdf_operators.specs.Order.{is_turned, turned}
use Rattle.pdf_operators.specs.Pens.{advance_of, end_of, start}
use Rattle.pdf_operators.specs.Places.{laid, last_back, next, shown_at}
use Rattle.pdf_operators.specs.Reading.{AreCoded, IsExtracted, extracted, reading, run_marks, text_in, text_of_pair}
use Rattle.pdf_operators.specs.Runs.{acts_after, has_moved, in_span, is_long, is_spanned, is_unsaid, part_acts, part_pieces, part_stop, parts, run_parts, singles}
use Rattle.pdf_operators.proofs.Coded.{All-back, All-front, pair_found}
use Rattle.pdf_operators.proofs.PartLaws.{All-turned, joined, parts_joined, parts_written, pieces_written}
use Rattle.pdf_operators.proofs.PlaceLaws.{span_marks, way_stays}

-- ---- one code

module _ (says : ℕ → Option (List ℕ)) (size : ℕ) (pairs : List Pair) where
  show_said : (e : Bool) (q : ℤ) (c : ℕ) (rest : List Mark) → extracted says false ((((if e then [] else number q ∷ []) ++ code c ∷ []) ++ []) ++ rest) ≡ says c ∷ extracted says false rest
  show_said true q c rest = refl
  show_said false q c rest = refl

  show_hidden : (e : Bool) (q : ℤ) (c : ℕ) (rest : List Mark) → extracted says true ((((if e then [] else number q ∷ []) ++ code c ∷ []) ++ []) ++ rest) ≡ extracted says true rest
  show_hidden true q c rest = refl
  show_hidden false q c rest = refl

  raised_said : (b : Bool) (r z : ℤ) (q : Pair) (rest : List Mark) → extracted says false (flat_map (marks_of size pairs) ((if b then [] else raise r ∷ []) ++ show z q ∷ []) ++ rest) ≡ says (code_of pairs q) ∷ extracted says false rest
  raised_said true r z q rest = show_said (int_eq z (pos 0)) z (code_of pairs q) rest
  raised_said false r z q rest = show_said (int_eq z (pos 0)) z (code_of pairs q) rest

  raised_hidden : (b : Bool) (r z : ℤ) (q : Pair) (rest : List Mark) → extracted says true (flat_map (marks_of size pairs) ((if b then [] else raise r ∷ []) ++ show z q ∷ []) ++ rest) ≡ extracted says true rest
  raised_hidden true r z q rest = show_hidden (int_eq z (pos 0)) z (code_of pairs q) rest
  raised_hidden false r z q rest = show_hidden (int_eq z (pos 0)) z (code_of pairs q) rest

-- ---- pieces

pub regrouped : (size : ℕ) (pairs : List Pair) (one more : List Act) (rest : List Mark) → flat_map (marks_of size pairs) (one ++ more) ++ rest ≡ flat_map (marks_of size pairs) one ++ (flat_map (marks_of size pairs) more ++ rest)
regrouped size pairs one more rest =
    ap (λ (ms : List Mark). ms ++ rest) (flat_map-append (marks_of size pairs) one more)
    ∙ append_assoc (flat_map (marks_of size pairs) one) (flat_map (marks_of size pairs) more) rest

-- in a span codes have no text
pieces_hidden : (says : ℕ → Option (List ℕ)) (f : Font) (d : Direction) (size : ℕ) (pairs : List Pair) (ps : List Piece) (s : Stop) (rest : List Mark) → extracted says true (flat_map (marks_of size pairs) (laid f d s ps) ++ rest) ≡ extracted says true rest
pieces_hidden says f d size pairs [] s rest = refl
pieces_hidden says f d size pairs (p ∷ ps) s rest =
    let n : Stop = next f d s p in
    ap (extracted says true) (regrouped size pairs (shown_at s n (pair_of p)) (laid f d n ps) rest)
    ∙ raised_hidden says size pairs (int_eq n.rise s.rise) n.rise n.back (pair_of p) (flat_map (marks_of size pairs) (laid f d n ps) ++ rest)
    ∙ pieces_hidden says f d size pairs ps n rest

none_of_two : (a b : Bool) → (a || b) ≡ false → (a ≡ false) × (b ≡ false)
none_of_two true b e = absurd cc
none_of_two false b e = (refl, e)

-- the text of each character
abbrev singles_of : List ℕ → List (List ℕ)
singles_of cs = flat_map (λ (c : ℕ). utf16 c ∷ []) cs

text_by : (b : Bool) (g : Figure) (c : ℕ) → is_zeroth g ≡ b → b ≡ false → text_of_pair (if b then zeroth else record { figure = g; says = Some c }) ≡ Some (utf16 c)
text_by true g c e h = absurd cc
text_by false g c e h = rw e refl

said_more : (o : Option ℕ) (g : Figure) (t : Option (List ℕ)) (rest : List ℕ) → not (is_some o) ≡ false → is_zeroth g ≡ false → t ≡ text_of_pair (if is_zeroth g then zeroth else record { figure = g; says = o }) → t ∷ map Some (singles_of rest) ≡ map Some (singles_of (option_to_list o ++ rest))
said_more None g t rest n z e = absurd cc
said_more (Some c) g t rest n z e = ap (λ (u : Option (List ℕ)). u ∷ map Some (singles_of rest)) (e ∙ text_by (is_zeroth g) g c refl z)

-- where each has something to say
pieces_said : (f : Font) (d : Direction) (size : ℕ) (pairs : List Pair) (ps : List Piece) (s : Stop) (rest : List Mark) → AreCoded pairs ps → list_any is_unsaid ps ≡ false
    → extracted (text_in pairs) false (flat_map (marks_of size pairs) (laid f d s ps) ++ rest) ≡ map Some (singles_of (said ps)) ++ extracted (text_in pairs) false rest
pieces_said f d size pairs [] s rest h e = refl
pieces_said f d size pairs (p ∷ ps) s rest h e =
    let says : ℕ → Option (List ℕ) = text_in pairs in
    let n : Stop = next f d s p in
    let c : ℕ = code_of pairs (pair_of p) in
    let both = none_of_two (is_unsaid p) (list_any is_unsaid ps) e in
    let own = none_of_two (not (is_some p.says)) (is_zeroth p.figure) both.0 in
    let text : text_in pairs c ≡ text_of_pair (pair_of p) = ap text_of_pair (pair_found pairs p (All-head (λ (q : Piece). is_some (index_by same pairs (pair_of q)) ≡ true) p ps h)) in
    ap (extracted says false) (regrouped size pairs (shown_at s n (pair_of p)) (laid f d n ps) rest)
    ∙ raised_said says size pairs (int_eq n.rise s.rise) n.rise n.back (pair_of p) (flat_map (marks_of size pairs) (laid f d n ps) ++ rest)
    ∙ ap (λ (l : List (Option (List ℕ))). says c ∷ l) (pieces_said f d size pairs ps n rest (All-tail (λ (q : Piece). is_some (index_by same pairs (pair_of q)) ≡ true) p ps h) both.1)
    ∙ ap (λ (l : List (Option (List ℕ))). l ++ extracted says false rest) (said_more p.says p.figure (says c) (said ps) own.0 own.1 text)

-- ---- parts

abbrev texts_by : Bool → List ℕ → List Piece → List (List ℕ)
texts_by true text ps = units_of text ∷ []
texts_by false text ps = singles_of (said ps)

-- the texts of a part: that of its span, or those of its codes
abbrev texts_of : Font → Direction → Bool → List (List Item) → List (List ℕ)
texts_of f d b g = texts_by (is_spanned d g (turned b (pieces_of_clusters d f.inked.now g))) (text_of_all g) (turned b (pieces_of_clusters d f.inked.now g))

part_by : (b : Bool) (f : Font) (d : Direction) (size : ℕ) (pairs : List Pair) (g : List (List Item)) (ps : List Piece) (s : Stop) (rest : List Mark) → AreCoded pairs ps → is_spanned d g ps ≡ b
    → extracted (text_in pairs) false (flat_map (marks_of size pairs) (in_span b (text_of_all g) (laid f d s ps)) ++ rest) ≡ map Some (texts_by b (text_of_all g) ps) ++ extracted (text_in pairs) false rest
part_by false f d size pairs g ps s rest h e = pieces_said f d size pairs ps s rest h (none_of_two (list_any is_unsaid ps) (has_moved d ps && not (is_long g)) e).0
part_by true f d size pairs g ps s rest h e =
    ap (λ (ms : List Mark). Some (units_of (text_of_all g)) ∷ extracted (text_in pairs) true ms) (span_marks size pairs (laid f d s ps) rest)
    ∙ ap (λ (l : List (Option (List ℕ))). Some (units_of (text_of_all g)) ∷ l) (pieces_hidden (text_in pairs) f d size pairs ps s (ended ∷ rest))

end_by : (a b : Bool) (says : ℕ → Option (List ℕ)) (size : ℕ) (pairs : List Pair) (z : ℤ) → extracted says false (flat_map (marks_of size pairs) ((if a then [] else back z ∷ []) ++ (if b then [] else raise (pos 0) ∷ []))) ≡ []
end_by true true says size pairs z = refl
end_by true false says size pairs z = refl
end_by false true says size pairs z = refl
end_by false false says size pairs z = refl

parts_said : (f : Font) (d : Direction) (size : ℕ) (pairs : List Pair) (end : ℤ) (gs : List (List (List Item))) (b : Bool) (s : Stop) → s.is_turned ≡ b → AreCoded pairs (pieces_written f d b gs)
    → extracted (text_in pairs) false (flat_map (marks_of size pairs) (acts_after f d end s gs)) ≡ map Some (flat_map (texts_of f d b) gs)
parts_said f d size pairs end [] b s e h = end_by (int_eq (last_back f end s) (pos 0)) (int_eq s.rise (pos 0)) (text_in pairs) size pairs (last_back f end s)
parts_said f d size pairs end (g ∷ gs) b s e h =
    let says : ℕ → Option (List ℕ) = text_in pairs in
    let ps : List Piece = part_pieces f d s g in
    let own : ps ≡ turned b (pieces_of_clusters d f.inked.now g) = ap (λ (t : Bool). turned t (pieces_of_clusters d f.inked.now g)) e in
    let qs : List Piece = pieces_written f d b gs in
    let n : Stop = part_stop f d s g in
    let coded : AreCoded pairs (ps ++ qs) = subst (λ (l : List Piece). AreCoded pairs (l ++ qs)) (sym own) h in
    let later : List (Option (List ℕ)) = map Some (flat_map (texts_of f d b) gs) in
    ap (extracted says false) (flat_map-append (marks_of size pairs) (part_acts f d s g) (acts_after f d end n gs))
    ∙ part_by (is_spanned d g ps) f d size pairs g ps s (flat_map (marks_of size pairs) (acts_after f d end n gs)) (All-front (λ (q : Piece). is_some (index_by same pairs (pair_of q)) ≡ true) ps qs coded) refl
    ∙ ap (λ (l : List (Option (List ℕ))). map Some (texts_by (is_spanned d g ps) (text_of_all g) ps) ++ l) (parts_said f d size pairs end gs b n (way_stays f d ps s ∙ e) (All-back (λ (q : Piece). is_some (index_by same pairs (pair_of q)) ≡ true) ps qs coded))
    ∙ ap (λ (l : List Piece). map Some (texts_by (is_spanned d g l) (text_of_all g) l) ++ later) own
    ∙ sym (map-append Some (texts_of f d b g) (flat_map (texts_of f d b) gs))

-- ---- in reading order

singles_read : (cs : List ℕ) → joined (singles_of cs) ≡ units_of cs
singles_read cs =
    joined_twice (λ (t : List ℕ). t) (λ (c : ℕ). utf16 c ∷ []) cs
    ∙ joined_same (λ (c : ℕ). utf16 c ++ []) utf16 cs (λ c. append-nil (utf16 c))

singles_turned : (cs : List ℕ) → joined (reverse (singles_of cs)) ≡ units_of (reverse cs)
singles_turned cs =
    ap joined (visual_joined RightToLeft (λ (c : ℕ). utf16 c ∷ []) cs)
    ∙ joined_twice (λ (t : List ℕ). t) (λ (c : ℕ). reverse (utf16 c ∷ [])) (reverse cs)
    ∙ joined_same (λ (c : ℕ). utf16 c ++ []) utf16 (reverse cs) (λ c. append-nil (utf16 c))

texts_read : (b : Bool) (text : List ℕ) (ps : List Piece) → said ps ≡ text → joined (texts_by b text ps) ≡ units_of text
texts_read true text ps e = append-nil (units_of text)
texts_read false text ps e = singles_read (said ps) ∙ ap units_of e

texts_turned : (b : Bool) (text : List ℕ) (ps : List Piece) → reverse (said ps) ≡ text → joined (reverse (texts_by b text ps)) ≡ units_of text
texts_turned true text ps e = append-nil (units_of text)
texts_turned false text ps e = singles_turned (said ps) ∙ ap units_of e

one_turned : (o : Option ℕ) → reverse (option_to_list o) ≡ option_to_list o
one_turned None = refl
one_turned (Some c) = refl

said_turned : (ps : List Piece) → said (reverse ps) ≡ reverse (said ps)
said_turned ps =
    sym (visual_joined RightToLeft (λ (p : Piece). option_to_list p.says) ps
    ∙ joined_same (λ (p : Piece). reverse (option_to_list p.says)) (λ (p : Piece). option_to_list p.says) (reverse ps) (λ p. one_turned p.says))

-- what clusters say, as they are seen
said_clusters : (d : Direction) (inked : List Bool) (g : List (List Item)) → visual d (said (pieces_of_clusters d inked g)) ≡ text_of_all (visual d g)
said_clusters d inked g =
    let pieces : List Item → List Piece = pieces_of_cluster d inked in
    ap (λ (l : List ℕ). visual d l) (joined_twice (λ (p : Piece). option_to_list p.says) pieces g)
    ∙ visual_joined d (λ c. said (pieces c)) g
    ∙ joined_same (λ c. visual d (said (pieces c))) text_of (visual d g) (λ c. said_cluster d inked c)

texts_joined : (f : Font) (d : Direction) (gs : List (List (List Item))) → ((g : List (List Item)) → said (pieces_of_clusters d f.inked.now g) ≡ text_of_all g) → joined (flat_map (texts_of f d false) gs) ≡ units_of (text_of_all (joined gs))
texts_joined f d gs same =
    joined_twice (λ (t : List ℕ). t) (texts_of f d false) gs
    ∙ joined_same (λ g. joined (texts_of f d false g)) (λ g. units_of (text_of_all g)) gs (λ g. texts_read (is_spanned d g (pieces_of_clusters d f.inked.now g)) (text_of_all g) (pieces_of_clusters d f.inked.now g) (same g))
    ∙ sym (joined_twice utf16 text_of_all gs)
    ∙ ap units_of (sym (joined_twice text_of (λ (g : List (List Item)). g) gs))

singles_map : (cs : List (List Item)) → reverse (singles cs) ≡ singles (reverse cs)
singles_map [] = refl
singles_map (c ∷ cs) =
    reverse-cons (c ∷ []) (singles cs)
    ∙ ap (λ (l : List (List (List Item))). l ++ (c ∷ []) ∷ []) (singles_map cs)
    ∙ sym (ap singles (reverse-cons c cs) ∙ map-append (λ (e : List Item). e ∷ []) (reverse cs) (c ∷ []))

-- clusters alone, from the last to the first
singles_joined : (texts : List (List Item) → List (List ℕ)) (cs : List (List Item)) → ((c : List Item) → joined (texts (c ∷ [])) ≡ units_of (text_of c)) → joined (flat_map texts (reverse (singles cs))) ≡ units_of (text_of_all (reverse cs))
singles_joined texts cs same =
    joined_twice (λ (t : List ℕ). t) texts (reverse (singles cs))
    ∙ ap (λ (l : List (List (List Item))). flat_map (λ g. joined (texts g)) l) (singles_map cs)
    ∙ joined_map (λ g. joined (texts g)) (λ (c : List Item). c ∷ []) (reverse cs)
    ∙ joined_same (λ c. joined (texts (c ∷ []))) (λ c. units_of (text_of c)) (reverse cs) same
    ∙ sym (joined_twice utf16 text_of (reverse cs))

alone_said : (f : Font) (c : List Item) → reverse (said (pieces_of_clusters RightToLeft f.inked.now (c ∷ []))) ≡ text_of_all (c ∷ [])
alone_said f c = said_clusters RightToLeft f.inked.now (c ∷ [])

one_text : (c : List Item) → units_of (text_of_all (c ∷ [])) ≡ units_of (text_of c)
one_text c = ap units_of (append-nil (text_of c))

all_read : (f : Font) (d : Direction) (o : Order) (cs : List (List Item)) → reading d o (flat_map (texts_of f d (is_turned d o)) (turned (is_turned d o) (parts d cs))) ≡ units_of (text_of_all (visual d cs))
all_read f LeftToRight o cs = texts_joined f LeftToRight (parts LeftToRight cs) (λ g. said_clusters LeftToRight f.inked.now g) ∙ ap (λ (l : List (List Item)). units_of (text_of_all l)) (parts_joined LeftToRight cs)
all_read f TopToBottom o cs = texts_joined f TopToBottom (parts TopToBottom cs) (λ g. said_clusters TopToBottom f.inked.now g) ∙ ap (λ (l : List (List Item)). units_of (text_of_all l)) (parts_joined TopToBottom cs)
all_read f RightToLeft Visual cs =
    let pieces : List (List Item) → List Piece = pieces_of_clusters RightToLeft f.inked.now in
    ap joined (visual_joined RightToLeft (texts_of f RightToLeft false) (singles cs))
    ∙ singles_joined (λ g. reverse (texts_of f RightToLeft false g)) cs (λ c. texts_turned (is_spanned RightToLeft (c ∷ []) (pieces (c ∷ []))) (text_of_all (c ∷ [])) (pieces (c ∷ [])) (alone_said f c) ∙ one_text c)
all_read f RightToLeft Logical cs =
    let pieces : List (List Item) → List Piece = λ g. reverse (pieces_of_clusters RightToLeft f.inked.now g) in
    singles_joined (texts_of f RightToLeft true) cs (λ c. texts_read (is_spanned RightToLeft (c ∷ []) (pieces (c ∷ []))) (text_of_all (c ∷ [])) (pieces (c ∷ [])) (said_turned (pieces_of_clusters RightToLeft f.inked.now (c ∷ [])) ∙ alone_said f c) ∙ one_text c)

pub text_is_extracted : (f : Font) (d : Direction) (o : Order) (size : ℕ) (pairs : List Pair) (is : List Item) → AreCoded pairs (pieces_of_run d f.inked.now is)
    → IsExtracted d o is (extracted (text_in pairs) false (run_marks f d o size pairs is))
text_is_extracted f d o size pairs is h =
    let b : Bool = is_turned d o in
    record {
      texts = flat_map (texts_of f d b) (run_parts d o is);
      all =
          parts_said f d size pairs (end_of d (advance_of is)) (run_parts d o is) b (start b (advance_of is)) refl
          (subst (AreCoded pairs) (sym (parts_written f d b (clusters is))) (All-turned (λ (q : Piece). is_some (index_by same pairs (pair_of q)) ≡ true) b (pieces_of_run d f.inked.now is) h));
      text = all_read f d o (clusters is);
    }
