-- The parts of a run are its clusters.
use Rattle.std.proofs.Common.{◌≡◌, ℕ, Bool, true, false, if◌then◌else◌, List, [], ◌∷◌, ◌++◌, reverse, flat_map, refl, sym, ap, ◌∙◌, append-nil, subst, Bor, length, take, drop, arith}
use Rattle.std.specs.Prelude.{All}
use Rattle.std.proofs.lemmas.List.Elements.{All-nil, All-cons, All-append, All-head, All-tail}
use Rattle.std.proofs.lemmas.List.{drop_all, map-append, take_all}
use mathlib.Core.List.{reverse-cons}
use Rattle.pdf_runs.specs.declared.items.Direction.{Direction}
use Rattle.pdf_runs.specs.declared.items.Direction.TheVariants.{LeftToRight, RightToLeft, TopToBottom}
use Rattle.pdf_runs.specs.declared.items.Item.{Item}
use Rattle.pdf_runs.specs.declared.pieces.Piece.{Piece}
use Rattle.pdf_runs.specs.Pieces.{pieces_of_cluster, pieces_of_clusters}
use Rattle.pdf_runs.specs.Clusters.{lists}
use Rattle.pdf_runs.specs.Words.{groups, words}
use Rattle.pdf_runs.proofs.Joined.{joined_same, joined_twice, visual_joined, visual_length}
use Rattle.pdf_runs.proofs.WordLaws.{words_are_clusters}
use Rattle.pdf_operators.specs.declared.places.Font.{Font}
use Rattle.pdf_operators.specs.Order.{turned}
use Rattle.pdf_operators.specs.Runs.{is_long, parts, singles, word_parts}

abbrev pub joined : {A : Type 0} → List (List A) → List A
joined xss = flat_map (λ xs. xs) xss

-- ---- the order

pub All-turned : {A : Type 0} (P : A → Type 0) (b : Bool) (xs : List A) → All P xs → All P (turned b xs)
All-turned P false xs h = h
All-turned P true [] h = h
All-turned P true (x ∷ xs) h =
    subst (All P) (sym (reverse-cons x xs)) (All-append P (reverse xs) (x ∷ []) (All-turned P true xs (All-tail P x xs h)) (All-cons P x [] (All-head P x xs h) (All-nil P)))

-- the lists of clusters that are borrowed, in that order
pub groups_turned : (b : Bool) (gs : List (Bor (List (Bor (List Item))))) → groups (turned b gs) ≡ turned b (groups gs)
groups_turned false gs = refl
groups_turned true [] = refl
groups_turned true (g ∷ gs) =
    let group : Bor (List (Bor (List Item))) → List (List Item) = λ h. lists h.now in
    ap groups (reverse-cons g gs)
    ∙ map-append group (reverse gs) (g ∷ [])
    ∙ ap (λ (l : List (List (List Item))). l ++ lists g.now ∷ []) (groups_turned true gs)
    ∙ sym (reverse-cons (lists g.now) (groups gs))

turned_length : {A : Type 0} (b : Bool) (xs : List A) → length (turned b xs) ≡ length xs
turned_length false xs = refl
turned_length true xs = visual_length RightToLeft xs

-- a list that is turned where it is
pub turned_whole : {A : Type 0} (b : Bool) (n : ℕ) (old new : List A) → length old ≡ n → new ≡ turned b old → take n (new ++ drop (length new) old) ≡ turned b old
turned_whole b n old new e is =
    let long : length new ≡ length old = ap length is ∙ turned_length b old in
    ap (λ l. take n (new ++ l)) (drop_all (length new) old (omega (arith, long))) ∙ ap (take n) (append-nil new) ∙ take_all n new (omega (arith, long, e)) ∙ is

-- joined lists in the order in which they are written
turned_joined : {A B : Type 0} (b : Bool) (f : A → List B) (xs : List A) → flat_map (λ x. turned b (f x)) (turned b xs) ≡ turned b (flat_map f xs)
turned_joined false f xs = refl
turned_joined true f xs = sym (visual_joined RightToLeft f xs)

-- ---- parts

singles_joined : (cs : List (List Item)) → joined (singles cs) ≡ cs
singles_joined [] = refl
singles_joined (c ∷ cs) = ap (λ (l : List (List Item)). c ∷ l) (singles_joined cs)

word_by : (b : Bool) (w : List (List Item)) → joined (if b then singles w else w ∷ []) ≡ w
word_by true w = singles_joined w
word_by false w = append-nil w

-- one after the other the parts are the clusters
pub parts_joined : (d : Direction) (cs : List (List Item)) → joined (parts d cs) ≡ cs
parts_joined LeftToRight cs =
    joined_twice (λ (g : List (List Item)). g) word_parts (words cs)
    ∙ joined_same (λ (w : List (List Item)). joined (word_parts w)) (λ (w : List (List Item)). w) (words cs) (λ w. word_by (is_long w) w)
    ∙ words_are_clusters cs
parts_joined RightToLeft cs = singles_joined cs
parts_joined TopToBottom cs = singles_joined cs

-- the pieces of parts in the order in which they are written
abbrev pub pieces_written : Font → Direction → Bool → List (List (List Item)) → List Piece
pieces_written f d b gs = flat_map (λ (g : List (List Item)). turned b (pieces_of_clusters d f.inked.now g)) gs

pub parts_written : (f : Font) (d : Direction) (b : Bool) (cs : List (List Item)) → pieces_written f d b (turned b (parts d cs)) ≡ turned b (pieces_of_clusters d f.inked.now cs)
parts_written f d b cs =
    let pieces : List (List Item) → List Piece = pieces_of_clusters d f.inked.now in
    turned_joined b pieces (parts d cs)
    ∙ ap (λ (l : List Piece). turned b l) (sym (joined_twice (pieces_of_cluster d f.inked.now) (λ (g : List (List Item)). g) (parts d cs)) ∙ ap pieces (parts_joined d cs))
