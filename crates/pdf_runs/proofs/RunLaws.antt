-- The laws of a run: what its pieces say, where the pen goes, and what they draw.
use Rattle.std.proofs.Common.{◌≡◌, ℕ, suc, Bool, cond, List, [], ◌∷◌, ◌++◌, length, slice_get, flat_map, refl, sym, ap, ◌∙◌, append_assoc, ℤ, pos, ◌+ℤ◌}
use Rattle.std.proofs.lemmas.List.{length-map}
use lib.IntN.{+ℤ_idr, +ℤ_assoc}
use Rattle.pdf_runs.specs.declared.items.Direction.{Direction}
use Rattle.pdf_runs.specs.declared.items.Item.{Item}
use Rattle.pdf_runs.specs.declared.pieces.Piece.{Piece}
use Rattle.pdf_runs.specs.Clusters.{clusters}
use Rattle.pdf_runs.specs.Items.{text_of, visual}
use Rattle.pdf_runs.specs.Laws.{Drawn, GlyphsAreDrawn, PenGoesOn, TextIsSaid, drawn, said, total, wanted}
use Rattle.pdf_runs.specs.Pieces.{bearer, blank_of, is_bare, piece_of, pieces_of_cluster, pieces_of_run, shares_of, spread, spread_all}
use Rattle.pdf_runs.specs.Shares.{shares}
use Rattle.pdf_runs.proofs.ClusterLaws.{clusters_are_the_run}
use Rattle.pdf_runs.proofs.Joined.{joined_map, joined_same, joined_twice, visual_joined, visual_length, visual_twice}
use Rattle.pdf_runs.proofs.ShareLaws.{shares_joined, shares_length}
use Rattle.pdf_runs.proofs.SpreadLaws.{drawn_append, drawn_spread, said_append, said_spread, total_append, total_spread}

one_less : (a b : ℕ) → suc a ≡ suc b → a ≡ b
one_less a b e = cc

shares_fit : (d : Direction) (is : List Item) → length (shares_of d is) ≡ length is
shares_fit d is =
    length-map (visual d (shares (length is) (text_of is))) (visual d) ∙ visual_length d (shares (length is) (text_of is)) ∙ shares_length (length is) (text_of is)

-- ---- what is said

said_all : (inked : List Bool) (is : List Item) (ss : List (List ℕ)) → length ss ≡ length is → said (spread_all inked is ss) ≡ flat_map (λ (s : List ℕ). s) ss
said_all inked [] [] e = refl
said_all inked [] (s ∷ ss) e = absurd cc
said_all inked (i ∷ is) [] e = absurd cc
said_all inked (i ∷ is) (s ∷ ss) e =
    said_append (spread inked i s) (spread_all inked is ss)
    ∙ ap (λ (l : List ℕ). l ++ said (spread_all inked is ss)) (said_spread inked i s)
    ∙ ap (λ (l : List ℕ). s ++ l) (said_all inked is ss (one_less (length ss) (length is) e))

shares_are_text : (is : List Item) → flat_map (λ (s : List ℕ). s) (shares (length is) (text_of is)) ≡ text_of is
shares_are_text [] = refl
shares_are_text (i ∷ is) = shares_joined (length is) (text_of (i ∷ is))

pub said_cluster : (d : Direction) (inked : List Bool) (is : List Item) → visual d (said (pieces_of_cluster d inked is)) ≡ text_of is
said_cluster d inked is =
    let all : List (List ℕ) = shares (length is) (text_of is) in
    ap (λ (l : List ℕ). visual d l) (
    said_all inked is (shares_of d is) (shares_fit d is)
    ∙ joined_map (λ (s : List ℕ). s) (visual d) (visual d all)
    ∙ sym (visual_joined d (λ (s : List ℕ). s) all)
    ∙ ap (λ (l : List ℕ). visual d l) (shares_are_text is))
    ∙ visual_twice d (text_of is)

pub text_is_said : TextIsSaid
text_is_said d inked is =
    let pieces : List Item → List Piece = λ c. pieces_of_cluster d inked c in
    ap (λ (l : List ℕ). visual d l) (joined_twice _ pieces (clusters is))
    ∙ visual_joined d (λ c. said (pieces c)) (clusters is)
    ∙ joined_same (λ c. visual d (said (pieces c))) text_of (visual d (clusters is)) (λ c. said_cluster d inked c)

-- ---- where the pen goes

total_all : (f : Piece → ℤ) (g : Item → ℤ) (inked : List Bool) → ((c : ℕ) → f (blank_of c) ≡ pos 0) → ((i : Item) (s : List ℕ) → f (piece_of inked i (slice_get s (bearer s))) ≡ g i)
    → (is : List Item) (ss : List (List ℕ)) → length ss ≡ length is → total f (spread_all inked is ss) ≡ total g is
total_all f g inked blank same [] [] e = refl
total_all f g inked blank same [] (s ∷ ss) e = absurd cc
total_all f g inked blank same (i ∷ is) [] e = absurd cc
total_all f g inked blank same (i ∷ is) (s ∷ ss) e =
    total_append f (spread inked i s) (spread_all inked is ss)
    ∙ ap (λ (z : ℤ). z +ℤ total f (spread_all inked is ss)) (total_spread f blank inked i s ∙ same i s)
    ∙ ap (λ (z : ℤ). g i +ℤ z) (total_all f g inked blank same is ss (one_less (length ss) (length is) e))

total_joined : (f : Piece → ℤ) (g : Item → ℤ) (pieces : List Item → List Piece) → ((c : List Item) → total f (pieces c) ≡ total g c) → (cs : List (List Item)) → total f (flat_map pieces cs) ≡ total g (flat_map (λ (c : List Item). c) cs)
total_joined f g pieces same [] = refl
total_joined f g pieces same (c ∷ cs) =
    total_append f (pieces c) (flat_map pieces cs)
    ∙ ap (λ (z : ℤ). z +ℤ total f (flat_map pieces cs)) (same c)
    ∙ ap (λ (z : ℤ). total g c +ℤ z) (total_joined f g pieces same cs)
    ∙ sym (total_append g c (flat_map (λ (c : List Item). c) cs))

pen_by : (f : Piece → ℤ) (g : Item → ℤ) (d : Direction) (inked : List Bool) → ((c : ℕ) → f (blank_of c) ≡ pos 0) → ((i : Item) (s : List ℕ) → f (piece_of inked i (slice_get s (bearer s))) ≡ g i)
    → (is : List Item) → total f (pieces_of_run d inked is) ≡ total g is
pen_by f g d inked blank same is =
    total_joined f g (pieces_of_cluster d inked) (λ c. total_all f g inked blank same c (shares_of d c) (shares_fit d c)) (clusters is)
    ∙ ap (total g) (clusters_are_the_run is)

pub pen_goes_on : PenGoesOn
pen_goes_on d inked is = (
  pen_by (λ (p : Piece). p.x_advance) (λ (i : Item). i.x_advance) d inked (λ c. refl) (λ i s. refl) is,
  pen_by (λ (p : Piece). p.y_advance) (λ (i : Item). i.y_advance) d inked (λ c. refl) (λ i s. refl) is,
)

-- ---- what is drawn

drawn_all : (inked : List Bool) (x y : ℤ) (is : List Item) (ss : List (List ℕ)) → length ss ≡ length is → drawn x y (spread_all inked is ss) ≡ wanted inked x y is
drawn_all inked x y [] [] e = refl
drawn_all inked x y [] (s ∷ ss) e = absurd cc
drawn_all inked x y (i ∷ is) [] e = absurd cc
drawn_all inked x y (i ∷ is) (s ∷ ss) e =
    let here : List Drawn = cond (is_bare inked i) [] (record { glyph = i.glyph; x = x +ℤ i.x_offset; y = y +ℤ i.y_offset } ∷ []) in
    let ps : List Piece = spread inked i s in
    let qs : List Piece = spread_all inked is ss in
    let dy : ℤ = total (λ (p : Piece). p.y_advance) ps in
    drawn_append x y ps qs
    ∙ ap (λ (l : List Drawn). l ++ drawn (x +ℤ total (λ (p : Piece). p.x_advance) ps) (y +ℤ dy) qs) (drawn_spread inked x y i s)
    ∙ ap (λ (z : ℤ). here ++ drawn (x +ℤ z) (y +ℤ dy) qs) (total_spread (λ (p : Piece). p.x_advance) (λ c. refl) inked i s)
    ∙ ap (λ (z : ℤ). here ++ drawn (x +ℤ i.x_advance) (y +ℤ z) qs) (total_spread (λ (p : Piece). p.y_advance) (λ c. refl) inked i s)
    ∙ ap (λ (l : List Drawn). here ++ l) (drawn_all inked (x +ℤ i.x_advance) (y +ℤ i.y_advance) is ss (one_less (length ss) (length is) e))

wanted_append : (inked : List Bool) (x y : ℤ) (is js : List Item) → wanted inked x y (is ++ js) ≡ wanted inked x y is ++ wanted inked (x +ℤ total (λ (i : Item). i.x_advance) is) (y +ℤ total (λ (i : Item). i.y_advance) is) js
wanted_append inked x y [] js = ap (λ (a : ℤ). wanted inked a y js) (sym (+ℤ_idr x)) ∙ ap (λ (b : ℤ). wanted inked (x +ℤ pos 0) b js) (sym (+ℤ_idr y))
wanted_append inked x y (i ∷ is) js =
    let here : List Drawn = cond (is_bare inked i) [] (record { glyph = i.glyph; x = x +ℤ i.x_offset; y = y +ℤ i.y_offset } ∷ []) in
    let first : List Drawn = wanted inked (x +ℤ i.x_advance) (y +ℤ i.y_advance) is in
    let xs : ℤ = total (λ (j : Item). j.x_advance) is in
    let ys : ℤ = total (λ (j : Item). j.y_advance) is in
    ap (λ (l : List Drawn). here ++ l) (wanted_append inked (x +ℤ i.x_advance) (y +ℤ i.y_advance) is js)
    ∙ ap (λ (a : ℤ). here ++ (first ++ wanted inked a ((y +ℤ i.y_advance) +ℤ ys) js)) (+ℤ_assoc x i.x_advance xs)
    ∙ ap (λ (b : ℤ). here ++ (first ++ wanted inked (x +ℤ (i.x_advance +ℤ xs)) b js)) (+ℤ_assoc y i.y_advance ys)
    ∙ sym (append_assoc here first (wanted inked (x +ℤ (i.x_advance +ℤ xs)) (y +ℤ (i.y_advance +ℤ ys)) js))

drawn_joined : (d : Direction) (inked : List Bool) (x y : ℤ) (cs : List (List Item)) → drawn x y (flat_map (pieces_of_cluster d inked) cs) ≡ wanted inked x y (flat_map (λ (c : List Item). c) cs)
drawn_joined d inked x y [] = refl
drawn_joined d inked x y (c ∷ cs) =
    let ps : List Piece = pieces_of_cluster d inked c in
    let qs : List Piece = flat_map (pieces_of_cluster d inked) cs in
    let js : List Item = flat_map (λ (c : List Item). c) cs in
    let here : List Drawn = wanted inked x y c in
    let dy : ℤ = total (λ (p : Piece). p.y_advance) ps in
    let ax : ℤ = total (λ (i : Item). i.x_advance) c in
    let ay : ℤ = total (λ (i : Item). i.y_advance) c in
    drawn_append x y ps qs
    ∙ ap (λ (l : List Drawn). l ++ drawn (x +ℤ total (λ (p : Piece). p.x_advance) ps) (y +ℤ dy) qs) (drawn_all inked x y c (shares_of d c) (shares_fit d c))
    ∙ ap (λ (z : ℤ). here ++ drawn (x +ℤ z) (y +ℤ dy) qs) (total_all (λ (p : Piece). p.x_advance) (λ (i : Item). i.x_advance) inked (λ c. refl) (λ i s. refl) c (shares_of d c) (shares_fit d c))
    ∙ ap (λ (z : ℤ). here ++ drawn (x +ℤ ax) (y +ℤ z) qs) (total_all (λ (p : Piece). p.y_advance) (λ (i : Item). i.y_advance) inked (λ c. refl) (λ i s. refl) c (shares_of d c) (shares_fit d c))
    ∙ ap (λ (l : List Drawn). here ++ l) (drawn_joined d inked (x +ℤ ax) (y +ℤ ay) cs)
    ∙ sym (wanted_append inked x y c js)

pub glyphs_are_drawn : GlyphsAreDrawn
glyphs_are_drawn d inked x y is = drawn_joined d inked x y (clusters is) ∙ ap (wanted inked x y) (clusters_are_the_run is)
