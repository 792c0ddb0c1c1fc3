-- What the pieces of a glyph say, how far the pen goes on with them, and what they draw.
use Rattle.std.proofs.Common.{◌≡◌, ℕ, zero, suc, ◌+◌, Bool, true, false, cond, List, [], ◌∷◌, ◌++◌, take, drop, map, slice_get, option_to_list, refl, sym, ap, ◌∙◌, append_assoc, append-nil, add-one, ℤ, pos, ◌+ℤ◌}
use Rattle.std.proofs.lemmas.List.Concat.{flat_map-append}
use lib.IntN.{+ℤ_idl, +ℤ_idr, +ℤ_assoc}
use Rattle.pdf_runs.specs.declared.items.Item.{Item}
use Rattle.pdf_runs.specs.declared.pieces.Figure.TheVariants.{Source, Blank}
use Rattle.pdf_runs.specs.declared.pieces.Piece.{Piece}
use Rattle.pdf_runs.specs.Laws.{Drawn, drawn, drawn_at, said, total}
use Rattle.pdf_runs.specs.Pieces.{bearer, blank_of, figure_of, is_bare, piece_of, spread}

-- ---- sums

pub total_append : {A : Type 0} (f : A → ℤ) (xs ys : List A) → total f (xs ++ ys) ≡ total f xs +ℤ total f ys
total_append f [] ys = sym (+ℤ_idl (total f ys))
total_append f (x ∷ xs) ys = ap (λ (z : ℤ). f x +ℤ z) (total_append f xs ys) ∙ sym (+ℤ_assoc (f x) (total f xs) (total f ys))

-- ---- what is said

pub said_append : (ps qs : List Piece) → said (ps ++ qs) ≡ said ps ++ said qs
said_append ps qs = flat_map-append (λ (p : Piece). option_to_list p.says) ps qs

said_blanks : (cs : List ℕ) → said (map blank_of cs) ≡ cs
said_blanks [] = refl
said_blanks (c ∷ cs) = ap (λ (l : List ℕ). c ∷ l) (said_blanks cs)

around : (k : ℕ) (cs : List ℕ) → take k cs ++ (option_to_list (slice_get cs k) ++ drop (suc k) cs) ≡ cs
around zero [] = refl
around zero (c ∷ cs) = refl
around (suc k) [] = refl
around (suc k) (c ∷ cs) = ap (λ (l : List ℕ). c ∷ l) (around k cs)

-- a glyph and its blanks say its characters
pub said_spread : (inked : List Bool) (i : Item) (cs : List ℕ) → said (spread inked i cs) ≡ cs
said_spread inked i cs =
    let k : ℕ = bearer cs in
    let p : Piece = piece_of inked i (slice_get cs k) in
    said_append (map blank_of (take k cs)) (p ∷ map blank_of (drop (k + 1) cs))
    ∙ ap (λ (l : List ℕ). l ++ (option_to_list (slice_get cs k) ++ said (map blank_of (drop (k + 1) cs)))) (said_blanks (take k cs))
    ∙ ap (λ (l : List ℕ). take k cs ++ (option_to_list (slice_get cs k) ++ l)) (said_blanks (drop (k + 1) cs))
    ∙ ap (λ (n : ℕ). take k cs ++ (option_to_list (slice_get cs k) ++ drop n cs)) (add-one k)
    ∙ around k cs

-- ---- where the pen goes

total_blanks : (f : Piece → ℤ) → ((c : ℕ) → f (blank_of c) ≡ pos 0) → (cs : List ℕ) → total f (map blank_of cs) ≡ pos 0
total_blanks f blank [] = refl
total_blanks f blank (c ∷ cs) = ap (λ (z : ℤ). z +ℤ total f (map blank_of cs)) (blank c) ∙ +ℤ_idl (total f (map blank_of cs)) ∙ total_blanks f blank cs

-- a glyph and its blanks take the pen as far as the glyph's piece
pub total_spread : (f : Piece → ℤ) → ((c : ℕ) → f (blank_of c) ≡ pos 0) → (inked : List Bool) (i : Item) (cs : List ℕ) → total f (spread inked i cs) ≡ f (piece_of inked i (slice_get cs (bearer cs)))
total_spread f blank inked i cs =
    let k : ℕ = bearer cs in
    let z : ℤ = f (piece_of inked i (slice_get cs k)) in
    total_append f (map blank_of (take k cs)) (piece_of inked i (slice_get cs k) ∷ map blank_of (drop (k + 1) cs))
    ∙ ap (λ (a : ℤ). a +ℤ (z +ℤ total f (map blank_of (drop (k + 1) cs)))) (total_blanks f blank (take k cs))
    ∙ +ℤ_idl (z +ℤ total f (map blank_of (drop (k + 1) cs)))
    ∙ ap (λ (a : ℤ). z +ℤ a) (total_blanks f blank (drop (k + 1) cs))
    ∙ +ℤ_idr z

-- ---- what is drawn

pub drawn_append : (x y : ℤ) (ps qs : List Piece) → drawn x y (ps ++ qs) ≡ drawn x y ps ++ drawn (x +ℤ total (λ (p : Piece). p.x_advance) ps) (y +ℤ total (λ (p : Piece). p.y_advance) ps) qs
drawn_append x y [] qs = ap (λ (a : ℤ). drawn a y qs) (sym (+ℤ_idr x)) ∙ ap (λ (b : ℤ). drawn (x +ℤ pos 0) b qs) (sym (+ℤ_idr y))
drawn_append x y (p ∷ ps) qs =
    let here : List Drawn = drawn_at p.figure (x +ℤ p.x) (y +ℤ p.y) in
    let first : List Drawn = drawn (x +ℤ p.x_advance) (y +ℤ p.y_advance) ps in
    let xs : ℤ = total (λ (q : Piece). q.x_advance) ps in
    let ys : ℤ = total (λ (q : Piece). q.y_advance) ps in
    ap (λ (l : List Drawn). here ++ l) (drawn_append (x +ℤ p.x_advance) (y +ℤ p.y_advance) ps qs)
    ∙ ap (λ (a : ℤ). here ++ (first ++ drawn a ((y +ℤ p.y_advance) +ℤ ys) qs)) (+ℤ_assoc x p.x_advance xs)
    ∙ ap (λ (b : ℤ). here ++ (first ++ drawn (x +ℤ (p.x_advance +ℤ xs)) b qs)) (+ℤ_assoc y p.y_advance ys)
    ∙ sym (append_assoc here first (drawn (x +ℤ (p.x_advance +ℤ xs)) (y +ℤ (p.y_advance +ℤ ys)) qs))

drawn_blanks : (x y : ℤ) (cs : List ℕ) → drawn x y (map blank_of cs) ≡ []
drawn_blanks x y [] = refl
drawn_blanks x y (c ∷ cs) = drawn_blanks (x +ℤ pos 0) (y +ℤ pos 0) cs

drawn_figure : (b : Bool) (g : ℕ) (x y : ℤ) → drawn_at (cond b Blank (Source g)) x y ≡ cond b [] (record { glyph = g; x = x; y = y } ∷ [])
drawn_figure true g x y = refl
drawn_figure false g x y = refl

-- a glyph and its blanks draw the glyph
pub drawn_spread : (inked : List Bool) (x y : ℤ) (i : Item) (cs : List ℕ) → drawn x y (spread inked i cs) ≡ cond (is_bare inked i) [] (record { glyph = i.glyph; x = x +ℤ i.x_offset; y = y +ℤ i.y_offset } ∷ [])
drawn_spread inked x y i cs =
    let k : ℕ = bearer cs in
    let p : Piece = piece_of inked i (slice_get cs k) in
    let before : List Piece = map blank_of (take k cs) in
    let following : List Piece = map blank_of (drop (k + 1) cs) in
    let dx : ℤ = total (λ (q : Piece). q.x_advance) before in
    let dy : ℤ = total (λ (q : Piece). q.y_advance) before in
    let no_x : x +ℤ dx ≡ x = ap (λ (a : ℤ). x +ℤ a) (total_blanks (λ (q : Piece). q.x_advance) (λ c. refl) (take k cs)) ∙ +ℤ_idr x in
    let no_y : y +ℤ dy ≡ y = ap (λ (a : ℤ). y +ℤ a) (total_blanks (λ (q : Piece). q.y_advance) (λ c. refl) (take k cs)) ∙ +ℤ_idr y in
    drawn_append x y before (p ∷ following)
    ∙ ap (λ (l : List Drawn). l ++ drawn (x +ℤ dx) (y +ℤ dy) (p ∷ following)) (drawn_blanks x y (take k cs))
    ∙ ap (λ (a : ℤ). drawn a (y +ℤ dy) (p ∷ following)) no_x
    ∙ ap (λ (b : ℤ). drawn x b (p ∷ following)) no_y
    ∙ ap (λ (l : List Drawn). drawn_at (figure_of inked i) (x +ℤ i.x_offset) (y +ℤ i.y_offset) ++ l) (drawn_blanks (x +ℤ i.x_advance) (y +ℤ i.y_advance) (drop (k + 1) cs))
    ∙ append-nil (drawn_at (figure_of inked i) (x +ℤ i.x_offset) (y +ℤ i.y_offset))
    ∙ drawn_figure (is_bare inked i) i.glyph (x +ℤ i.x_offset) (y +ℤ i.y_offset)
