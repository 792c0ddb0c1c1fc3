-- The parts of a cluster, laid one after the other.
use Rattle.std.proofs.Common.{◌≡◌, ℕ, suc, ◌+◌, ◌-◌, ◌*◌, ◌^◌, ◌<◌, ◌≤◌, Bool, true, false, ◌&&◌, List, [], ◌∷◌, ◌++◌, length, map, get_or, drop, if◌then◌else◌, refl, sym, ap, ◌∙◌, append_assoc, arith, ℤ, pos, ◌+ℤ◌}
use Rattle.std.specs.Prelude.{unsigned_abs}
use Rattle.std.specs.Ordering.{int_eq}
use Rattle.std.proofs.lemmas.List.{drop_more, map-append}
use Rattle.std.proofs.lemmas.Int.{ints}
use Rattle.std.proofs.lemmas.Grind.{common_steps}
use lib.IntN.{+ℤ_assoc}
use Rattle.pdf_runs.specs.declared.items.Item.{Item}
use Rattle.pdf_runs.specs.Laws.{Drawn, total, wanted}
use Rattle.pdf_runs.specs.Pieces.{is_bare}
use Rattle.pdf_figures.specs.declared.choice.Choice.{Choice}
use Rattle.pdf_figures.specs.declared.ink.Placed.{Placed}
use Rattle.pdf_figures.specs.Figures.{are_parts, is_part}
use Rattle.pdf_figures.specs.View.{drawn_of}

-- the first k glyphs are laid: the parts so far and those of the others are all parts, and there is room for those so far
pub record IsLaid (c : Choice) (is : List Item) (k : ℕ) (ps : List Placed) (x y : ℤ) : Type 0 where
  pub parts : map drawn_of ps ++ wanted c.inked.now x y (drop k is) ≡ wanted c.inked.now (pos 0) (pos 0) is
  pub are : are_parts c (c.most_parts - length ps) (wanted c.inked.now x y (drop k is)) ≡ are_parts c c.most_parts (wanted c.inked.now (pos 0) (pos 0) is)
  pub room : length ps ≤ c.most_parts
  pub x_near : unsigned_abs x ≤ length ps * 2 ^ 31
  pub y_near : unsigned_abs y ≤ length ps * 2 ^ 31
  pub x_is : x +ℤ total (λ (i : Item). i.x_advance) (drop k is) ≡ total (λ (i : Item). i.x_advance) is
  pub y_is : y +ℤ total (λ (i : Item). i.y_advance) (drop k is) ≡ total (λ (i : Item). i.y_advance) is

total_more : (g : Item → ℤ) (is : List Item) (k : ℕ) (e : Item) (z w all : ℤ) → k < length is → w ≡ z +ℤ g (get_or is k e) → z +ℤ total g (drop k is) ≡ all → w +ℤ total g (drop (k + 1) is) ≡ all
total_more g is k e z w all l more h =
    let rest : ℤ = total g (drop (k + 1) is) in
    ap (λ (a : ℤ). a +ℤ rest) more
    ∙ +ℤ_assoc z (g (get_or is k e)) rest
    ∙ sym (ap (λ (l : List Item). z +ℤ total g l) (drop_more is k e l))
    ∙ h

zero_of : (z : ℤ) → int_eq z (pos 0) ≡ true → z ≡ pos 0
zero_of z e = grind (arith, ints, common_steps)

both_true : (a b : Bool) → (a && b) ≡ true → (a ≡ true) × (b ≡ true)
both_true true true e = (refl, refl)
both_true true false e = absurd cc
both_true false b e = absurd cc

-- a glyph without ink has no advance
still : (inked : List Bool) (i : Item) → is_bare inked i ≡ true → (i.x_advance ≡ pos 0) × (i.y_advance ≡ pos 0)
still inked i h =
    let a = both_true _ _ h in
    let b = both_true _ _ a.0 in
    (zero_of i.x_advance b.1, zero_of i.y_advance a.1)

stays : (z w : ℤ) → w ≡ pos 0 → z ≡ z +ℤ w
stays z w e = omega (arith, ints, e)

wanted_bare : (inked : List Bool) (x y : ℤ) (i : Item) (is : List Item) → is_bare inked i ≡ true → wanted inked x y (i ∷ is) ≡ wanted inked x y is
wanted_bare inked x y i is h =
    let s = still inked i h in
    ap (λ (b : Bool). (if b then [] else record { glyph = i.glyph; x = x +ℤ i.x_offset; y = y +ℤ i.y_offset } ∷ []) ++ wanted inked (x +ℤ i.x_advance) (y +ℤ i.y_advance) is) h
    ∙ ap (λ (a : ℤ). wanted inked a (y +ℤ i.y_advance) is) (sym (stays x i.x_advance s.0))
    ∙ ap (λ (b : ℤ). wanted inked x b is) (sym (stays y i.y_advance s.1))

wanted_inked : (inked : List Bool) (x y : ℤ) (i : Item) (is : List Item) → is_bare inked i ≡ false → wanted inked x y (i ∷ is) ≡ record { glyph = i.glyph; x = x +ℤ i.x_offset; y = y +ℤ i.y_offset } ∷ wanted inked (x +ℤ i.x_advance) (y +ℤ i.y_advance) is
wanted_inked inked x y i is h = ap (λ (b : Bool). (if b then [] else record { glyph = i.glyph; x = x +ℤ i.x_offset; y = y +ℤ i.y_offset } ∷ []) ++ wanted inked (x +ℤ i.x_advance) (y +ℤ i.y_advance) is) h

pub laid_bare : (c : Choice) (is : List Item) (k : ℕ) (e : Item) (ps : List Placed) (x y : ℤ) → k < length is → is_bare c.inked.now (get_or is k e) ≡ true → IsLaid c is k ps x y → IsLaid c is (k + 1) ps x y
laid_bare c is k e ps x y l b h =
    let i : Item = get_or is k e in
    let s = still c.inked.now i b in
    let same : wanted c.inked.now x y (drop k is) ≡ wanted c.inked.now x y (drop (k + 1) is) =
    ap (λ (l : List Item). wanted c.inked.now x y l) (drop_more is k e l) ∙ wanted_bare c.inked.now x y i (drop (k + 1) is) b in
    record {
      parts = sym (ap (λ (ws : List Drawn). map drawn_of ps ++ ws) same) ∙ h.parts;
      are = sym (ap (λ (ws : List Drawn). are_parts c (c.most_parts - length ps) ws) same) ∙ h.are;
      room = h.room;
      x_near = h.x_near;
      y_near = h.y_near;
      x_is = total_more (λ (i : Item). i.x_advance) is k e x x _ l (stays x i.x_advance s.0) h.x_is;
      y_is = total_more (λ (i : Item). i.y_advance) is k e y y _ l (stays y i.y_advance s.1) h.y_is;
    }

-- a part that is one takes room
taken : (c : Choice) (n : ℕ) (m : ℕ) (p : Drawn) (ws : List Drawn) → n < m → is_part c p ≡ true → are_parts c (m - n) (p ∷ ws) ≡ are_parts c (m - (n + 1)) ws
taken c n m p ws l h =
    let more : m - n ≡ suc (m - (n + 1)) = omega arith in
    ap (λ (room : ℕ). are_parts c room (p ∷ ws)) more ∙ ap (λ (b : Bool). b && are_parts c (m - (n + 1)) ws) h

nearer : (x w z : ℤ) (n : ℕ) → unsigned_abs x ≤ n * 2 ^ 31 → unsigned_abs w ≤ unsigned_abs x + 2 ^ 31 → unsigned_abs w ≤ (n + 1) * 2 ^ 31
nearer x w z n a b = omega arith

pub laid_part : (c : Choice) (is : List Item) (k : ℕ) (e : Item) (ps qs : List Placed) (p : Placed) (x y v w : ℤ) → k < length is → is_bare c.inked.now (get_or is k e) ≡ false → length ps < c.most_parts
    → drawn_of p ≡ record { glyph = (get_or is k e).glyph; x = x +ℤ (get_or is k e).x_offset; y = y +ℤ (get_or is k e).y_offset } → is_part c (record { glyph = (get_or is k e).glyph; x = x +ℤ (get_or is k e).x_offset; y = y +ℤ (get_or is k e).y_offset }) ≡ true
    → qs ≡ ps ++ p ∷ [] → v ≡ x +ℤ (get_or is k e).x_advance → w ≡ y +ℤ (get_or is k e).y_advance → unsigned_abs v ≤ unsigned_abs x + 2 ^ 31 → unsigned_abs w ≤ unsigned_abs y + 2 ^ 31
    → IsLaid c is k ps x y → IsLaid c is (k + 1) qs v w
laid_part c is k e ps qs p x y v w l b room same is_one put on up near_x near_y h =
    let i : Item = get_or is k e in
    let rest : List Item = drop (k + 1) is in
    let d : Drawn = record { glyph = i.glyph; x = x +ℤ i.x_offset; y = y +ℤ i.y_offset } in
    let next : wanted c.inked.now x y (drop k is) ≡ d ∷ wanted c.inked.now v w rest =
    ap (λ (l : List Item). wanted c.inked.now x y l) (drop_more is k e l)
    ∙ wanted_inked c.inked.now x y i rest b
    ∙ ap (λ (a : ℤ). d ∷ wanted c.inked.now a (y +ℤ i.y_advance) rest) (sym on)
    ∙ ap (λ (a : ℤ). d ∷ wanted c.inked.now v a rest) (sym up) in
    let count : length qs ≡ length ps + 1 = grind (arith, common_steps, put) in
    let drawn : map drawn_of qs ≡ map drawn_of ps ++ d ∷ [] =
    ap (λ (l : List Placed). map drawn_of l) put ∙ map-append drawn_of ps (p ∷ []) ∙ ap (λ (q : Drawn). map drawn_of ps ++ q ∷ []) same in
    record {
      parts =
          ap (λ (l : List Drawn). l ++ wanted c.inked.now v w rest) drawn
          ∙ append_assoc (map drawn_of ps) (d ∷ []) (wanted c.inked.now v w rest)
          ∙ sym (ap (λ (ws : List Drawn). map drawn_of ps ++ ws) next)
          ∙ h.parts;
      are =
          ap (λ (n : ℕ). are_parts c (c.most_parts - n) (wanted c.inked.now v w rest)) count
          ∙ sym (taken c (length ps) c.most_parts d (wanted c.inked.now v w rest) room is_one)
          ∙ sym (ap (λ (ws : List Drawn). are_parts c (c.most_parts - length ps) ws) next)
          ∙ h.are;
      room = omega (arith, count, room);
      x_near = rw count (nearer x v v (length ps) h.x_near near_x);
      y_near = rw count (nearer y w w (length ps) h.y_near near_y);
      x_is = total_more (λ (i : Item). i.x_advance) is k e x v _ l on h.x_is;
      y_is = total_more (λ (i : Item). i.y_advance) is k e y w _ l up h.y_is;
    }
