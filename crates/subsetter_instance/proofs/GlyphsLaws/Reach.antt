-- What is unfolded, and within what bounds.
use Rattle.std.proofs.Common.{◌≡◌, ◌≤◌, ◌<◌, ◌^◌, ◌+◌, ◌++◌, ℕ, ℤ, List, length, map, unsigned_abs, get_or, drop, take, pos, w64, ap, false, to_z, of_z, [], ◌∷◌, append_assoc, sym, subst, arith, ◌+ℤ◌, ◌∙◌, true, Ok, refl, Bool}
use Rattle.std.specs.Prelude.{All, nat_le, zip, ◌&&◌, if◌then◌else◌}
use Rattle.std.proofs.lemmas.Bool.{leb-true, lt-ltb}
use Rattle.std.proofs.lemmas.List.Sums.{AllPass-from_list_all}
use Rattle.std.proofs.lemmas.Int.{to_z-of_z, fits_signed_from_abs}
use Rattle.std.proofs.lemmas.List.{append-nil, drop_all, drop_more, length-append, length-map, map-append, take_more}
use Rattle.std.proofs.lemmas.List.Elements.{All-append, All-cons, All-map, All-nil, All-weaker}
use Rattle.subsetter_base.specs.Bytes.{has_flag}
use Rattle.subsetter_instance.specs.Glyphs.Unfolded.{Unfolded, IsInReach, are_near, joined_moved, joined_parts, moved_part, on_curve, shifted, with_metrics}

wide_47 : (x : ℤ) → unsigned_abs x ≤ 2 ^ 45 → unsigned_abs x ≤ 2 ^ 47
wide_47 x h = omega arith

pub wider_47 : (xs : List ℤ) → All (λ x. unsigned_abs x ≤ 2 ^ 45) xs → All (λ x. unsigned_abs x ≤ 2 ^ 47) xs
wider_47 xs h = All-weaker (λ x. unsigned_abs x ≤ 2 ^ 45) (λ x. unsigned_abs x ≤ 2 ^ 47) wide_47 xs h

more : (m n : ℕ) (es : List ℕ) → All (λ e. e < m) es → All (λ e. e < m + n) es
more m n es h = All-weaker (λ e. e < m) (λ e. e < m + n) (λ e l. omega arith) es h

following : (m n : ℕ) (es : List ℕ) → All (λ e. e < n) es → All (λ e. e < m + n) (map (λ e. e + m) es)
following m n es h = All-map (λ e. e < m + n) (λ e. e + m) es (All-weaker (λ e. e < n) (λ e. e + m < m + n) (λ e l. omega arith) es h)

pub joined_reach : (a b : Unfolded) → IsInReach a → IsInReach b → IsInReach (joined_parts a b)
joined_reach a b h g =
    let n = length-append a.on b.on in
    let xs : length (a.xs ++ b.xs) ≡ length (a.on ++ b.on) = omega (arith, length-append a.xs b.xs, n, h.shape.xs, g.shape.xs) in
    let ys : length (a.ys ++ b.ys) ≡ length (a.on ++ b.on) = omega (arith, length-append a.ys b.ys, n, h.shape.ys, g.shape.ys) in
    record {
      shape = record {
        xs = xs;
        ys = ys;
        ends = subst (λ (k : ℕ). All (λ e. e < k) (a.ends ++ map (λ e. e + length a.on) b.ends)) (sym n) (All-append (λ e. e < length a.on + length b.on) a.ends (map (λ e. e + length a.on) b.ends) (more (length a.on) (length b.on) a.ends h.shape.ends) (following (length a.on) (length b.on) b.ends g.shape.ends));
        left = h.shape.left;
        right = h.shape.right;
      };
      xs = All-append (λ x. unsigned_abs x ≤ 2 ^ 45) a.xs b.xs h.xs g.xs;
      ys = All-append (λ x. unsigned_abs x ≤ 2 ^ 45) a.ys b.ys h.ys g.ys;
    }

-- the phantom points of one and all else of another
pub metrics_reach : (flags : ℕ) (a b : Unfolded) → IsInReach a → IsInReach b → IsInReach (with_metrics flags a b)
metrics_reach flags a b h g = by (has_flag flags 0x0200)
  where
    by : (t : Bool) → IsInReach (if t then record a { left = b.left; right = b.right } else a)
    by true = record { shape = record { xs = h.shape.xs; ys = h.shape.ys; ends = h.shape.ends; left = g.shape.left; right = g.shape.right }; xs = h.xs; ys = h.ys }
    by false = h

-- one more pair
pub zip_step : (f : ℤ × ℤ → ℤ) (out : List ℤ) (z : ℤ) (xs ys : List ℤ) (i : ℕ) → i < length xs → i < length ys → z ≡ f (get_or xs i (pos 0), get_or ys i (pos 0)) → (out ++ z ∷ []) ++ map f (zip (drop (i + 1) xs) (drop (i + 1) ys)) ≡ out ++ map f (zip (drop i xs) (drop i ys))
zip_step f out z xs ys i l m e = rw (drop_more xs i (pos 0) l, drop_more ys i (pos 0) m, e) (append_assoc out (f (get_or xs i (pos 0), get_or ys i (pos 0)) ∷ []) (map f (zip (drop (i + 1) xs) (drop (i + 1) ys))))

-- no pair is left
pub zip_end : (f : ℤ × ℤ → ℤ) (out : List ℤ) (xs ys : List ℤ) (i : ℕ) → length xs ≤ i → out ++ map f (zip (drop i xs) (drop i ys)) ≡ out
zip_end f out xs ys i l = rw (drop_all i xs l) (append-nil out)

-- a number that 64 bits hold
pub kept : (z : ℤ) → unsigned_abs z ≤ 2 ^ 62 → to_z w64 (of_z w64 z) ≡ z
kept z h = to_z-of_z w64 z (fits_signed_from_abs w64 z (omega arith))

pub one_more : (n : ℕ) (xs ys : List ℤ) (z : ℤ) → ys ≡ xs ++ z ∷ [] → unsigned_abs z ≤ n → All (λ x. unsigned_abs x ≤ n) xs → All (λ x. unsigned_abs x ≤ n) ys
one_more n xs ys z e h a = subst (All (λ x. unsigned_abs x ≤ n)) (sym e) (All-append (λ x. unsigned_abs x ≤ n) xs (z ∷ []) a (All-cons (λ x. unsigned_abs x ≤ n) z [] h (All-nil (λ x. unsigned_abs x ≤ n))))

-- one coordinate more is moved
pub moved_more : (out before : List ℤ) (by z : ℤ) (vs : List ℤ) (i : ℕ) → i < length vs → z ≡ get_or vs i (pos 0) +ℤ by → out ≡ before ++ shifted by (take i vs) → out ++ z ∷ [] ≡ before ++ shifted by (take (i + 1) vs)
moved_more out before by z vs i less h same =
    let x = get_or vs i (pos 0) in
    ap (λ (l : List ℤ). l ++ z ∷ []) same ∙ append_assoc before (shifted by (take i vs)) (z ∷ [])
    ∙ ap (λ (l : List ℤ). before ++ l) (ap (λ (w : ℤ). shifted by (take i vs) ++ w ∷ []) h ∙ sym (map-append (λ v. v +ℤ by) (take i vs) (x ∷ [])) ∙ ap (shifted by) (sym (take_more vs i (pos 0) less)))

-- coordinates that are near
pub near_all : (xs : List ℤ) → are_near xs ≡ true → All (λ x. unsigned_abs x ≤ 2 ^ 45) xs
near_all xs h = All-weaker (λ x. nat_le (unsigned_abs x) (2 ^ 45) ≡ true) (λ x. unsigned_abs x ≤ 2 ^ 45) (λ x k. leb-true (unsigned_abs x) (2 ^ 45) k) xs (AllPass-from_list_all (λ x. nat_le (unsigned_abs x) (2 ^ 45)) xs h)

-- a component that is moved and stays near
pub moved_reach : (u : Unfolded) (x y : ℤ) (xs ys : List ℤ) → IsInReach u → length xs ≡ length u.on → length ys ≡ length u.on → are_near (shifted x xs) ≡ true → are_near (shifted y ys) ≡ true → IsInReach (moved_part u x y xs ys)
moved_reach u x y xs ys h m n p q = record {
  shape = record {
    xs = length-map xs (λ v. v +ℤ x) ∙ m;
    ys = length-map ys (λ v. v +ℤ y) ∙ n;
    ends = h.shape.ends;
    left = h.shape.left;
    right = h.shape.right;
  };
  xs = near_all (shifted x xs) p;
  ys = near_all (shifted y ys) q;
}

-- a component that is moved, stays near and isn't one point too many
pub joined_is : (a u : Unfolded) (x y : ℤ) (xs ys : List ℤ) (steps : ℕ) → are_near (shifted x xs) ≡ true → are_near (shifted y ys) ≡ true → length a.on + length u.on < 65536 → joined_moved a u x y xs ys steps ≡ Ok (joined_parts a (moved_part u x y xs ys), steps)
unfolding joined_moved
joined_is a u x y xs ys steps p q few = rw (p, q, lt-ltb (length a.on + length u.on) 65536 few) refl

abbrev pub unfolded_of : List ℕ → List Bool → List ℤ → List ℤ → ℤ → ℤ → Unfolded
unfolded_of es on xs ys l r = record { ends = es; on = on; xs = xs; ys = ys; left = l; right = r }

-- records of the same fields are the same
pub same_unfolded : (es fs : List ℕ) (on un : List Bool) (xs zs ys ws : List ℤ) (l m r q : ℤ) → es ≡ fs → on ≡ un → xs ≡ zs → ys ≡ ws → l ≡ m → r ≡ q
    → unfolded_of es on xs ys l r ≡ unfolded_of fs un zs ws m q
same_unfolded es fs on un xs zs ys ws l m r q a b c d e f = rw (a, b, c, d, e, f) refl

-- as many points as flags
pub on_count : (fs : List ℕ) → length (on_curve fs) ≡ length fs
on_count fs = length-map fs (λ f. has_flag f 1)

-- flags after others
pub on_joined : (fs gs hs : List ℕ) (on un : List Bool) → hs ≡ fs ++ gs → on_curve fs ≡ on → on_curve gs ≡ un → on_curve hs ≡ on ++ un
on_joined fs gs hs on un h a b = ap on_curve h ∙ map-append (λ f. has_flag f 1) fs gs ∙ ap (λ (l : List Bool). l ++ on_curve gs) a ∙ ap (λ (l : List Bool). on ++ l) b

both_more : (a b c : Bool) → (a && (b && c)) ≡ ((a && b) && c)
both_more true b c = refl
both_more false b c = refl

both_true : (a : Bool) → (a && true) ≡ a
both_true true = refl
both_true false = refl

-- one coordinate more is looked at
pub near_step : (near : Bool) (by : ℤ) (vs : List ℤ) (i : ℕ) (v : ℤ) → i < length vs → v ≡ get_or vs i (pos 0)
    → (near && are_near (shifted by (drop i vs))) ≡ ((near && nat_le (unsigned_abs (v +ℤ by)) (2 ^ 45)) && are_near (shifted by (drop (i + 1) vs)))
near_step near by vs i v less h =
    let d : drop i vs ≡ v ∷ drop (i + 1) vs = drop_more vs i (pos 0) less ∙ ap (λ z. z ∷ drop (i + 1) vs) (sym h) in
    ap (λ (l : List ℤ). near && are_near (shifted by l)) d ∙ both_more near (nat_le (unsigned_abs (v +ℤ by)) (2 ^ 45)) (are_near (shifted by (drop (i + 1) vs)))

pub near_end : (near : Bool) (by : ℤ) (vs : List ℤ) (i : ℕ) → length vs ≤ i → (near && are_near (shifted by (drop i vs))) ≡ near
near_end near by vs i past = ap (λ (l : List ℤ). near && are_near (shifted by l)) (drop_all i vs past) ∙ both_true near

-- the same of coordinates that aren't moved
pub close_step : (near : Bool) (vs : List ℤ) (i : ℕ) (v : ℤ) → i < length vs → v ≡ get_or vs i (pos 0)
    → (near && are_near (drop i vs)) ≡ ((near && nat_le (unsigned_abs v) (2 ^ 45)) && are_near (drop (i + 1) vs))
close_step near vs i v less h =
    let d : drop i vs ≡ v ∷ drop (i + 1) vs = drop_more vs i (pos 0) less ∙ ap (λ z. z ∷ drop (i + 1) vs) (sym h) in
    ap (λ (l : List ℤ). near && are_near l) d ∙ both_more near (nat_le (unsigned_abs v) (2 ^ 45)) (are_near (drop (i + 1) vs))

pub close_end : (near : Bool) (vs : List ℤ) (i : ℕ) → length vs ≤ i → (near && are_near (drop i vs)) ≡ near
close_end near vs i past = ap (λ (l : List ℤ). near && are_near l) (drop_all i vs past) ∙ both_true near
