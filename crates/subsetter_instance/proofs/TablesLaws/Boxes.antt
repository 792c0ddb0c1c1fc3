-- The least box around the points of all glyphs.
use Rattle.std.proofs.Common.{◌≡◌, ℕ, List, [], ◌∷◌, ◌++◌, Option, Some, None, ℤ, refl, sym, ap, subst, ◌∙◌, append_assoc, arith}
use Rattle.std.specs.List.{flat_map, fold}
use Rattle.std.specs.Int.{int_min, int_max}
use Rattle.std.proofs.lemmas.Int.{ints, clamps}
use Rattle.std.proofs.lemmas.List.{append-nil, map-append}
use Rattle.std.proofs.lemmas.List.Sums.{fold-append}
use Rattle.subsetter_points.specs.declared.bounds.Bounds.{Bounds}
use Rattle.subsetter_points.specs.declared.outline.Point.{Point}
use Rattle.subsetter_points.specs.Bounds.{box_around}
use Rattle.subsetter_points.specs.Simple.{box, signed_word, xs_of, ys_of}
use Rattle.subsetter_points.proofs.BoundsLaws.{grown}
use Rattle.subsetter_instance.specs.declared.tables.extremes.Extents.{Extents}
use Rattle.subsetter_instance.specs.Glyphs.Drawn.{Drawn}
use Rattle.subsetter_instance.specs.Tables.Extremes.{extents_of, glyph_extents, both, joined, all_extents, box_bytes}

-- ---- the least and the greatest of numbers

min_assoc : (a b c : ℤ) → int_min (int_min a b) c ≡ int_min a (int_min b c)
min_assoc a b c = omega (arith, ints, clamps)

max_assoc : (a b c : ℤ) → int_max (int_max a b) c ≡ int_max a (int_max b c)
max_assoc a b c = omega (arith, ints, clamps)

min_after : (a b : ℤ) (xs : List ℤ) → fold int_min (int_min a b) xs ≡ int_min a (fold int_min b xs)
min_after a b [] = refl
min_after a b (x ∷ xs) = ap (λ (z : ℤ). fold int_min z xs) (min_assoc a b x) ∙ min_after a (int_min b x) xs

max_after : (a b : ℤ) (xs : List ℤ) → fold int_max (int_max a b) xs ≡ int_max a (fold int_max b xs)
max_after a b [] = refl
max_after a b (x ∷ xs) = ap (λ (z : ℤ). fold int_max z xs) (max_assoc a b x) ∙ max_after a (int_max b x) xs

-- those of two lists, one after the other
min_both : (a b : ℤ) (xs ys : List ℤ) → fold int_min a (xs ++ b ∷ ys) ≡ int_min (fold int_min a xs) (fold int_min b ys)
min_both a b xs ys = fold-append int_min a xs (b ∷ ys) ∙ min_after (fold int_min a xs) b ys

max_both : (a b : ℤ) (xs ys : List ℤ) → fold int_max a (xs ++ b ∷ ys) ≡ int_max (fold int_max a xs) (fold int_max b ys)
max_both a b xs ys = fold-append int_max a xs (b ∷ ys) ∙ max_after (fold int_max a xs) b ys

-- ---- boxes

four : ℤ → ℤ → ℤ → ℤ → Bounds
four a b c d = record { x_min = a; y_min = b; x_max = c; y_max = d }

-- by all coordinates
abbrev by_all : Point → List Point → Bounds
by_all p points = record { x_min = fold int_min p.x (xs_of points); y_min = fold int_min p.y (ys_of points); x_max = fold int_max p.x (xs_of points); y_max = fold int_max p.y (ys_of points) }

around_is : (p : Point) (points : List Point) → box_around p points ≡ by_all p points
around_is p points = grown (record { x_min = p.x; y_min = p.y; x_max = p.x; y_max = p.y }) points

xs_both : (ps : List Point) (q : Point) (qs : List Point) → xs_of (ps ++ q ∷ qs) ≡ xs_of ps ++ q.x ∷ xs_of qs
xs_both ps q qs = map-append (λ (r : Point). r.x) ps (q ∷ qs)

ys_both : (ps : List Point) (q : Point) (qs : List Point) → ys_of (ps ++ q ∷ qs) ≡ ys_of ps ++ q.y ∷ ys_of qs
ys_both ps q qs = map-append (λ (r : Point). r.y) ps (q ∷ qs)

-- the box of points, and of others after them
two_boxes : (p : Point) (ps : List Point) (q : Point) (qs : List Point) → by_all p (ps ++ q ∷ qs) ≡ record { x_min = int_min (by_all p ps).x_min (by_all q qs).x_min; y_min = int_min (by_all p ps).y_min (by_all q qs).y_min; x_max = int_max (by_all p ps).x_max (by_all q qs).x_max; y_max = int_max (by_all p ps).y_max (by_all q qs).y_max }
unfolding four
two_boxes p ps q qs =
    let x = xs_both ps q qs in
    let y = ys_both ps q qs in
    let a = ap (fold int_min p.x) x ∙ min_both p.x q.x (xs_of ps) (xs_of qs) in
    let b = ap (fold int_min p.y) y ∙ min_both p.y q.y (ys_of ps) (ys_of qs) in
    let c = ap (fold int_max p.x) x ∙ max_both p.x q.x (xs_of ps) (xs_of qs) in
    let d = ap (fold int_max p.y) y ∙ max_both p.y q.y (ys_of ps) (ys_of qs) in
    ap (λ (z : ℤ). four z (fold int_min p.y (ys_of (ps ++ q ∷ qs))) (fold int_max p.x (xs_of (ps ++ q ∷ qs))) (fold int_max p.y (ys_of (ps ++ q ∷ qs)))) a
    ∙ ap (λ (z : ℤ). four (int_min (by_all p ps).x_min (by_all q qs).x_min) z (fold int_max p.x (xs_of (ps ++ q ∷ qs))) (fold int_max p.y (ys_of (ps ++ q ∷ qs)))) b
    ∙ ap (λ (z : ℤ). four (int_min (by_all p ps).x_min (by_all q qs).x_min) (int_min (by_all p ps).y_min (by_all q qs).y_min) z (fold int_max p.y (ys_of (ps ++ q ∷ qs)))) c
    ∙ ap (λ (z : ℤ). four (int_min (by_all p ps).x_min (by_all q qs).x_min) (int_min (by_all p ps).y_min (by_all q qs).y_min) (int_max (by_all p ps).x_max (by_all q qs).x_max) z) d

-- ---- of all glyphs

-- the extents so far are those of these points
data AreOf (points : List Point) : Option Extents → Type 0 where
  of_none : points ≡ [] → AreOf points None
  of_some : (e : Extents) (p : Point) (ps : List Point) → points ≡ p ∷ ps → e.bounds ≡ by_all p ps → AreOf points (Some e)

both_bounds : (e : Extents) (advance : ℕ) (p : Point) (ps : List Point) (q : Point) (qs : List Point) → e.bounds ≡ by_all p ps → (both e (extents_of advance (box_around q qs))).bounds ≡ by_all p (ps ++ q ∷ qs)
both_bounds e advance p ps q qs h =
    let join = λ (a b : Bounds). let c : Bounds = record { x_min = int_min a.x_min b.x_min; y_min = int_min a.y_min b.y_min; x_max = int_max a.x_max b.x_max; y_max = int_max a.y_max b.y_max } in c in
    ap (λ (a : Bounds). join a (box_around q qs)) h ∙ ap (join (by_all p ps)) (around_is q qs) ∙ sym (two_boxes p ps q qs)

one_more : (advance : ℕ) (points qs : List Point) (o : Option Extents) → AreOf points o → AreOf (points ++ qs) (joined o (glyph_extents advance qs))
one_more advance points [] None (of_none h) = of_none (append-nil points ∙ h)
one_more advance points (q ∷ qs) None (of_none h) = of_some (extents_of advance (box_around q qs)) q qs (ap (λ (l : List Point). l ++ q ∷ qs) h) (around_is q qs)
one_more advance points [] (Some _) (of_some e p ps h b) = of_some e p ps (append-nil points ∙ h) b
one_more advance points (q ∷ qs) (Some _) (of_some e p ps h b) = of_some (both e (extents_of advance (box_around q qs))) p (ps ++ q ∷ qs) (ap (λ (l : List Point). l ++ q ∷ qs) h) (both_bounds e advance p ps q qs b)

all_more : (ds : List Drawn) (points : List Point) (o : Option Extents) → AreOf points o → AreOf (points ++ flat_map (λ d. d.points) ds) (fold (λ e d. joined e (glyph_extents d.advance d.points)) o ds)
all_more [] points o a = subst (λ (l : List Point). AreOf l o) (sym (append-nil points)) a
all_more (d ∷ ds) points o a =
    let next = joined o (glyph_extents d.advance d.points) in
    subst (λ (l : List Point). AreOf l (fold (λ e d. joined e (glyph_extents d.advance d.points)) next ds)) (append_assoc points d.points (flat_map (λ d. d.points) ds)) (all_more ds (points ++ d.points) next (one_more d.advance points d.points o a))

of_bounds : (b c : Bounds) → b ≡ c → signed_word b.x_min ++ signed_word b.y_min ++ signed_word b.x_max ++ signed_word b.y_max ≡ signed_word c.x_min ++ signed_word c.y_min ++ signed_word c.x_max ++ signed_word c.y_max
of_bounds b c h = ap (λ (z : Bounds). signed_word z.x_min ++ signed_word z.y_min ++ signed_word z.x_max ++ signed_word z.y_max) h

written : (o : Option Extents) (all : List Point) (p : Point) (points : List Point) → AreOf all o → all ≡ p ∷ points → box_bytes o ≡ box p points
written None all p points (of_none h) e = let clash : [] ≡ p ∷ points = sym h ∙ e in absurd cc
written (Some _) all p points (of_some x q qs h b) e =
    let same : q ∷ qs ≡ p ∷ points = sym h ∙ e in
    let first : q ≡ p = cc in
    let rest : qs ≡ points = cc in
    of_bounds x.bounds (by_all p points) (b ∙ ap (λ (r : Point). by_all r qs) first ∙ ap (by_all p) rest)

pub is_box_of_all : (drawn : List Drawn) (p : Point) (points : List Point) → flat_map (λ d. d.points) drawn ≡ p ∷ points → box_bytes (all_extents drawn) ≡ box p points
is_box_of_all drawn p points h = written (all_extents drawn) (flat_map (λ d. d.points) drawn) p points (all_more drawn [] None (of_none refl)) h
