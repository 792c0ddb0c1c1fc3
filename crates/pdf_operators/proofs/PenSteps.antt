-- The shaper's pens, one glyph after the other.
use Rattle.std.proofs.Common.{◌≡◌, ℕ, ◌+◌, ◌<◌, ◌≤◌, Bool, true, false, ◌&&◌, List, length, get_or, drop, Some, None, if◌then◌else◌, refl, sym, ap, ◌∙◌, arith, ℤ, pos, ◌+ℤ◌}
use Rattle.std.proofs.lemmas.List.{drop_all, drop_more}
use Rattle.std.proofs.lemmas.Int.{ints}
use lib.IntN.{+ℤ_assoc}
use Rattle.pdf_runs.specs.declared.items.Item.{Item}
use Rattle.pdf_runs.specs.Laws.{total}
use Rattle.pdf_operators.specs.declared.places.Advance.{Advance}
use Rattle.pdf_operators.specs.Pens.{advance_of, are_pens, pen_past}
use Rattle.pdf_operators.specs.Places.{fits}

both : (a b : Bool) → a ≡ true → (a && b) ≡ b
both a b e = rw e refl

neither : (a b : Bool) → a ≡ false → (a && b) ≡ false
neither a b e = rw e refl

pub total_more : (g : Item → ℤ) (is : List Item) (k : ℕ) (e : Item) (z w all : ℤ) → k < length is → w ≡ z +ℤ g (get_or is k e) → z +ℤ total g (drop k is) ≡ all → w +ℤ total g (drop (k + 1) is) ≡ all
total_more g is k e z w all l more h =
    let rest : ℤ = total g (drop (k + 1) is) in
    ap (λ (a : ℤ). a +ℤ rest) more
    ∙ +ℤ_assoc z (g (get_or is k e)) rest
    ∙ sym (ap (λ (l : List Item). z +ℤ total g l) (drop_more is k e l))
    ∙ h

some_fits : (b : Bool) (n a : Advance) → Some n ≡ (if b then Some a else None) → (b ≡ true) × (n ≡ a)
some_fits true n a e = (refl, cc)
some_fits false n a e = absurd cc

none_fits : (b : Bool) (a : Advance) → None ≡ (if b then Some a else None) → b ≡ false
none_fits true a e = absurd cc
none_fits false a e = refl

pub pens_more : (is : List Item) (k : ℕ) (e : Item) (a n : Advance) (all : Bool) → k < length is → Some n ≡ (if fits (a.x +ℤ (get_or is k e).x_advance) && fits (a.y +ℤ (get_or is k e).y_advance) then Some (pen_past a (get_or is k e)) else None)
    → are_pens a.x a.y (drop k is) ≡ all → are_pens n.x n.y (drop (k + 1) is) ≡ all
pens_more is k e a n all l step h =
    let i : Item = get_or is k e in
    let rest : List Item = drop (k + 1) is in
    let t = some_fits (fits (a.x +ℤ i.x_advance) && fits (a.y +ℤ i.y_advance)) n (pen_past a i) step in
    ap (λ (m : Advance). are_pens m.x m.y rest) t.1
    ∙ sym (both (fits (a.x +ℤ i.x_advance) && fits (a.y +ℤ i.y_advance)) (are_pens (a.x +ℤ i.x_advance) (a.y +ℤ i.y_advance) rest) t.0)
    ∙ sym (ap (λ (l : List Item). are_pens a.x a.y l) (drop_more is k e l))
    ∙ h

pub pen_is : (is : List Item) (k : ℕ) (e : Item) (a n : Advance) → Some n ≡ (if fits (a.x +ℤ (get_or is k e).x_advance) && fits (a.y +ℤ (get_or is k e).y_advance) then Some (pen_past a (get_or is k e)) else None) → n ≡ pen_past a (get_or is k e)
pen_is is k e a n step = (some_fits (fits (a.x +ℤ (get_or is k e).x_advance) && fits (a.y +ℤ (get_or is k e).y_advance)) n (pen_past a (get_or is k e)) step).1

pub pens_failed : (is : List Item) (k : ℕ) (e : Item) (a : Advance) (all : Bool) → k < length is → None ≡ (if fits (a.x +ℤ (get_or is k e).x_advance) && fits (a.y +ℤ (get_or is k e).y_advance) then Some (pen_past a (get_or is k e)) else None)
    → are_pens a.x a.y (drop k is) ≡ all → all ≡ false
pens_failed is k e a all l step h =
    let i : Item = get_or is k e in
    sym h
    ∙ ap (λ (l : List Item). are_pens a.x a.y l) (drop_more is k e l)
    ∙ neither (fits (a.x +ℤ i.x_advance) && fits (a.y +ℤ i.y_advance)) (are_pens (a.x +ℤ i.x_advance) (a.y +ℤ i.y_advance) (drop (k + 1) is)) (none_fits (fits (a.x +ℤ i.x_advance) && fits (a.y +ℤ i.y_advance)) (pen_past a i) step)

nothing_on : (z : ℤ) → z ≡ z +ℤ pos 0
nothing_on z = omega (arith, ints)

pub pens_all : (is : List Item) (k : ℕ) (p : Advance) → length is ≤ k → are_pens p.x p.y (drop k is) ≡ are_pens (pos 0) (pos 0) is → are_pens (pos 0) (pos 0) is ≡ true
pens_all is k p l h = sym h ∙ ap (λ (l : List Item). are_pens p.x p.y l) (drop_all k is l)

total_all : (g : Item → ℤ) (is : List Item) (k : ℕ) (z : ℤ) → length is ≤ k → z +ℤ total g (drop k is) ≡ total g is → z ≡ total g is
total_all g is k z l h = nothing_on z ∙ sym (ap (λ (l : List Item). z +ℤ total g l) (drop_all k is l)) ∙ h

pub advance_is : (is : List Item) (k : ℕ) (p : Advance) → length is ≤ k → p.x +ℤ total (λ (i : Item). i.x_advance) (drop k is) ≡ total (λ (i : Item). i.x_advance) is → p.y +ℤ total (λ (i : Item). i.y_advance) (drop k is) ≡ total (λ (i : Item). i.y_advance) is → p ≡ advance_of is
advance_is is k p l hx hy =
    ap (λ (a : ℤ). record { x = a; y = p.y }) (total_all (λ (i : Item). i.x_advance) is k p.x l hx)
    ∙ ap (λ (b : ℤ). record { x = total (λ (i : Item). i.x_advance) is; y = b }) (total_all (λ (i : Item). i.y_advance) is k p.y l hy)
