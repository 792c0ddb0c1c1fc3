-- The points of a flex, one after the other.
use Rattle.std.proofs.Common.{◌≡◌, ℕ, ℤ, [], ◌∷◌, Option, ap, ◌∙◌}
use Rattle.subsetter_blend.specs.declared.axes.Along.TheVariants.{X}
use Rattle.subsetter_blend.specs.declared.writing.placing.Position.{Position}
use Rattle.subsetter_blend.specs.Drawn.{by, hflex_drawn, hflex1_drawn, flex1_drawn, flex1_end, level_with}
use Rattle.subsetter_blend.specs.Writing.Placed.{position_after}
use Rattle.subsetter_boxes.specs.declared.pen.Pen.{Pen}
use Rattle.subsetter_boxes.specs.Traced.{followed, traced}

six_are : (pen : Pen) (r : Option Pen) (p1 p2 p3 p4 p5 p6 q1 q2 q3 q4 q5 q6 : Position) → p1 ≡ q1 → p2 ≡ q2 → p3 ≡ q3 → p4 ≡ q4 → p5 ≡ q5 → p6 ≡ q6
    → r ≡ followed (p1 ∷ p2 ∷ p3 ∷ p4 ∷ p5 ∷ p6 ∷ []) pen → r ≡ followed (q1 ∷ q2 ∷ q3 ∷ q4 ∷ q5 ∷ q6 ∷ []) pen
six_are pen r p1 p2 p3 p4 p5 p6 q1 q2 q3 q4 q5 q6 s1 s2 s3 s4 s5 s6 h =
    h ∙ ap (λ (p : Position). followed (p ∷ p2 ∷ p3 ∷ p4 ∷ p5 ∷ p6 ∷ []) pen) s1 ∙ ap (λ (p : Position). followed (q1 ∷ p ∷ p3 ∷ p4 ∷ p5 ∷ p6 ∷ []) pen) s2
    ∙ ap (λ (p : Position). followed (q1 ∷ q2 ∷ p ∷ p4 ∷ p5 ∷ p6 ∷ []) pen) s3 ∙ ap (λ (p : Position). followed (q1 ∷ q2 ∷ q3 ∷ p ∷ p5 ∷ p6 ∷ []) pen) s4
    ∙ ap (λ (p : Position). followed (q1 ∷ q2 ∷ q3 ∷ q4 ∷ p ∷ p6 ∷ []) pen) s5 ∙ ap (λ (p : Position). followed (q1 ∷ q2 ∷ q3 ∷ q4 ∷ q5 ∷ p ∷ []) pen) s6

pub hflex_gone : (pen : Pen) (v : ℕ → ℤ) (p1 p2 p3 p4 p5 p6 : Position) (r : Option Pen) → p1 ≡ position_after X (v 0) pen.at → p2 ≡ by (v 1) (v 2) p1 → p3 ≡ position_after X (v 3) p2 → p4 ≡ position_after X (v 4) p3
    → p5 ≡ level_with pen.at (position_after X (v 5) p4) → p6 ≡ position_after X (v 6) p5 → r ≡ followed (p1 ∷ p2 ∷ p3 ∷ p4 ∷ p5 ∷ p6 ∷ []) pen → r ≡ traced (hflex_drawn pen.at v) pen
hflex_gone pen v p1 p2 p3 p4 p5 p6 r e1 e2 e3 e4 e5 e6 h =
    let q1 : Position = position_after X (v 0) pen.at in
    let q2 : Position = by (v 1) (v 2) q1 in
    let q3 : Position = position_after X (v 3) q2 in
    let q4 : Position = position_after X (v 4) q3 in
    let q5 : Position = level_with pen.at (position_after X (v 5) q4) in
    let q6 : Position = position_after X (v 6) q5 in
    let s2 : p2 ≡ q2 = e2 ∙ ap (λ (p : Position). by (v 1) (v 2) p) e1 in
    let s3 : p3 ≡ q3 = e3 ∙ ap (λ (p : Position). position_after X (v 3) p) s2 in
    let s4 : p4 ≡ q4 = e4 ∙ ap (λ (p : Position). position_after X (v 4) p) s3 in
    let s5 : p5 ≡ q5 = e5 ∙ ap (λ (p : Position). level_with pen.at (position_after X (v 5) p)) s4 in
    let s6 : p6 ≡ q6 = e6 ∙ ap (λ (p : Position). position_after X (v 6) p) s5 in
    six_are pen r p1 p2 p3 p4 p5 p6 q1 q2 q3 q4 q5 q6 e1 s2 s3 s4 s5 s6 h

pub hflex1_gone : (pen : Pen) (v : ℕ → ℤ) (p1 p2 p3 p4 p5 p6 : Position) (r : Option Pen) → p1 ≡ by (v 0) (v 1) pen.at → p2 ≡ by (v 2) (v 3) p1 → p3 ≡ position_after X (v 4) p2 → p4 ≡ position_after X (v 5) p3
    → p5 ≡ by (v 6) (v 7) p4 → p6 ≡ level_with pen.at (position_after X (v 8) p5) → r ≡ followed (p1 ∷ p2 ∷ p3 ∷ p4 ∷ p5 ∷ p6 ∷ []) pen → r ≡ traced (hflex1_drawn pen.at v) pen
hflex1_gone pen v p1 p2 p3 p4 p5 p6 r e1 e2 e3 e4 e5 e6 h =
    let q1 : Position = by (v 0) (v 1) pen.at in
    let q2 : Position = by (v 2) (v 3) q1 in
    let q3 : Position = position_after X (v 4) q2 in
    let q4 : Position = position_after X (v 5) q3 in
    let q5 : Position = by (v 6) (v 7) q4 in
    let q6 : Position = level_with pen.at (position_after X (v 8) q5) in
    let s2 : p2 ≡ q2 = e2 ∙ ap (λ (p : Position). by (v 2) (v 3) p) e1 in
    let s3 : p3 ≡ q3 = e3 ∙ ap (λ (p : Position). position_after X (v 4) p) s2 in
    let s4 : p4 ≡ q4 = e4 ∙ ap (λ (p : Position). position_after X (v 5) p) s3 in
    let s5 : p5 ≡ q5 = e5 ∙ ap (λ (p : Position). by (v 6) (v 7) p) s4 in
    let s6 : p6 ≡ q6 = e6 ∙ ap (λ (p : Position). level_with pen.at (position_after X (v 8) p)) s5 in
    six_are pen r p1 p2 p3 p4 p5 p6 q1 q2 q3 q4 q5 q6 e1 s2 s3 s4 s5 s6 h

pub flex1_gone : (pen : Pen) (v : ℕ → ℤ) (p1 p2 p3 p4 p5 p6 : Position) (r : Option Pen) → p1 ≡ by (v 0) (v 1) pen.at → p2 ≡ by (v 2) (v 3) p1 → p3 ≡ by (v 4) (v 5) p2 → p4 ≡ by (v 6) (v 7) p3
    → p5 ≡ by (v 8) (v 9) p4 → p6 ≡ flex1_end pen.at (v 10) p5 → r ≡ followed (p1 ∷ p2 ∷ p3 ∷ p4 ∷ p5 ∷ p6 ∷ []) pen → r ≡ traced (flex1_drawn pen.at v) pen
flex1_gone pen v p1 p2 p3 p4 p5 p6 r e1 e2 e3 e4 e5 e6 h =
    let q1 : Position = by (v 0) (v 1) pen.at in
    let q2 : Position = by (v 2) (v 3) q1 in
    let q3 : Position = by (v 4) (v 5) q2 in
    let q4 : Position = by (v 6) (v 7) q3 in
    let q5 : Position = by (v 8) (v 9) q4 in
    let q6 : Position = flex1_end pen.at (v 10) q5 in
    let s2 : p2 ≡ q2 = e2 ∙ ap (λ (p : Position). by (v 2) (v 3) p) e1 in
    let s3 : p3 ≡ q3 = e3 ∙ ap (λ (p : Position). by (v 4) (v 5) p) s2 in
    let s4 : p4 ≡ q4 = e4 ∙ ap (λ (p : Position). by (v 6) (v 7) p) s3 in
    let s5 : p5 ≡ q5 = e5 ∙ ap (λ (p : Position). by (v 8) (v 9) p) s4 in
    let s6 : p6 ≡ q6 = e6 ∙ ap (λ (p : Position). flex1_end pen.at (v 10) p) s5 in
    six_are pen r p1 p2 p3 p4 p5 p6 q1 q2 q3 q4 q5 q6 e1 s2 s3 s4 s5 s6 h
