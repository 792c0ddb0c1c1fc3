-- Operands that are within 2^45, one by one and those after some; and too few operands draw nothing.
use Rattle.std.proofs.Common.{◌≡◌, ℕ, ℤ, pos, negsuc, ◌≤◌, ◌<◌, ◌-◌, ◌^◌, true, List, [], ◌∷◌, All, length, take, drop, get_or, FitsSigned, w64, to_z, of_z, unsigned_abs, Some, refl, sym, ap, subst, arith, length-drop}
use Rattle.std.proofs.lemmas.Int.{ints, to_z-of_z}
use Rattle.std.proofs.lemmas.List.Elements.{All-drop, All-take}
use Rattle.subsetter_blend.specs.Drawn.{curves, horizontal_curves, vertical_curves, odd_horizontal, odd_vertical}
use Rattle.subsetter_blend.specs.Runs.Number.{IsWithin}
use Rattle.subsetter_boxes.specs.declared.pen.Pen.{Pen}
use Rattle.subsetter_boxes.specs.Traced.{traced}
use Rattle.subsetter_boxes.proofs.Walks.{rest_all}

-- ---- each operand
fits : (z : ℤ) → IsWithin z → FitsSigned w64 z
fits (pos n) h = record { sfits = omega (arith, ints) }
fits (negsuc n) h = record { sfits = omega (arith, ints) }

pub operand : (xs : List ℤ) (k : ℕ) → All IsWithin xs → k < length xs → unsigned_abs (to_z w64 (of_z w64 (get_or xs k (pos 0)))) ≤ 2 ^ 45
operand xs k h l =
    let within : IsWithin (get_or xs k (pos 0)) = h k (pos 0) l in
    subst (λ (y : ℤ). unsigned_abs y ≤ 2 ^ 45) (sym (to_z-of_z w64 (get_or xs k (pos 0)) (fits (get_or xs k (pos 0)) within))) within

pub operands_after : (n : ℕ) (xs : List ℤ) → All IsWithin xs → All IsWithin (take (length xs - n) (drop n xs))
operands_after n xs h = All-take IsWithin (length xs - n) (drop n xs) (All-drop IsWithin n xs h)

pub fewer : (n : ℕ) (xs : List ℤ) → 0 < n → n ≤ length xs → length (take (length xs - n) (drop n xs)) < length xs
fewer n xs some l = omega (arith, ap length (rest_all n xs), length-drop n xs)

-- ---- too few
pub few_curves : (pen : Pen) (xs : List ℤ) → length xs < 6 → Some pen ≡ traced (curves pen.at xs) pen
few_curves pen [] l = refl
few_curves pen (a ∷ []) l = refl
few_curves pen (a ∷ b ∷ []) l = refl
few_curves pen (a ∷ b ∷ c ∷ []) l = refl
few_curves pen (a ∷ b ∷ c ∷ d ∷ []) l = refl
few_curves pen (a ∷ b ∷ c ∷ d ∷ e ∷ []) l = refl
few_curves pen (a ∷ b ∷ c ∷ d ∷ e ∷ f ∷ xs) l = absurd (omega arith)

pub few_horizontal : (pen : Pen) (xs : List ℤ) → length xs < 4 → Some pen ≡ traced (horizontal_curves pen.at xs) pen
few_horizontal pen [] l = refl
few_horizontal pen (a ∷ []) l = refl
few_horizontal pen (a ∷ b ∷ []) l = refl
few_horizontal pen (a ∷ b ∷ c ∷ []) l = refl
few_horizontal pen (a ∷ b ∷ c ∷ d ∷ xs) l = absurd (omega arith)

pub few_vertical : (pen : Pen) (xs : List ℤ) → length xs < 4 → Some pen ≡ traced (vertical_curves pen.at xs) pen
few_vertical pen [] l = refl
few_vertical pen (a ∷ []) l = refl
few_vertical pen (a ∷ b ∷ []) l = refl
few_vertical pen (a ∷ b ∷ c ∷ []) l = refl
few_vertical pen (a ∷ b ∷ c ∷ d ∷ xs) l = absurd (omega arith)

pub few_raised : (pen : Pen) (xs : List ℤ) → length xs < 5 → Some pen ≡ traced (odd_horizontal true pen.at xs) pen
few_raised pen [] l = refl
few_raised pen (x ∷ []) l = refl
few_raised pen (x ∷ a ∷ []) l = refl
few_raised pen (x ∷ a ∷ b ∷ []) l = refl
few_raised pen (x ∷ a ∷ b ∷ c ∷ []) l = refl
few_raised pen (x ∷ a ∷ b ∷ c ∷ d ∷ xs) l = absurd (omega arith)

pub few_shifted : (pen : Pen) (xs : List ℤ) → length xs < 5 → Some pen ≡ traced (odd_vertical true pen.at xs) pen
few_shifted pen [] l = refl
few_shifted pen (x ∷ []) l = refl
few_shifted pen (x ∷ a ∷ []) l = refl
few_shifted pen (x ∷ a ∷ b ∷ []) l = refl
few_shifted pen (x ∷ a ∷ b ∷ c ∷ []) l = refl
few_shifted pen (x ∷ a ∷ b ∷ c ∷ d ∷ xs) l = absurd (omega arith)
