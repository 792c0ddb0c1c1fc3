-- A number of two bytes is written as these again.
use Rattle.std.proofs.Common.{◌≡◌, ℕ, ◌+◌, ◌-◌, ◌*◌, ◌<◌, ◌≤◌, Bool, true, false, [], ◌∷◌, refl, ap, ◌∙◌, arith, pos, negsuc, ◌-ℤ◌, ℤ, FitsSigned, to_z, of_z, w16, nat_lt, if◌then◌else◌}
use Rattle.std.proofs.lemmas.Int.{ints, to_z-of_z}
use Rattle.std.proofs.lemmas.Bool.Decides.{nat_tests}
use Rattle.subsetter_cffdata.specs.declared.numerals.charstring_number.CharStringNumber.TheVariants.{Integer}
use Rattle.subsetter_cffdata.specs.Numerals.CharStringNumber.{middle_value, written}
use Rattle.subsetter_cffdata.proofs.NumeralsLaws.CharStringNumbers.{above_fits, below_fits}

above_written : (first second : ℕ) → 247 ≤ first → first < 251 → second < 256 → written (Integer (pos ((first - 247) * 256 + second + 108))) ≡ first ∷ second ∷ []
unfolding written
above_written first second low high small = grind (arith, nat_tests)

negative : (n : ℕ) → pos 0 -ℤ pos (n + 1) ≡ negsuc n
negative n = grind (arith, ints)

below_by : (first second n : ℕ) → 251 ≤ first → first < 255 → second < 256 → n ≡ (first - 251) * 256 + second + 107 → written (Integer (negsuc n)) ≡ first ∷ second ∷ []
unfolding written
below_by first second n low high small e = grind (arith, nat_tests)

below_written : (first second : ℕ) → 251 ≤ first → first < 255 → second < 256 → written (Integer (pos 0 -ℤ pos ((first - 251) * 256 + second + 108))) ≡ first ∷ second ∷ []
below_written first second low high small =
    let n = (first - 251) * 256 + second + 107 in
    ap (λ (k : ℕ). written (Integer (pos 0 -ℤ pos k))) (let e : (first - 251) * 256 + second + 108 ≡ n + 1 = omega arith in e)
    ∙ ap (λ z. written (Integer z)) (negative n)
    ∙ below_by first second n low high small refl

by_test : (b : Bool) (first second : ℕ) → (b ≡ true → first < 251) → (b ≡ false → 251 ≤ first) → 247 ≤ first → first < 255 → second < 256
    → written (Integer (if b then pos ((first - 247) * 256 + second + 108) else pos 0 -ℤ pos ((first - 251) * 256 + second + 108))) ≡ first ∷ second ∷ []
by_test true first second f g low high small = above_written first second low (f refl) small
by_test false first second f g low high small = below_written first second (g refl) high small

middle_written : (first second : ℕ) → 247 ≤ first → first < 255 → second < 256 → written (Integer (middle_value first second)) ≡ first ∷ second ∷ []
middle_written first second low high small = by_test (nat_lt first 251) first second (λ h. grind (arith, nat_tests)) (λ h. grind (arith, nat_tests)) low high small

-- such a number fits 16 bits
fits_by : (b : Bool) (first second : ℕ) → (b ≡ true → first < 251) → first < 255 → second < 256
    → FitsSigned w16 (if b then pos ((first - 247) * 256 + second + 108) else pos 0 -ℤ pos ((first - 251) * 256 + second + 108))
fits_by true first second f high small = above_fits first second small (f refl)
fits_by false first second f high small = below_fits first second small high

middle_fits : (first second : ℕ) → first < 255 → second < 256 → FitsSigned w16 (middle_value first second)
middle_fits first second high small = fits_by (nat_lt first 251) first second (λ h. grind (arith, nat_tests)) high small

pub stored_written : (first second : ℕ) (z : ℤ) → 247 ≤ first → first < 255 → second < 256 → z ≡ middle_value first second → written (Integer (to_z w16 (of_z w16 z))) ≡ first ∷ second ∷ []
stored_written first second z low high small e =
    ap (λ (x : ℤ). written (Integer (to_z w16 (of_z w16 x)))) e ∙ ap (λ (x : ℤ). written (Integer x)) (to_z-of_z w16 (middle_value first second) (middle_fits first second high small)) ∙ middle_written first second low high small
