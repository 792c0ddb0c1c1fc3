-- Quotients of sums, and to which whole number a quotient is nearest.
use Rattle.std.proofs.Common.{◌≡◌, ℕ, zero, suc, ◌+◌, ◌-◌, ◌*◌, ◌/◌, ◌%◌, ◌<◌, sym, ap, ◌∙◌, arith}
use Rattle.std.specs.Prelude.{◌==◌, ◌||◌, not, if◌then◌else◌}
use Rattle.std.proofs.Math.Nat.{add-mul, mul_assoc, mul_comm, mul-add-div_right, div-div-eq-div-mul, mul-add-mod_self_right}
use Rattle.std.proofs.Math.Arith.{mod-mul}
use Rattle.std.proofs.lemmas.Nat.{div-mul-add}

-- ---- one more digit in front

-- the order of three factors
turned : (d m k : ℕ) → d * m * k ≡ d * k * m
turned d m k = mul_assoc d m k ∙ (ap (λ (n : ℕ). d * n) (mul_comm m k) ∙ sym (mul_assoc d k m))

-- v parts of a unit, and those of a digit before them
as_sum : (d m v k : ℕ) → (d * m + v) * k ≡ d * k * m + v * k
as_sum d m v k = add-mul (d * m) v k ∙ ap (λ (n : ℕ). n + v * k) (turned d m k)

pub quotient_of_sum : (d m v k : ℕ) → 0 < m → (d * m + v) * k / m ≡ d * k + v * k / m
quotient_of_sum d m v k above = ap (λ (n : ℕ). n / m) (as_sum d m v k) ∙ mul-add-div_right {m = m} above (d * k) (v * k)

pub rest_of_sum : (d m v k : ℕ) → (d * m + v) * k % m ≡ v * k % m
rest_of_sum d m v k = ap (λ (n : ℕ). n % m) (as_sum d m v k) ∙ mul-add-mod_self_right (d * k) m (v * k)

pub quotient_by_ten : (d m v k : ℕ) → 0 < m → (d * m + v) * k / (m * 10) ≡ (d * k + v * k / m) / 10
quotient_by_ten d m v k above = sym (div-div-eq-div-mul ((d * m + v) * k) m 10) ∙ ap (λ (n : ℕ). n / 10) (quotient_of_sum d m v k above)

rest_by_ten : (d m v k : ℕ) → 0 < m → (d * m + v) * k % (10 * m) ≡ (d * k + v * k / m) % 10 * m + v * k % m
rest_by_ten d m v k above =
    mod-mul ((d * m + v) * k) {m = 10} {c = m} (omega arith) above ∙ (ap (λ (q : ℕ). q % 10 * m + (d * m + v) * k % m) (quotient_of_sum d m v k above) ∙ ap (λ (r : ℕ). (d * k + v * k / m) % 10 * m + r) (rest_of_sum d m v k))

-- a sum of a multiple and a rest is 0 where both are
none_of_both : (a m r : ℕ) → 0 < m → not (a * m + r == 0) ≡ (not (r == 0) || not (a == 0))
none_of_both zero m zero above = grind arith
none_of_both zero m (suc r) above = grind arith
none_of_both (suc a) m zero above = let more : 0 < suc a * m = omega (arith, add-mul a 1 m) in grind arith
none_of_both (suc a) m (suc r) above = grind arith

pub more_by_ten : (d m v k : ℕ) → 0 < m → not ((d * m + v) * k % (m * 10) == 0) ≡ (not (v * k % m == 0) || not ((d * k + v * k / m) % 10 == 0))
more_by_ten d m v k above =
    ap (λ (q : ℕ). not ((d * m + v) * k % q == 0)) (mul_comm m 10) ∙ (ap (λ (n : ℕ). not (n == 0)) (rest_by_ten d m v k above) ∙ none_of_both ((d * k + v * k / m) % 10) m (v * k % m) above)

-- ---- halves decide

-- a number of twice as many parts
twice : (n h r p : ℕ) → n ≡ h * p + r → r < p → n / (2 * p) ≡ h / 2
twice n h r p e less =
    ap (λ (q : ℕ). n / q) (mul_comm 2 p) ∙ (sym (div-div-eq-div-mul n p 2) ∙ ap (λ (q : ℕ). q / 2) (ap (λ (x : ℕ). x / p) e ∙ div-mul-add h p r less))

one_more : (h p : ℕ) → (h + 1) * p ≡ h * p + p
one_more h p = add-mul h 1 p ∙ ap (λ (n : ℕ). h * p + n) (omega arith)

-- c units in p parts each: the nearest 65536th
pub above_by_halves : (c p h r : ℕ) → c * 131072 ≡ h * p + r → r < p → (2 * (c * 65536) + p) / (2 * p) ≡ (h + 1) / 2
above_by_halves c p h r e less = twice _ (h + 1) r p (omega (arith, e, one_more h p)) less

-- and below zero
one_more_where : (h r : ℕ) → h + (if not (suc r == 0) then 1 else 0) ≡ h + 1
one_more_where h r = grind arith

pub below_by_halves : (c p h r : ℕ) → c * 131072 ≡ h * p + r → r < p → (2 * (c * 65536) + (p - 1)) / (2 * p) ≡ (h + (if not (r == 0) then 1 else 0)) / 2
below_by_halves c p h zero e less = twice _ (h + 0) (p - 1) p (omega (arith, e)) (omega arith)
below_by_halves c p h (suc r) e less =
    twice _ (h + 1) r p (omega (arith, e, one_more h p)) (omega arith) ∙ ap (λ (n : ℕ). n / 2) (sym (one_more_where h r))
