-- One more step of the search by halves.
use Rattle.std.proofs.Common.{◌≡◌, ℕ, suc, ◌+◌, ◌-◌, ◌/◌, ◌<◌, ◌≤◌, Bool, true, false, Option, refl, ap, ◌∙◌, arith}
use Rattle.std.specs.Prelude.{nat_lt, if◌then◌else◌}
use Rattle.text_glyphs.specs.Halves.{halves, is_up_to}

left : (n i : ℕ) → i < n → n - i ≡ suc (n - (i + 1))
left n i h = omega arith

none_left : (n i : ℕ) → n ≤ i → n - i ≡ 0
none_left n i h = omega arith

chosen : (b : Bool) (x y : ℕ) → b ≡ true → (if b then x else y) ≡ x
chosen true x y h = refl
chosen false x y h = grind arith

passed : (b : Bool) (x y : ℕ) → b ≡ false → (if b then x else y) ≡ y
passed false x y h = refl
passed true x y h = grind arith

module _ (key : ℕ → Option ℕ) (c n i low high : ℕ) where
  abbrev on : ℕ
  on = halves key c (n - (i + 1)) (low + (high - low) / 2 + 1) high

  abbrev back : ℕ
  back = halves key c (n - (i + 1)) low (low + (high - low) / 2)

  abbrev inner : ℕ
  inner = if is_up_to c (key (low + (high - low) / 2)) then on else back

  half_step : i < n → halves key c (n - i) low high ≡ (if nat_lt low high then inner else low)
  unfolding halves
  half_step h = ap (λ k. halves key c k low high) (left n i h)

  half_inside : i < n → low < high → halves key c (n - i) low high ≡ inner
  half_inside h l = half_step h ∙ chosen (nat_lt low high) inner low (grind arith)

  pub half_on : i < n → low < high → is_up_to c (key (low + (high - low) / 2)) ≡ true → halves key c (n - i) low high ≡ halves key c (n - (i + 1)) (low + (high - low) / 2 + 1) high
  half_on h l t = half_inside h l ∙ chosen (is_up_to c (key (low + (high - low) / 2))) on back t

  pub half_back : i < n → low < high → is_up_to c (key (low + (high - low) / 2)) ≡ false → halves key c (n - i) low high ≡ halves key c (n - (i + 1)) low (low + (high - low) / 2)
  half_back h l f = half_inside h l ∙ passed (is_up_to c (key (low + (high - low) / 2))) on back f

  pub half_done : i < n → high ≤ low → halves key c (n - i) low high ≡ low
  half_done h l = half_step h ∙ passed (nat_lt low high) inner low (grind arith)

  pub half_end : n ≤ i → halves key c (n - i) low high ≡ low
  unfolding halves
  half_end h = ap (λ k. halves key c k low high) (none_left n i h)
