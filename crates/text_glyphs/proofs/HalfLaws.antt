-- The search by halves finds the last key that is at most a number.
use Rattle.std.proofs.Common.{◌≡◌, ℕ, zero, suc, ◌+◌, ◌-◌, ◌*◌, ◌/◌, ◌<◌, ◌≤◌, ◌^◌, min, length, Bool, true, false, Option, Some, None, refl, sym, subst, ap, ◌∙◌, ◌⊎◌, inl, inr, arith, pow-suc, ltb-true, ltb-false}
use Rattle.std.specs.Prelude.{nat_lt, ◌==◌, if◌then◌else◌}
use Rattle.text_glyphs.specs.Halves.{before, halves, is_up_to, key_at, last_up_to, records_there}
use Rattle.text_glyphs.specs.Laws.{DoAscend, LastIsFound, last_of}

-- the first r of n keys are at most a number, and the others aren't
record IsSplit (key : ℕ → Option ℕ) (c n r : ℕ) : Type 0 where
  within : r ≤ n
  front : (j : ℕ) → j < r → is_up_to c (key j) ≡ true
  following : (j : ℕ) → r ≤ j → j < n → is_up_to c (key j) ≡ false

or_not : (b : Bool) → (b ≡ true) ⊎ (b ≡ false)
or_not true = inl refl
or_not false = inr refl

not_both : (b : Bool) → b ≡ true → b ≡ false → ⊥
not_both b t f = cc

taken : {A : Type 0} (b : Bool) (x y : A) → b ≡ true → (if b then x else y) ≡ x
taken true x y h = refl
taken false x y h = absurd (not_both false h refl)

missed : {A : Type 0} (b : Bool) (x y : A) → b ≡ false → (if b then x else y) ≡ y
missed false x y h = refl
missed true x y h = absurd (not_both true refl h)

before_suc : (n : ℕ) → before (suc n) ≡ Some n
before_suc n =
    let some : (suc n == 0) ≡ false = grind arith in
    let less : suc n - 1 ≡ n = omega arith in
    missed (suc n == 0) None (Some (suc n - 1)) some ∙ ap Some less

min_right : (a b : ℕ) → min a b ≤ b
min_right a b = omega arith

half : (low high : ℕ) → low < high → (low + (high - low) / 2 < high) × (low ≤ low + (high - low) / 2)
half low high h = (omega arith, omega arith)

smaller : (k d : ℕ) → d < 2 ^ suc k → d / 2 < 2 ^ k
smaller k d h = let p : 2 ^ suc k ≡ 2 ^ k * 2 = pow-suc 2 k in omega arith

module _ (key : ℕ → Option ℕ) (c : ℕ) where
  abbrev middle : ℕ → ℕ → ℕ
  middle low high = low + (high - low) / 2

  abbrev inner : ℕ → ℕ → ℕ → ℕ
  inner steps low high = if is_up_to c (key (middle low high)) then halves key c steps (middle low high + 1) high else halves key c steps low (middle low high)

  step : (steps low high : ℕ) → halves key c (suc steps) low high ≡ (if nat_lt low high then inner steps low high else low)
  unfolding halves
  step steps low high = refl

  none : (low high : ℕ) → halves key c zero low high ≡ low
  unfolding halves
  none low high = refl

  on : (steps low high : ℕ) → nat_lt low high ≡ true → is_up_to c (key (middle low high)) ≡ true → halves key c (suc steps) low high ≡ halves key c steps (middle low high + 1) high
  on steps low high l t = step steps low high ∙ taken (nat_lt low high) (inner steps low high) low l ∙ taken (is_up_to c (key (middle low high))) (halves key c steps (middle low high + 1) high) (halves key c steps low (middle low high)) t

  back : (steps low high : ℕ) → nat_lt low high ≡ true → is_up_to c (key (middle low high)) ≡ false → halves key c (suc steps) low high ≡ halves key c steps low (middle low high)
  back steps low high l f = step steps low high ∙ taken (nat_lt low high) (inner steps low high) low l ∙ missed (is_up_to c (key (middle low high))) (halves key c steps (middle low high + 1) high) (halves key c steps low (middle low high)) f

  done : (steps low high : ℕ) → nat_lt low high ≡ false → halves key c (suc steps) low high ≡ low
  done steps low high l = step steps low high ∙ missed (nat_lt low high) (inner steps low high) low l

  module _ (n : ℕ) (a : DoAscend key n) where
    later : (m : ℕ) → is_up_to c (key m) ≡ false → (j : ℕ) → m ≤ j → j < n → is_up_to c (key j) ≡ false
    later m f j l h = by (or_not (is_up_to c (key j))) where
      by : (is_up_to c (key j) ≡ true) ⊎ (is_up_to c (key j) ≡ false) → is_up_to c (key j) ≡ false
      by (inl t) = absurd (not_both (is_up_to c (key m)) (a.order c m j l h t) f)
      by (inr g) = g

    at_once : (low high : ℕ) → high ≤ low → low ≤ n → ((j : ℕ) → j < low → is_up_to c (key j) ≡ true) → ((j : ℕ) → high ≤ j → j < n → is_up_to c (key j) ≡ false) → IsSplit key c n low
    at_once low high o h front following = record { within = h; front = front; following = λ j l k. following j (omega arith) k }

    abbrev Splits : ℕ → Type 0
    Splits steps = (low high : ℕ) → low ≤ high → high ≤ n → high - low < 2 ^ steps → ((j : ℕ) → j < low → is_up_to c (key j) ≡ true) → ((j : ℕ) → high ≤ j → j < n → is_up_to c (key j) ≡ false) → IsSplit key c n (halves key c steps low high)

    split_more : (steps : ℕ) → Splits steps → Splits (suc steps)
    split_more steps fewer_steps low high o h s front following = by (or_not (nat_lt low high)) (or_not (is_up_to c (key (middle low high)))) where
      by : (nat_lt low high ≡ true) ⊎ (nat_lt low high ≡ false) → (is_up_to c (key (middle low high)) ≡ true) ⊎ (is_up_to c (key (middle low high)) ≡ false) → IsSplit key c n (halves key c (suc steps) low high)
      by (inl l) (inl t) =
          let order : low < high = ltb-true low high l in
          let inside = half low high order in
          let fewer = smaller steps (high - low) s in
          subst (IsSplit key c n) (sym (on steps low high l t))
          (fewer_steps (middle low high + 1) high (omega arith) h (omega arith) (λ j k. a.order c j (middle low high) (omega arith) (omega arith) t) following)
      by (inl l) (inr f) =
          let order : low < high = ltb-true low high l in
          let inside = half low high order in
          let fewer = smaller steps (high - low) s in
          subst (IsSplit key c n) (sym (back steps low high l f))
          (fewer_steps low (middle low high) (omega arith) (omega arith) (omega arith) front (later (middle low high) f))
      by (inr l) x = subst (IsSplit key c n) (sym (done steps low high l)) (at_once low high (ltb-false low high l) (omega arith) front following)

    split_none : Splits zero
    split_none low high o h s front following = subst (IsSplit key c n) (sym (none low high)) (at_once low high (omega arith) (omega arith) front following)

    split : (steps : ℕ) → Splits steps
    split zero = split_none
    split (suc steps) = split_more steps (split steps)

  abbrev Lasts : ℕ → Type 0
  Lasts n = (r : ℕ) → IsSplit key c n r → last_of key n c ≡ before r

  last_more : (n : ℕ) → Lasts n → Lasts (suc n)
  last_more n fewer r s = by (or_not (nat_lt n r)) where
    by : (nat_lt n r ≡ true) ⊎ (nat_lt n r ≡ false) → last_of key (suc n) c ≡ before r
    by (inl l) =
        let inside : n < r = ltb-true n r l in
        let w = s.within in
        let same : r ≡ suc n = omega arith in
        taken (is_up_to c (key n)) (Some n) (last_of key n c) (s.front n inside) ∙ sym (before_suc n) ∙ ap before (sym same)
    by (inr l) =
        let outside : r ≤ n = ltb-false n r l in
        missed (is_up_to c (key n)) (Some n) (last_of key n c) (s.following n outside (omega arith))
        ∙ fewer r (record { within = outside; front = s.front; following = λ j h k. s.following j h (omega arith) })

  last_none : Lasts zero
  last_none r s = let w = s.within in let empty : r ≡ 0 = omega arith in ap before (sym empty)

  last_split : (n : ℕ) → Lasts n
  last_split zero = last_none
  last_split (suc n) = last_more n (last_split n)

pub last_is_found : LastIsFound
unfolding last_up_to
last_is_found table at size width n c few a =
    let key = key_at table at size width in
    let there = records_there table at size n in
    let fewer : there ≤ n = min_right ((length table - at) / size) n in
    sym (last_split key c there (halves key c 32 0 there) (split key c there a 32 0 there (omega arith) (omega arith) (omega arith) (λ j l. absurd (omega arith)) (λ j l k. absurd (omega arith))))
