-- Zeros at the end, one by one; a number past 999.
use Rattle.std.proofs.Common.{◌≡◌, ◌≢◌, ℕ, ◌+◌, ◌-◌, ◌*◌, ◌<◌, ◌≤◌, List, [], ◌∷◌, ◌++◌, take, drop, length, get_or, None, refl, ap, arith, ◌∙◌, sym, inl, inr, eqb, Bool, false}
use Rattle.std.specs.Prelude.{ℤ, pos, ◌+ℤ◌}
use Rattle.std.specs.Int.Digits.{number_from_digits_after}
use Rattle.std.proofs.lemmas.Bool.{lt-leb, cases_eq, ne_eqb, and_right}
use Rattle.std.proofs.lemmas.List.{take_more, drop_more, take-take, length-take, nil_from_length}
use Rattle.std.proofs.lemmas.Int.Digits.{number_after_ge}
use Rattle.subsetter_cffdata.specs.Reals.Decimals.{trimmed, number, small_number, signed, decimal}
use Rattle.subsetter_cffdata.proofs.RealsLaws.Reals.{trimmed_more, ends}

pub last_of : (ds : List ℕ) (len : ℕ) → 0 < len → len ≤ length ds → take len ds ≡ take (len - 1) ds ++ get_or ds (len - 1) 0 ∷ []
last_of ds len some le = let step : len ≡ len - 1 + 1 = omega arith in ap (λ (n : ℕ). take n ds) step ∙ take_more ds (len - 1) 0 (omega arith)

pub one_zero : (ds : List ℕ) (len : ℕ) → 0 < len → len ≤ length ds → get_or ds (len - 1) 0 ≡ 0 → trimmed (take (len - 1) ds) ≡ trimmed (take len ds)
one_zero ds len some le z = sym (ap trimmed (last_of ds len some le ∙ ap (λ (d : ℕ). take (len - 1) ds ++ d ∷ []) z) ∙ trimmed_more (take (len - 1) ds) 1)

pub no_zero : (ds : List ℕ) (len : ℕ) → 0 < len → len ≤ length ds → get_or ds (len - 1) 0 ≢ 0 → trimmed (take len ds) ≡ take len ds
no_zero ds len some le z = ap trimmed (last_of ds len some le) ∙ ends (take (len - 1) ds) (get_or ds (len - 1) 0) z ∙ sym (last_of ds len some le)

pub past_999 : (ds : List ℕ) (i n : ℕ) → i < length ds → number_from_digits_after 10 n (drop i ds) ≡ number ds → 999 < n * 10 + get_or ds i 0 → small_number ds ≡ None
past_999 ds i n lt rest big =
    let e : number_from_digits_after 10 (n * 10 + get_or ds i 0) (drop (i + 1) ds) ≡ number ds = sym (ap (number_from_digits_after 10 n) (drop_more ds i 0 lt)) ∙ rest in
    let more = number_after_ge 10 (n * 10 + get_or ds i 0) (drop (i + 1) ds) (omega arith) in
    rw (lt-leb (number ds) 999 (omega (arith, more, e))) refl

-- digits of which the last isn't 0 are no zero
positive : (ds : List ℕ) (n : ℕ) → 0 < length (trimmed ds) → 0 < number_from_digits_after 10 n (trimmed ds)
positive [] n some = absurd (omega arith)
positive (d ∷ ds) n some =
    elim (cases_eq (length (trimmed ds)) 0) [
      | inl none ↦ (let nil : trimmed ds ≡ [] = nil_from_length (trimmed ds) none in
          elim (cases_eq d 0) [
            | inl z ↦ absurd (let empty : length (trimmed (d ∷ ds)) ≡ 0 = rw (z, nil) refl in omega (arith, some, empty))
            | inr nz ↦ rw (nil, ne_eqb d 0 nz) (omega arith)
          ])
      | inr more ↦ rw (ne_eqb (length (trimmed ds)) 0 more, and_right (eqb d 0) false refl) (positive ds (n * 10 + d) (omega arith))
    ]

-- what is kept of the digits, as a decimal
pub kept_is : (negative : Bool) (chars ds : List ℕ) (total len : ℕ) (e p : ℤ) → take total chars ≡ ds → total ≡ length ds → 0 < len → len ≤ total
    → take len (take total chars) ≡ trimmed (take total chars) → e +ℤ pos (total - len) ≡ p
    → record { mantissa = signed negative (number (take len chars)); power = p } ≡ decimal negative ds e
kept_is negative chars ds total len e p is size some le kept power =
    let same : take len chars ≡ trimmed ds = sym (take-take len total chars le) ∙ kept ∙ ap trimmed is in
    let size' : length (take len chars) ≡ len = omega (arith, ap length (take-take len total chars le), length-take len (take total chars), ap length is) in
    let long : length (trimmed ds) ≡ len = sym (ap length same) ∙ size' in
    let some' : 0 < number (trimmed ds) = positive ds 0 (omega arith) in
    let count : length ds - length (trimmed ds) ≡ total - len = omega arith in
    rw (ne_eqb (number (trimmed ds)) 0 (λ z. omega arith), count, power, same) refl

-- no digit is kept
pub nothing_kept : (negative : Bool) (chars ds : List ℕ) (total : ℕ) (e : ℤ) → take total chars ≡ ds → take 0 (take total chars) ≡ trimmed (take total chars)
    → record { mantissa = pos 0; power = pos 0 } ≡ decimal negative ds e
nothing_kept negative chars ds total e is kept = let none : trimmed ds ≡ [] = sym (kept ∙ ap trimmed is) in rw none refl
