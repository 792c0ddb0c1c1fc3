-- A real that was written is read again.
use Rattle.std.proofs.Common.{◌≡◌, ◌≢◌, ℕ, zero, suc, ◌+◌, ◌-◌, ◌*◌, ◌/◌, ◌%◌, ◌^◌, ◌<◌, Bool, true, false, eqb, ltb, List, [], ◌∷◌, ◌++◌, take, drop, length, replicate, Some, refl, ap, arith, inl, inr, ◌∙◌, sym, length-append}
use Rattle.std.specs.Prelude.{ℤ, pos, negsuc, ◌+ℤ◌, ◌-ℤ◌, unsigned_abs, IsTrue}
use Rattle.std.specs.List.{AllByRecursion}
use Rattle.std.specs.Int.Digits.{digits_with_fuel, digits_of}
use Rattle.std.proofs.lemmas.Bool.{cases_lt, cases_eq, lt-ltb, le-ltb, le-leb, ne_eqb, and_right, ltb-true, eqb-true}
use Rattle.std.proofs.lemmas.List.{append-nil, take-append-drop, length-take, length-drop, length-replicate}
use Rattle.std.proofs.Math.Nat.{pow-suc}
use Rattle.std.proofs.lemmas.Int.{ints}
use Rattle.std.proofs.lemmas.Int.Digits.{digits_of_step, all_below_base_digits_of, number_digits_of}
use Rattle.subsetter_cffdata.specs.Bytes.{ReadAgain}
use Rattle.subsetter_cffdata.specs.Reals.Decimals.{Decimal, HasText, is_normal, is_zero, point, digits, after_digits, number, sign, signed, trimmed, decimal, unsigned_real, real_of, characters, text_at, real_at, unsigned_text, decimal_digits, real_text, packed}

-- ---- characters and bytes
abbrev pub IsCharacter : ℕ → Type 0
IsCharacter c = (c < 15) × (c ≢ 12) × (c ≢ 13)

characters_is : (c : ℕ) → IsCharacter c → characters c ≡ Some (c ∷ [])
characters_is c is = rw (ne_eqb c 13 is.2, ne_eqb c 12 is.1) refl

pub text_again : (text : List ℕ) → AllByRecursion IsCharacter text → ReadAgain text_at (packed text) text
unfolding text_at
text_again [] all rest = refl
text_again (c ∷ []) all rest =
    let high : (16 * c + 15) / 16 ≡ c = omega arith in
    let low : (16 * c + 15) % 16 ≡ 15 = omega arith in
    rw (high, low, ne_eqb c 15 (λ e. omega (arith, all.0.0)), characters_is c all.0) refl
text_again (c ∷ d ∷ text) all rest =
    let small : d < 15 = all.1.0.0 in
    let high : (16 * c + d) / 16 ≡ c = omega arith in
    let low : (16 * c + d) % 16 ≡ d = omega arith in
    rw (high, low, ne_eqb c 15 (λ e. omega (arith, all.0.0)), characters_is c all.0, ne_eqb d 15 (λ e. omega arith), characters_is d all.1.0, text_again text all.1.1 rest) refl

-- ---- lists of digits
abbrev pub AreDigits : List ℕ → Type 0
AreDigits ds = AllByRecursion (λ d. d < 10) ds

pub all_append : {X : Type 0} (P : X → Type 0) (xs ys : List X) → AllByRecursion P xs → AllByRecursion P ys → AllByRecursion P (xs ++ ys)
all_append P [] ys a b = b
all_append P (x ∷ xs) ys a b = (a.0, all_append P xs ys a.1 b)

pub all_take : {X : Type 0} (P : X → Type 0) (n : ℕ) (xs : List X) → AllByRecursion P xs → AllByRecursion P (take n xs)
all_take P zero xs a = tt
all_take P (suc n) [] a = tt
all_take P (suc n) (x ∷ xs) a = (a.0, all_take P n xs a.1)

pub all_drop : {X : Type 0} (P : X → Type 0) (n : ℕ) (xs : List X) → AllByRecursion P xs → AllByRecursion P (drop n xs)
all_drop P zero xs a = a
all_drop P (suc n) [] a = tt
all_drop P (suc n) (x ∷ xs) a = all_drop P n xs a.1

zeros : (k : ℕ) → AreDigits (replicate k 0)
zeros zero = tt
zeros (suc k) = (omega arith, zeros k)

digits_character : (ds : List ℕ) → AreDigits ds → AllByRecursion IsCharacter ds
digits_character [] all = tt
digits_character (d ∷ ds) all = let small : d < 10 = all.0 in ((omega arith, λ e. omega arith, λ e. omega arith), digits_character ds all.1)

pub digits_front : (ds t : List ℕ) → AreDigits ds → digits (ds ++ t) ≡ ds ++ digits t
digits_front [] t all = refl
digits_front (d ∷ ds) t all = rw (lt-ltb d 10 all.0, digits_front ds t all.1) refl

after_front : (ds t : List ℕ) → AreDigits ds → after_digits (ds ++ t) ≡ after_digits t
after_front [] t all = refl
after_front (d ∷ ds) t all = rw (lt-ltb d 10 all.0) (after_front ds t all.1)

-- ---- zeros at the end, zeros in front
trimmed_zeros : (k : ℕ) → trimmed (replicate k 0) ≡ []
trimmed_zeros zero = refl
trimmed_zeros (suc k) = rw (trimmed_zeros k) refl

pub trimmed_more : (ds : List ℕ) (k : ℕ) → trimmed (ds ++ replicate k 0) ≡ trimmed ds
trimmed_more [] k = trimmed_zeros k
trimmed_more (d ∷ ds) k = rw (trimmed_more ds k) refl

-- no digit is dropped where the last one isn't 0
pub ends : (xs : List ℕ) (d : ℕ) → d ≢ 0 → trimmed (xs ++ d ∷ []) ≡ xs ++ d ∷ []
ends [] d some = rw (ne_eqb d 0 some) refl
ends (x ∷ xs) d some =
    let long : eqb (length (xs ++ d ∷ [])) 0 ≡ false = ne_eqb _ 0 (λ e. omega (arith, length-append xs (d ∷ []))) in
    rw (ends xs d some, and_right (eqb x 0) _ long) refl

-- a list that ends so stays whole after other digits
stays : (xs ds : List ℕ) → 0 < length ds → trimmed ds ≡ ds → trimmed (xs ++ ds) ≡ xs ++ ds
stays [] ds some h = h
stays (x ∷ xs) ds some h =
    let long : eqb (length (xs ++ ds)) 0 ≡ false = ne_eqb _ 0 (λ e. omega (arith, length-append xs ds)) in
    rw (stays xs ds some h, and_right (eqb x 0) _ long) refl

zeros_number : (k : ℕ) (ds : List ℕ) → number (replicate k 0 ++ ds) ≡ number ds
zeros_number zero ds = refl
zeros_number (suc k) ds = zeros_number k ds

-- ---- the digits of a number
pub digits_are : (k n : ℕ) → n < 10 ^ k → digits_with_fuel 10 k n ≡ digits_of 10 n
digits_are zero n small = let none : n ≡ 0 = omega arith in rw none refl
digits_are (suc k) n small =
    let power = pow-suc 10 k in
    elim (cases_eq n 0) [
      | inl none ↦ rw none refl
      | inr some ↦ rw (ne_eqb n 0 some, digits_are k (n / 10) (omega arith)) (sym (digits_of_step 10 n (omega arith) (omega arith)))
    ]

-- ---- what a text without a minus means
plain_body : (negative : Bool) (w : List ℕ) → AreDigits w → 0 < length w → unsigned_real negative w ≡ Some (decimal negative w (pos 0))
unfolding unsigned_real
plain_body negative w all some =
    let front : digits w ≡ w = ap digits (sym (append-nil w)) ∙ digits_front w [] all ∙ append-nil w in
    let following : after_digits w ≡ [] = ap after_digits (sym (append-nil w)) ∙ after_front w [] all in
    let some' : eqb (length w + 0) 0 ≡ false = ne_eqb _ 0 (λ e. omega arith) in
    rw (following, front, append-nil w, some') refl

pointed_body : (negative : Bool) (w f : List ℕ) → AreDigits w → AreDigits f → 0 < length w → unsigned_real negative (w ++ point ∷ f) ≡ Some (decimal negative (w ++ f) (pos 0 -ℤ pos (length f)))
unfolding unsigned_real
pointed_body negative w f all all' some =
    let front : digits (w ++ point ∷ f) ≡ w = digits_front w (point ∷ f) all ∙ append-nil w in
    let following : after_digits (w ++ point ∷ f) ≡ point ∷ f = after_front w (point ∷ f) all in
    let front' : digits f ≡ f = ap digits (sym (append-nil f)) ∙ digits_front f [] all' ∙ append-nil f in
    let following' : after_digits f ≡ [] = ap after_digits (sym (append-nil f)) ∙ after_front f [] all' in
    let some' : eqb (length w + length f) 0 ≡ false = ne_eqb _ 0 (λ e. omega arith) in
    rw (following, front, front', following', some') refl

decimal_is : (negative : Bool) (ds kept : List ℕ) (power result : ℤ) (n : ℕ) → trimmed ds ≡ kept → number kept ≡ n → 0 < n → power +ℤ pos (length ds - length kept) ≡ result
    → decimal negative ds power ≡ record { mantissa = signed negative n; power = result }
decimal_is negative ds kept power result n t m some p = rw (t, m, ne_eqb n 0 (λ e. omega arith), p) refl

-- ---- and so of the text that is written
pub record IsText (u : List ℕ) (n : ℕ) (power : ℤ) : Type 0 where
  pub means : (negative : Bool) → unsigned_real negative u ≡ Some (record { mantissa = signed negative n; power = power })
  pub no_sign : sign u ≡ (false, u)
  pub characters : AllByRecursion IsCharacter u

no_sign : (w t : List ℕ) → AreDigits w → 0 < length w → sign (w ++ t) ≡ (false, w ++ t)
no_sign [] t all some = absurd (omega arith)
no_sign (c ∷ w) t all some = let small : c < 10 = all.0 in rw (ne_eqb c 14 (λ e. omega arith)) refl

point_character : IsCharacter point
point_character = (omega arith, λ e. omega arith, λ e. omega arith)

pointed_is : (w f : List ℕ) (n k : ℕ) → AreDigits w → AreDigits f → 0 < length w → trimmed (w ++ f) ≡ w ++ f → number (w ++ f) ≡ n → 0 < n → length f ≡ suc k → IsText (w ++ point ∷ f) n (negsuc k)
pointed_is w f n k all all' some t m n-pos len = record {
  means = λ negative. pointed_body negative w f all all' some ∙ ap Some (decimal_is negative (w ++ f) (w ++ f) _ (negsuc k) n t m n-pos (omega (arith, ints, len)));
  no_sign = no_sign w (point ∷ f) all some;
  characters = all_append IsCharacter w (point ∷ f) (digits_character w all) (point_character, digits_character f all');
}

pub unsigned_is : (ds : List ℕ) (n : ℕ) (power : ℤ) → AreDigits ds → number ds ≡ n → 0 < n → trimmed ds ≡ ds → IsText (unsigned_text ds power) n power
unsigned_is [] n power all m some t = absurd (omega arith)
unsigned_is (d ∷ ds) n (pos k) all m some t =
    let w = (d ∷ ds) ++ replicate k 0 in
    let all' : AreDigits w = all_append (λ (x : ℕ). x < 10) (d ∷ ds) (replicate k 0) all (zeros k) in
    let len : length w ≡ length (d ∷ ds) + k = length-append (d ∷ ds) (replicate k 0) ∙ ap (λ (x : ℕ). length (d ∷ ds) + x) (length-replicate {A = ℕ} k 0) in
    record {
      means = λ negative. plain_body negative w all' (omega arith) ∙ ap Some (decimal_is negative w (d ∷ ds) (pos 0) (pos k) n (trimmed_more (d ∷ ds) k ∙ t) m some (omega (arith, ints, len)));
      no_sign = no_sign (d ∷ ds) (replicate k 0) all (omega arith);
      characters = digits_character w all';
    }
unsigned_is (d ∷ ds) n (negsuc k) all m some t =
    let xs = d ∷ ds in
    elim (cases_lt (suc k) (length xs)) [
      | inl lt ↦ rw (lt-ltb (suc k) (length xs) lt) (
          let joined : take (length xs - suc k) xs ++ drop (length xs - suc k) xs ≡ xs = take-append-drop (length xs - suc k) xs in
          pointed_is (take (length xs - suc k) xs) (drop (length xs - suc k) xs) n k (all_take (λ (x : ℕ). x < 10) (length xs - suc k) xs all) (all_drop (λ (x : ℕ). x < 10) (length xs - suc k) xs all)
          (omega (arith, length-take (length xs - suc k) xs)) (rw joined t) (rw joined m) some (omega (arith, length-drop (length xs - suc k) xs)))
      | inr le ↦ rw (le-ltb (suc k) (length xs) le) (
          let f = replicate (suc k - length xs) 0 ++ xs in
          pointed_is (0 ∷ []) f n k (omega arith, tt) (all_append (λ (x : ℕ). x < 10) (replicate (suc k - length xs) 0) xs (zeros (suc k - length xs)) all)
          (omega arith) (stays (0 ∷ replicate (suc k - length xs) 0) xs (omega arith) t) (zeros_number (suc k - length xs) xs ∙ m) some
          (omega (arith, length-append (replicate (suc k - length xs) 0) xs, length-replicate {A = ℕ} (suc k - length xs) 0)))
    ]

digits_text : (n : ℕ) (power : ℤ) → 0 < n % 10 → n < 10 ^ 64 → IsText (unsigned_text (decimal_digits n) power) n power
unfolding decimal_digits
digits_text n power last small =
    let some : 0 < n = omega arith in
    let is : decimal_digits n ≡ digits_of 10 n = digits_are 65 n (omega arith) in
    let step : digits_of 10 n ≡ digits_of 10 (n / 10) ++ (n % 10 ∷ []) = digits_of_step 10 n (omega arith) some in
    let all : AreDigits (decimal_digits n) = rw is (all_below_base_digits_of 10 n (omega arith)) in
    let means : number (decimal_digits n) ≡ n = rw is (number_digits_of 10 n (omega arith)) in
    let whole : trimmed (decimal_digits n) ≡ decimal_digits n = rw (is, step) (ends (digits_of 10 (n / 10)) (n % 10) (λ e. omega arith)) in
    unsigned_is (decimal_digits n) n power all means some whole

-- the text means the decimal, and has no other characters
pub record IsTextOf (d : Decimal) : Type 0 where
  pub means : real_of (real_text d) ≡ Some d
  pub characters : AllByRecursion IsCharacter (real_text d)

made : ℤ → ℤ → Decimal
made m power = record { mantissa = m; power = power }

zero_text : (power : ℤ) → IsTrue (is_zero power) → IsTextOf (record { mantissa = pos 0; power = power })
unfolding real_text real_of unsigned_real decimal_digits
zero_text (pos k) e = let z : k ≡ 0 = eqb-true k 0 e in record { means = rw z refl; characters = ((omega arith, λ e. omega arith, λ e. omega arith), tt) }
zero_text (negsuc k) e = let z : suc k ≡ 0 = eqb-true (suc k) 0 e in absurd (omega arith)

above_text : (n : ℕ) (power : ℤ) → 0 < n → 0 < n % 10 → n < 10 ^ 64 → IsTextOf (record { mantissa = pos n; power = power })
unfolding real_text real_of
above_text n power some last small =
    let t = digits_text n power last small in
    let positive : ltb n 0 ≡ false = le-ltb n 0 (omega arith) in
    record { means = rw (positive, t.no_sign) (t.means false); characters = rw positive t.characters }

below_text : (n : ℕ) (power : ℤ) → 0 < suc n % 10 → suc n < 10 ^ 64 → IsTextOf (record { mantissa = negsuc n; power = power })
unfolding real_text real_of
below_text n power last small =
    let t = digits_text (suc n) power last small in
    record { means = t.means true; characters = ((omega arith, λ e. omega arith, λ e. omega arith), t.characters) }

pub text_of : (m power : ℤ) → IsTrue (is_normal (record { mantissa = m; power = power })) → unsigned_abs m < 10 ^ 64 → IsTextOf (record { mantissa = m; power = power })
text_of (pos n) power normal small =
    elim (cases_eq n 0) [
      | inl z ↦ rw z (zero_text power (rw z at normal))
      | inr some ↦ (let nonzero = ne_eqb n 0 some in above_text n power (omega arith) (ltb-true _ _ (rw nonzero at normal)) small)
    ]
text_of (negsuc n) power normal small = let nonzero : eqb (suc n) 0 ≡ false = ne_eqb (suc n) 0 (λ e. omega arith) in below_text n power (ltb-true _ _ (rw nonzero at normal)) small

pub real_again : (d : Decimal) → HasText d → ReadAgain real_at (packed (real_text d)) d
unfolding real_at
real_again d fits rest =
    let t = text_of d.mantissa d.power fits.normal fits.size in
    rw (text_again (real_text d) t.characters rest, le-leb _ _ fits.length_fits, t.means) refl
