-- The halves of a decimal number, digit by digit.
use Rattle.std.proofs.Common.{◌≡◌, ℕ, pos, neg_ℤ, zero, suc, ◌+◌, ◌-◌, ◌*◌, ◌%◌, ◌^◌, ◌<◌, Bool, true, List, [], ◌∷◌, length, drop, get_or, drop-cons, Option, Some, None, refl, sym, ap, ◌∙◌, arith}
use Rattle.std.specs.Prelude.{◌==◌, ◌&&◌, nat_lt, not, false, if◌then◌else◌, IfSome}
use Rattle.std.specs.List.{before_first, after_first}
use Rattle.std.specs.Option.{option_map, option_and_then}
use Rattle.std.specs.Str.{all_ascii_digits}
use Rattle.std.proofs.lemmas.Str.Parse.{IsNumeralModel, numerals_by_weight, tells_all_ascii_digits}
use Rattle.std.proofs.Math.Nat.{pow-suc, mod-lt, div-one, mod-one, zero-div, zero-mod}
use Rattle.std.proofs.Math.Seq.{drop-length}
use Rattle.std.proofs.lemmas.Nat.{div-add-mod'}
use Rattle.subset_args.specs.Coordinates.{Decimal, with_digits, with_parts, decimal_of, size_in, has_byte, is_point, in_32_bits, nearest_above, nearest_below, above_zero, below_zero}
use Rattle.subset_args.specs.Halves.{halves, after_digit, halves_after, fixed_above, fixed_below}
use Rattle.subset_args.specs.declared.coordinates.Halves.{Halves}
use Rattle.subset_args.specs.Words.{number_in_bits}
use Rattle.subset_args.proofs.Quotients.{quotient_of_sum, rest_of_sum, quotient_by_ten, more_by_ten, above_by_halves, below_by_halves}

-- the number that digits write, by the weight of each
abbrev weigh : List ℕ → ℕ
weigh [] = 0
weigh (b ∷ digits) = (b - 48) * 10 ^ length digits + weigh digits

own : IsNumeralModel (λ ds. all_ascii_digits ds ≡ true) weigh
own = numerals_by_weight _ tells_all_ascii_digits weigh (record { empty = refl; more = λ c cs k. refl })

pub powers : (n : ℕ) → 0 < 10 ^ n
powers zero = omega arith
powers (suc n) = let h : 0 < 10 ^ n = powers n in omega (arith, pow-suc 10 n)

abbrev pub made : ℕ → Bool → Halves
made count more = record { count = count; more = more }

pair : (a b : ℕ) (m n : Bool) → a ≡ b → m ≡ n → made a m ≡ made b n
pair a b m n e f = ap (λ (k : ℕ). made k m) e ∙ ap (made b) f

weighed : (digits : List ℕ) → halves_after digits ≡ halves (with_parts (weigh digits) (10 ^ length digits))
weighed [] = pair _ _ _ _ (sym (zero-div (10 ^ 0))) (ap (λ (n : ℕ). not (n == 0)) (sym (zero-mod (10 ^ 0))))
weighed (b ∷ digits) =
    let m = 10 ^ length digits in
    let n = (b - 48) * m + weigh digits in
    let parts : 10 ^ suc (length digits) ≡ m * 10 = pow-suc 10 (length digits) in
    let following : after_digit b (halves_after digits) ≡ after_digit b (halves (with_parts (weigh digits) m)) = ap (after_digit b) (weighed digits) in
    let q = quotient_by_ten (b - 48) m (weigh digits) 131072 (powers (length digits)) in
    let r = more_by_ten (b - 48) m (weigh digits) 131072 (powers (length digits)) in
    let here : after_digit b (halves (with_parts (weigh digits) m)) ≡ halves (with_parts n (m * 10)) = pair _ _ _ _ (sym q) (sym r) in
    following ∙ (here ∙ ap (λ (p : ℕ). halves (with_parts n p)) (sym parts))

-- the halves of digits after a point, with units before it
pub with_units : (digits : List ℕ) (units : ℕ) → all_ascii_digits digits ≡ true → made (units * 131072 + (halves_after digits).count) (halves_after digits).more ≡ halves (with_digits digits units)
with_units digits units all =
    let m = 10 ^ length digits in
    let same = own.same digits (own.to digits all) in
    let w = weighed digits in
    let q = quotient_of_sum units m (weigh digits) 131072 (powers (length digits)) in
    let r = rest_of_sum units m (weigh digits) 131072 in
    let here : made (units * 131072 + (halves_after digits).count) (halves_after digits).more ≡ halves (with_parts (units * m + weigh digits) m) =
    ap (λ (h : Halves). made (units * 131072 + h.count) h.more) w ∙ pair _ _ _ _ (sym q) (ap (λ (n : ℕ). not (n == 0)) (sym r)) in
    here ∙ ap (λ (v : ℕ). halves (with_parts (units * m + v) m)) same

-- the number that is nearest
split : (d : Decimal) → d.count * 131072 ≡ (halves d).count * d.parts + d.count * 131072 % d.parts
split d = sym (div-add-mod' (d.count * 131072) d.parts)

pub near_above : (o : Option Decimal) (h : Halves) → IfSome o (λ d. 0 < d.parts) → Some h ≡ option_map halves o → fixed_above h ≡ option_and_then (λ d. in_32_bits (nearest_above (d.count * 65536) d.parts)) o
unfolding nearest_above
near_above None h above e = absurd cc
near_above (Some d) h above e =
    let is : h ≡ halves d = cc in
    ap fixed_above is ∙ ap (λ (n : ℕ). in_32_bits (pos n)) (sym (above_by_halves d.count d.parts _ _ (split d) (mod-lt (d.count * 131072) above)))

pub near_below : (o : Option Decimal) (h : Halves) → IfSome o (λ d. 0 < d.parts) → Some h ≡ option_map halves o → fixed_below h ≡ option_and_then (λ d. in_32_bits (nearest_below (d.count * 65536) d.parts)) o
unfolding nearest_below
near_below None h above e = absurd cc
near_below (Some d) h above e =
    let is : h ≡ halves d = cc in
    ap fixed_below is ∙ ap (λ (n : ℕ). in_32_bits (neg_ℤ (pos n))) (sym (below_by_halves d.count d.parts _ _ (split d) (mod-lt (d.count * 131072) above)))

-- a unit has parts
by_test : (b : Bool) (digits : List ℕ) (o : Option ℕ) → IfSome (if b then option_map (with_digits digits) o else None) (λ d. 0 < d.parts)
by_test true digits (Some units) = powers (length digits)
by_test true digits None = tt
by_test false digits o = tt

plain_above : (o : Option ℕ) → IfSome (option_map (λ units. with_parts units 1) o) (λ d. 0 < d.parts)
plain_above (Some units) = omega arith
plain_above None = tt

either : (b : Bool) (x y : Option Decimal) → IfSome x (λ d. 0 < d.parts) → IfSome y (λ d. 0 < d.parts) → IfSome (if b then x else y) (λ d. 0 < d.parts)
either true x y p q = p
either false x y p q = q

pub parts_above : (word : List ℕ) → IfSome (size_in word) (λ d. 0 < d.parts)
parts_above word = either (has_byte is_point word) (decimal_of (before_first is_point word) (after_first is_point word)) (option_map (λ units. with_parts units 1) (number_in_bits 16 word)) (by_test _ (after_first is_point word) (number_in_bits 16 (before_first is_point word))) (plain_above (number_in_bits 16 word))

-- a whole number of units
pub whole_halves : (units : ℕ) → made (units * 131072) false ≡ halves (with_parts units 1)
whole_halves units = pair _ _ _ _ (sym (div-one (units * 131072))) (ap (λ (n : ℕ). not (n == 0)) (sym (mod-one (units * 131072))))

-- one more digit, from the last on
pub halves_step : (digits : List ℕ) (i d : ℕ) → i < length digits → halves_after (drop (length digits - (i + 1)) digits) ≡ after_digit (get_or digits (length digits - 1 - i) d) (halves_after (drop (length digits - i) digits))
halves_step digits i d h =
    let k = length digits - (i + 1) in
    let within : k < length digits = omega arith in
    let next : suc k ≡ length digits - i = omega arith in
    let same : k ≡ length digits - 1 - i = omega arith in
    ap halves_after (drop-cons digits k d within) ∙ (ap (λ (n : ℕ). after_digit (get_or digits k d) (halves_after (drop n digits))) next ∙ ap (λ (n : ℕ). after_digit (get_or digits n d) (halves_after (drop (length digits - i) digits))) same)

pub halves_none : (digits : List ℕ) → halves_after (drop (length digits - 0) digits) ≡ made 0 false
halves_none digits =
    let whole : length digits - 0 ≡ length digits = omega arith in
    ap (λ (n : ℕ). halves_after (drop n digits)) whole ∙ ap halves_after (drop-length digits)

pub decimal_is : (whole digits : List ℕ) (units : ℕ) → (nat_lt 0 (length digits) && all_ascii_digits digits) ≡ true → Some units ≡ number_in_bits 16 whole → Some (made (units * 131072 + (halves_after digits).count) (halves_after digits).more) ≡ option_map halves (decimal_of whole digits)
decimal_is whole digits units test e =
    let all : all_ascii_digits digits ≡ true = grind arith in
    ap Some (with_units digits units all) ∙ (ap (λ (o : Option ℕ). option_map halves (option_map (with_digits digits) o)) e ∙ ap (λ (b : Bool). option_map halves (if b then option_map (with_digits digits) (number_in_bits 16 whole) else None)) (sym test))

pub above_is : (word : List ℕ) (h : Halves) → Some h ≡ option_map halves (size_in word) → fixed_above h ≡ above_zero word
above_is word h e = near_above (size_in word) h (parts_above word) e

pub below_is : (word : List ℕ) (h : Halves) → Some h ≡ option_map halves (size_in word) → fixed_below h ≡ below_zero word
below_is word h e = near_below (size_in word) h (parts_above word) e

no_size : (o : Option Decimal) → None ≡ option_map halves o → o ≡ None
no_size None e = refl
no_size (Some d) e = absurd cc

pub none_above : (word : List ℕ) → None ≡ option_map halves (size_in word) → None ≡ above_zero word
none_above word e = sym (ap (option_and_then (λ d. in_32_bits (nearest_above (d.count * 65536) d.parts))) (no_size (size_in word) e))

pub none_below : (word : List ℕ) → None ≡ option_map halves (size_in word) → None ≡ below_zero word
none_below word e = sym (ap (option_and_then (λ d. in_32_bits (nearest_below (d.count * 65536) d.parts))) (no_size (size_in word) e))
