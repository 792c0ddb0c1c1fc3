-- What is read of bytes that are cut: the same as of all bytes where it ends before the cut, else nothing.
use Rattle.std.proofs.Common.{◌≡◌, ℕ, zero, suc, ◌+◌, ◌-◌, ◌*◌, ◌/◌, ◌%◌, ◌<◌, ◌≤◌, Bool, true, false, cond, eqb, ltb, List, [], ◌∷◌, ◌++◌, length, take, drop, Option, Some, None, refl, ap, arith, ◌∙◌, sym, inl, inr}
use Rattle.std.specs.Prelude.{ℤ, pos, neg_ℤ, nat_le, ◌-ℤ◌}
use Rattle.std.specs.Int.{w16, w32, cast_signed}
use Rattle.std.proofs.lemmas.Bool.{lt-ltb, le-ltb, le-leb, lt-leb, cases_lt}
use Rattle.std.proofs.lemmas.List.{length-drop, length-take, drop-take, take-take}
use Rattle.std.proofs.lemmas.Option.{none-some, same_Some}
use Rattle.subsetter_base.specs.Options.{◌>>=◌}
use Rattle.subsetter_base.specs.Bytes.{byte, be}
use Rattle.subsetter_cffdata.specs.Bytes.{part, card}
use Rattle.subsetter_cffdata.specs.Reals.Decimals.{characters, with_text, text_at, text_limit, real_of, real_at}
use Rattle.subsetter_cffdata.specs.Numerals.Numbers.{Integer, Real, short_integer, signed16, signed32, integer_from, dict_number_from}
use Rattle.subsetter_cffdata.specs.Dicts.Dict.{Token, Operand, Operator, token_at, Entry, is_operator, operator_from, entry_at}
use Rattle.subsetter_cffdata.specs.Dicts.Tokens.{with_operands}
use Rattle.subsetter_cffdata.proofs.DictsLaws.Shorter.{at_no_token, at_operator, at_operand, token_shorter}

-- of what was read of all bytes, what is read of the first n
abbrev pub cut : {X : Type 0} → ℕ → List ℕ → Option (X × List ℕ) → Option (X × List ℕ)
cut n bytes None = None
cut n bytes (Some x) = cond (nat_le (length bytes) (n + length x.1)) (Some (x.0, take (n + length x.1 - length bytes) x.1)) None

pub record IsCut {X : Type 0} (read : List ℕ → Option (X × List ℕ)) (bytes : List ℕ) : Type 0 where
  pub is : (n : ℕ) → n ≤ length bytes → read (take n bytes) ≡ cut n bytes (read bytes)
  pub le : (x : X × List ℕ) → read bytes ≡ Some x → length x.1 ≤ length bytes

-- ---- what is after the cut, and what is left after a first part
cut_off : {X : Type 0} (n : ℕ) (bytes : List ℕ) (x : X × List ℕ) → n + length x.1 < length bytes → cut n bytes (Some x) ≡ None
cut_off n bytes x lt = rw (lt-leb (length bytes) (n + length x.1) lt) refl

cut_in : {X : Type 0} (n : ℕ) (bytes : List ℕ) (x : X × List ℕ) → length bytes ≤ n + length x.1 → cut n bytes (Some x) ≡ Some (x.0, take (n + length x.1 - length bytes) x.1)
cut_in n bytes x le = rw (le-leb (length bytes) (n + length x.1) le) refl

all_off : {X : Type 0} (n : ℕ) (bytes rest : List ℕ) (o : Option (X × List ℕ)) → ((y : X × List ℕ) → o ≡ Some y → length y.1 ≤ length rest) → n + length rest < length bytes → None ≡ cut n bytes o
all_off n bytes rest None le lt = refl
all_off n bytes rest (Some y) le lt = sym (cut_off n bytes y (let l = le y refl in omega (arith, l, lt)))

same_cut : {X : Type 0} (n m : ℕ) (bytes rest : List ℕ) (o : Option (X × List ℕ)) → m ≡ n + length rest - length bytes → length bytes ≤ n + length rest → cut m rest o ≡ cut n bytes o
same_cut n m bytes rest None is le = refl
same_cut n m bytes rest (Some y) is le =
    elim (cases_lt (n + length y.1) (length bytes)) [
      | inl lt ↦ cut_off m rest y (omega arith) ∙ sym (cut_off n bytes y lt)
      | inr fits ↦ (
          let same : m + length y.1 - length rest ≡ n + length y.1 - length bytes = omega arith in
          cut_in m rest y (omega arith) ∙ ap (λ (k : ℕ). Some (y.0, take k y.1)) same ∙ sym (cut_in n bytes y fits))
    ]

-- ---- nothing, what takes no bytes, a choice, and two steps
nothing : {X : Type 0} (bytes : List ℕ) → IsCut {X = X} (λ b. None) bytes
nothing bytes = record { is = λ n le. refl; le = λ x e. absurd (none-some x e) }

given : {X : Type 0} (x : X) (bytes : List ℕ) → IsCut (λ b. Some (x, b)) bytes
given x bytes = record {
  is = λ n le.
      let same : n ≡ n + length bytes - length bytes = omega arith in
      ap (λ (k : ℕ). Some (x, take k bytes)) same ∙ sym (cut_in n bytes (x, bytes) (omega arith));
  le = λ y e. omega (arith, ap (λ p. length p.1) (same_Some _ _ e));
}

choice : {X : Type 0} (b : Bool) (f g : List ℕ → Option (X × List ℕ)) (bytes : List ℕ) → IsCut f bytes → IsCut g bytes → IsCut (λ l. cond b (f l) (g l)) bytes
choice true f g bytes l m = record { is = l.is; le = l.le }
choice false f g bytes l m = record { is = m.is; le = m.le }

of_option : {A X : Type 0} (o : Option A) (f : A → List ℕ → Option (X × List ℕ)) (bytes : List ℕ) → ((a : A) → IsCut (f a) bytes) → IsCut (λ l. o >>= λ a. f a l) bytes
of_option None f bytes h = nothing bytes
of_option (Some a) f bytes h = record { is = (h a).is; le = (h a).le }

two_is : {X Y : Type 0} (f : X → List ℕ → Option (Y × List ℕ)) (bytes : List ℕ) (n : ℕ) (o : Option (X × List ℕ)) → n ≤ length bytes
    → ((x : X × List ℕ) → o ≡ Some x → length x.1 ≤ length bytes) → ((x : X × List ℕ) → o ≡ Some x → IsCut (f x.0) x.1)
    → (cut n bytes o >>= λ x. f x.0 x.1) ≡ cut n bytes (o >>= λ x. f x.0 x.1)
two_is f bytes n None le short more = refl
two_is f bytes n (Some x) le short more =
    elim (cases_lt (n + length x.1) (length bytes)) [
      | inl lt ↦ ap (λ o. o >>= λ x. f x.0 x.1) (cut_off n bytes x lt) ∙ all_off n bytes x.1 (f x.0 x.1) (more x refl).le lt
      | inr fits ↦
          ap (λ o. o >>= λ x. f x.0 x.1) (cut_in n bytes x fits)
          ∙ (more x refl).is (n + length x.1 - length bytes) (let s = short x refl in omega (arith, s, le))
          ∙ same_cut n (n + length x.1 - length bytes) bytes x.1 (f x.0 x.1) refl fits
    ]

two_le : {X Y : Type 0} (f : X → List ℕ → Option (Y × List ℕ)) (bytes : List ℕ) (o : Option (X × List ℕ))
    → ((x : X × List ℕ) → o ≡ Some x → length x.1 ≤ length bytes) → ((x : X × List ℕ) → o ≡ Some x → IsCut (f x.0) x.1)
    → (y : Y × List ℕ) → (o >>= λ x. f x.0 x.1) ≡ Some y → length y.1 ≤ length bytes
two_le f bytes None short more y e = absurd (none-some y e)
two_le f bytes (Some x) short more y e = let s = short x refl in let l = (more x refl).le y e in omega (arith, s, l)

then : {X Y : Type 0} (read : List ℕ → Option (X × List ℕ)) (f : X → List ℕ → Option (Y × List ℕ)) (bytes : List ℕ) → IsCut read bytes → ((x : X × List ℕ) → read bytes ≡ Some x → IsCut (f x.0) x.1)
    → IsCut (λ l. read l >>= λ x. f x.0 x.1) bytes
then read f bytes first more = record {
  is = λ n le. ap (λ o. o >>= λ x. f x.0 x.1) (first.is n le) ∙ two_is f bytes n (read bytes) le first.le more;
  le = two_le f bytes (read bytes) first.le more;
}

-- what reads the same
alike : {X : Type 0} (f g : List ℕ → Option (X × List ℕ)) (bytes : List ℕ) → ((l : List ℕ) → f l ≡ g l) → IsCut f bytes → IsCut g bytes
alike f g bytes same c = record {
  is = λ n le. sym (same (take n bytes)) ∙ c.is n le ∙ ap (cut n bytes) (same bytes);
  le = λ x e. c.le x (same bytes ∙ e);
}

front_is : {X : Type 0} (b : ℕ) (read rest : List ℕ → Option (X × List ℕ)) (bytes : List ℕ) → read [] ≡ None → ((l : List ℕ) → read (b ∷ l) ≡ rest l) → IsCut rest bytes
    → (n : ℕ) → n ≤ length (b ∷ bytes) → read (take n (b ∷ bytes)) ≡ cut n (b ∷ bytes) (read (b ∷ bytes))
front_is b read rest bytes none same c zero le =
    none ∙ all_off 0 (b ∷ bytes) bytes (rest bytes) c.le (omega arith) ∙ ap (cut 0 (b ∷ bytes)) (sym (same bytes))
front_is b read rest bytes none same c (suc n) le =
    same (take n bytes) ∙ c.is n (omega arith) ∙ same_cut (suc n) n (b ∷ bytes) bytes (rest bytes) (omega arith) (omega arith) ∙ ap (cut (suc n) (b ∷ bytes)) (sym (same bytes))

-- a byte in front that doesn't change how the rest is read
front : {X : Type 0} (b : ℕ) (read rest : List ℕ → Option (X × List ℕ)) (bytes : List ℕ) → read [] ≡ None → ((l : List ℕ) → read (b ∷ l) ≡ rest l) → IsCut rest bytes → IsCut read (b ∷ bytes)
front b read rest bytes none same c = record {
  is = λ n le. front_is b read rest bytes none same c n le;
  le = λ x e. let l = c.le x (sym (same bytes) ∙ e) in omega (arith, l);
}

-- ---- bytes and numbers of them
no_byte : (n : ℕ) → byte (take n []) ≡ cut n [] (byte [])
unfolding byte
no_byte zero = refl
no_byte (suc n) = refl

byte_cut : (bytes : List ℕ) → IsCut byte bytes
unfolding byte
byte_cut [] = record { is = λ n le. no_byte n; le = λ x e. absurd (none-some x e) }
byte_cut (b ∷ bytes) = front b byte (λ l. Some (b, l)) bytes refl (λ l. refl) (given b bytes)

part_is : (k : ℕ) (bytes : List ℕ) (n : ℕ) → n ≤ length bytes → part k (take n bytes) ≡ cut n bytes (part k bytes)
unfolding part
part_is k bytes n le =
    let size : length (take n bytes) ≡ n = omega (arith, length-take n bytes) in
    elim (cases_lt (length bytes) k) [
      | inl none ↦ rw (size, lt-ltb n k (omega arith), lt-ltb (length bytes) k none) refl
      | inr there ↦ elim (cases_lt n k) [
        | inl off ↦ rw (size, lt-ltb n k off, le-ltb (length bytes) k there) (sym (cut_off n bytes (take k bytes, drop k bytes) (omega (arith, length-drop k bytes))))
        | inr held ↦ (
            let whole : n ≡ k + (n - k) = omega arith in
            let rest : drop k (take n bytes) ≡ take (n + length (drop k bytes) - length bytes) (drop k bytes) =
            ap (λ (m : ℕ). drop k (take m bytes)) whole ∙ drop-take k (n - k) bytes ∙ ap (λ (m : ℕ). take m (drop k bytes)) (let e : n - k ≡ n + length (drop k bytes) - length bytes = omega (arith, length-drop k bytes) in e) in
            rw (size, le-ltb n k held, le-ltb (length bytes) k there)
            (ap (λ (l : List ℕ). Some (l, drop k (take n bytes))) (take-take k n bytes held) ∙ ap (λ (l : List ℕ). Some (take k bytes, l)) rest
            ∙ sym (cut_in n bytes (take k bytes, drop k bytes) (omega (arith, length-drop k bytes)))))
      ]
    ]

part_le : (k : ℕ) (bytes : List ℕ) (x : List ℕ × List ℕ) → part k bytes ≡ Some x → length x.1 ≤ length bytes
unfolding part
part_le k bytes x e =
    elim (cases_lt (length bytes) k) [
      | inl none ↦ absurd (none-some x (sym (rw (lt-ltb (length bytes) k none) refl) ∙ e))
      | inr there ↦ (let same : Some (take k bytes, drop k bytes) ≡ Some x = sym (rw (le-ltb (length bytes) k there) refl) ∙ e in omega (arith, ap (λ p. length p.1) (same_Some _ _ same), length-drop k bytes))
    ]

part_cut : (k : ℕ) (bytes : List ℕ) → IsCut (part k) bytes
part_cut k bytes = record { is = part_is k bytes; le = part_le k bytes }

card_cut : (k : ℕ) (bytes : List ℕ) → IsCut (card k) bytes
unfolding card
card_cut k bytes = then (part k) (λ p l. Some (be p, l)) bytes (part_cut k bytes) (λ x e. given (be x.0) x.1)

-- ---- numbers of a DICT
second_cut : (f : ℕ → Bool) (g : ℕ → ℤ) (bytes : List ℕ) → IsCut {X = ℤ} (λ l. byte l >>= λ low. cond (f low.0) (Some (g low.0, low.1)) None) bytes
second_cut f g bytes = then byte (λ low l. cond (f low) (Some (g low, l)) None) bytes (byte_cut bytes) (λ x e. choice (f x.0) (λ l. Some (g x.0, l)) (λ l. None) x.1 (given (g x.0) x.1) (nothing x.1))

short_cut : (b : ℕ) (bytes : List ℕ) → IsCut (short_integer b) bytes
unfolding short_integer
short_cut b bytes =
    choice (ltb b 32) (λ l. None) _ bytes (nothing bytes) (choice (ltb b 247) (λ l. Some (pos b -ℤ pos 139, l)) _ bytes (given (pos b -ℤ pos 139) bytes)
    (choice (ltb b 251) (λ l. byte l >>= λ low. cond (ltb low.0 256) (Some (pos ((b - 247) * 256 + low.0 + 108), low.1)) None) _ bytes (second_cut (λ low. ltb low 256) (λ low. pos ((b - 247) * 256 + low + 108)) bytes)
    (choice (ltb b 255) (λ l. byte l >>= λ low. cond (ltb low.0 256) (Some (neg_ℤ (pos ((b - 251) * 256 + low.0 + 108)), low.1)) None) (λ l. None) bytes (second_cut (λ low. ltb low 256) (λ low. neg_ℤ (pos ((b - 251) * 256 + low + 108))) bytes) (nothing bytes))))

signed16_cut : (bytes : List ℕ) → IsCut signed16 bytes
unfolding signed16
signed16_cut bytes = then (card 2) (λ n l. Some (cast_signed w16 n, l)) bytes (card_cut 2 bytes) (λ x e. given (cast_signed w16 x.0) x.1)

signed32_cut : (bytes : List ℕ) → IsCut signed32 bytes
unfolding signed32
signed32_cut bytes = then (card 4) (λ n l. Some (cast_signed w32 n, l)) bytes (card_cut 4 bytes) (λ x e. given (cast_signed w32 x.0) x.1)

integer_cut : (b : ℕ) (bytes : List ℕ) → IsCut (integer_from b) bytes
unfolding integer_from
integer_cut b bytes = choice (eqb b 28) signed16 (λ l. cond (eqb b 29) (signed32 l) (short_integer b l)) bytes (signed16_cut bytes) (choice (eqb b 29) signed32 (short_integer b) bytes (signed32_cut bytes) (short_cut b bytes))

-- ---- reals
with_text_cut : (more : List ℕ) (read : List ℕ → Option (List ℕ × List ℕ)) (bytes : List ℕ) → IsCut read bytes → IsCut (λ l. with_text more (read l)) bytes
with_text_cut more read bytes c = then read (λ t l. Some (more ++ t, l)) bytes c (λ x e. given (more ++ x.0) x.1)

abbrev low_half : ℕ → List ℕ → Option (List ℕ × List ℕ)
low_half b l = cond (eqb (b % 16) 15) (Some ([], l)) (characters (b % 16) >>= λ low. with_text low (text_at l))

abbrev halves : ℕ → List ℕ → Option (List ℕ × List ℕ)
halves b l = cond (eqb (b / 16) 15) (Some ([], l)) (characters (b / 16) >>= λ high. with_text high (low_half b l))

no_text : text_at [] ≡ None
unfolding text_at
no_text = refl

by_halves : (b : ℕ) (l : List ℕ) → text_at (b ∷ l) ≡ halves b l
unfolding text_at
by_halves b l = refl

none_cut : (n : ℕ) → text_at (take n []) ≡ cut n [] (text_at [])
unfolding text_at
none_cut zero = refl
none_cut (suc n) = refl

text_cut : (bytes : List ℕ) → IsCut text_at bytes
text_cut [] = record { is = λ n le. none_cut n; le = λ x e. absurd (none-some x (sym no_text ∙ e)) }
text_cut (b ∷ bytes) =
    let ended : IsCut (λ l. Some ([], l)) bytes = given [] bytes in
    let low : IsCut (low_half b) bytes =
    choice (eqb (b % 16) 15) (λ l. Some ([], l)) (λ l. characters (b % 16) >>= λ c. with_text c (text_at l)) bytes ended
    (of_option (characters (b % 16)) (λ c l. with_text c (text_at l)) bytes (λ c. with_text_cut c text_at bytes (text_cut bytes))) in
    front b text_at (halves b) bytes no_text (by_halves b)
    (choice (eqb (b / 16) 15) (λ l. Some ([], l)) (λ l. characters (b / 16) >>= λ c. with_text c (low_half b l)) bytes ended
    (of_option (characters (b / 16)) (λ c l. with_text c (low_half b l)) bytes (λ c. with_text_cut c (low_half b) bytes low)))

real_cut : (bytes : List ℕ) → IsCut real_at bytes
unfolding real_at
real_cut bytes =
    then text_at (λ t l. cond (nat_le (length t) text_limit) (real_of t >>= λ d. Some (d, l)) None) bytes (text_cut bytes)
    (λ x e. choice (nat_le (length x.0) text_limit) (λ l. real_of x.0 >>= λ d. Some (d, l)) (λ l. None) x.1 (of_option (real_of x.0) (λ d l. Some (d, l)) x.1 (λ d. given d x.1)) (nothing x.1))

number_cut : (b : ℕ) (bytes : List ℕ) → IsCut (dict_number_from b) bytes
unfolding dict_number_from
number_cut b bytes =
    choice (eqb b 30) (λ l. real_at l >>= λ d. Some (Real d.0, d.1)) (λ l. integer_from b l >>= λ z. Some (Integer z.0, z.1)) bytes
    (then real_at (λ d l. Some (Real d, l)) bytes (real_cut bytes) (λ x e. given (Real x.0) x.1))
    (then (integer_from b) (λ z l. Some (Integer z, l)) bytes (integer_cut b bytes) (λ x e. given (Integer x.0) x.1))

-- ---- tokens
operator_cut : (b : ℕ) (bytes : List ℕ) → IsCut (operator_from b) bytes
operator_cut b bytes = choice (eqb b 12) (λ l. byte l >>= λ second. Some (12 ∷ second.0 ∷ [], second.1)) (λ l. Some (b ∷ [], l)) bytes
    (then byte (λ second l. Some (12 ∷ second ∷ [], l)) bytes (byte_cut bytes) (λ x e. given (12 ∷ x.0 ∷ []) x.1)) (given (b ∷ []) bytes)

token_cut : (bytes : List ℕ) → IsCut token_at bytes
unfolding token_at
token_cut bytes =
    then byte (λ b l. cond (is_operator b) (operator_from b l >>= λ o. Some (Operator o.0, o.1)) (dict_number_from b l >>= λ x. Some (Operand x.0, x.1))) bytes (byte_cut bytes)
    (λ b e. choice (is_operator b.0) (λ l. operator_from b.0 l >>= λ o. Some (Operator o.0, o.1)) (λ l. dict_number_from b.0 l >>= λ x. Some (Operand x.0, x.1)) b.1
    (then (operator_from b.0) (λ o l. Some (Operator o, l)) b.1 (operator_cut b.0 b.1) (λ x e. given (Operator x.0) x.1))
    (then (dict_number_from b.0) (λ x l. Some (Operand x, l)) b.1 (number_cut b.0 b.1) (λ x e. given (Operand x.0) x.1)))

-- ---- entries
abbrev from_token : Token → List ℕ → Option (Entry × List ℕ)
from_token (Operator p) l = Some (record { operator = p; operands = [] }, l)
from_token (Operand x) l = with_operands (x ∷ []) (entry_at l)

tokens_by : (l : List ℕ) (o : Option (Token × List ℕ)) → token_at l ≡ o → (o >>= λ t. from_token t.0 t.1) ≡ entry_at l
tokens_by l None e = sym (at_no_token l e)
tokens_by l (Some (Operator p, rest)) e = sym (at_operator l p rest e)
tokens_by l (Some (Operand x, rest)) e = sym (at_operand l rest x e)

by_tokens : (l : List ℕ) → (token_at l >>= λ t. from_token t.0 t.1) ≡ entry_at l
by_tokens l = tokens_by l (token_at l) refl

from_token_cut : (t : Token) (bytes : List ℕ) → IsCut entry_at bytes → IsCut (from_token t) bytes
from_token_cut (Operator p) bytes c = given (record { operator = p; operands = [] }) bytes
from_token_cut (Operand x) bytes c = then entry_at (λ e l. Some (record { operator = e.operator; operands = x ∷ [] ++ e.operands }, l)) bytes c (λ e is. given (record { operator = e.0.operator; operands = x ∷ [] ++ e.0.operands }) e.1)

entry_steps : (steps : ℕ) (bytes : List ℕ) → length bytes ≤ steps → IsCut entry_at bytes
entry_steps zero bytes le =
    alike (λ l. token_at l >>= λ t. from_token t.0 t.1) entry_at bytes by_tokens
    (then token_at from_token bytes (token_cut bytes) (λ t e. absurd (let less = token_shorter bytes t.1 t.0 e in omega (arith, less, le))))
entry_steps (suc steps) bytes le =
    alike (λ l. token_at l >>= λ t. from_token t.0 t.1) entry_at bytes by_tokens
    (then token_at from_token bytes (token_cut bytes) (λ t e. from_token_cut t.0 t.1 (entry_steps steps t.1 (let less = token_shorter bytes t.1 t.0 e in omega (arith, less, le)))))

pub entry_cut : (bytes : List ℕ) → IsCut entry_at bytes
entry_cut bytes = entry_steps (length bytes) bytes (omega arith)
