-- What is left after a number is no longer than what was there, so an entry doesn't depend on the steps that were given.
use Rattle.std.proofs.Common.{◌≡◌, ℕ, zero, suc, ◌+◌, ◌-◌, ◌*◌, ◌/◌, ◌%◌, ◌<◌, ◌≤◌, Bool, true, false, cond, eqb, ltb, List, [], ◌∷◌, ◌++◌, length, take, drop, Option, Some, None, refl, ap, arith, ◌∙◌, sym, inl, inr, append_assoc}
use Rattle.std.specs.Prelude.{pos, neg_ℤ}
use Rattle.subsetter_cffdata.specs.Dicts.Tokens.{operator_part, with_operands}
use Rattle.std.proofs.lemmas.Bool.{cases_Bool, false≢true}
use Rattle.std.specs.Int.{w16, w32, cast_signed}
use Rattle.std.proofs.lemmas.List.{length-drop}
use Rattle.std.proofs.lemmas.Option.{none-some, some_pair_parts}
use Rattle.subsetter_cffdata.specs.Bytes.{part, card}
use Rattle.subsetter_base.specs.Options.{◌>>=◌}
use Rattle.subsetter_base.specs.Bytes.{byte, be}
use Rattle.subsetter_cffdata.specs.Reals.Decimals.{characters, with_text, text_at, real_of, real_at}
use Rattle.subsetter_cffdata.specs.Numerals.Numbers.{Number, Integer, Real, short_integer, signed16, signed32, integer_from, dict_number_from}
use Rattle.subsetter_cffdata.specs.Dicts.Dict.{Token, Operand, Operator, token_at, Entry, is_operator, operator_from, entry_in, entry_at}

-- no more is left than there was
pub record Left {X : Type 0} (bytes : List ℕ) (o : Option (X × List ℕ)) : Type 0 where
  pub le : (x : X × List ℕ) → o ≡ Some x → length x.1 ≤ length bytes

nothing : {X : Type 0} (bytes : List ℕ) → Left {X = X} bytes None
nothing bytes = record { le = λ x e. absurd (none-some x e) }

found : {X : Type 0} (bytes rest : List ℕ) (y : X) → length rest ≤ length bytes → Left bytes (Some (y, rest))
found {X} bytes rest y le = record { le = λ x e. let same : rest ≡ x.1 = ap (λ (o : Option (X × List ℕ)). elim o [ Some p ↦ p.1 | None ↦ rest ]) e in omega (arith, ap length same) }

choice : {X : Type 0} (bytes : List ℕ) (b : Bool) (o p : Option (X × List ℕ)) → Left bytes o → Left bytes p → Left bytes (cond b o p)
choice bytes true o p l m = l
choice bytes false o p l m = m

then : {X Y : Type 0} (bytes : List ℕ) (o : Option (X × List ℕ)) (f : X × List ℕ → Option (Y × List ℕ)) → Left bytes o → ((x : X × List ℕ) → length x.1 ≤ length bytes → Left bytes (f x)) → Left bytes (o >>= f)
then bytes None f l m = nothing bytes
then bytes (Some x) f l m = m x (l.le x refl)

byte_left : (bytes : List ℕ) → Left bytes (byte bytes)
unfolding byte
byte_left [] = nothing []
byte_left (b ∷ bytes) = found (b ∷ bytes) bytes b (omega arith)

part_left : (n : ℕ) (bytes : List ℕ) → Left bytes (part n bytes)
unfolding part
part_left n bytes = choice bytes _ _ _ (nothing bytes) (found bytes (drop n bytes) (take n bytes) (omega (arith, length-drop n bytes)))

card_left : (k : ℕ) (bytes : List ℕ) → Left bytes (card k bytes)
unfolding card
card_left k bytes = then bytes (part k bytes) _ (part_left k bytes) (λ x le. found bytes x.1 (be x.0) le)

short_left : (b : ℕ) (bytes : List ℕ) → Left bytes (short_integer b bytes)
unfolding short_integer
short_left b bytes =
    choice bytes (ltb b 32) _ _ (nothing bytes) (choice bytes (ltb b 247) _ _ (found bytes bytes _ (omega arith))
    (choice bytes (ltb b 251) _ _ (then bytes (byte bytes) (λ x. cond (ltb x.0 256) (Some (pos ((b - 247) * 256 + x.0 + 108), x.1)) None) (byte_left bytes) (λ x le. choice bytes (ltb x.0 256) (Some (pos ((b - 247) * 256 + x.0 + 108), x.1)) None (found bytes x.1 (pos ((b - 247) * 256 + x.0 + 108)) le) (nothing bytes)))
    (choice bytes (ltb b 255) _ _ (then bytes (byte bytes) (λ x. cond (ltb x.0 256) (Some (neg_ℤ (pos ((b - 251) * 256 + x.0 + 108)), x.1)) None) (byte_left bytes) (λ x le. choice bytes (ltb x.0 256) (Some (neg_ℤ (pos ((b - 251) * 256 + x.0 + 108)), x.1)) None (found bytes x.1 (neg_ℤ (pos ((b - 251) * 256 + x.0 + 108))) le) (nothing bytes))) (nothing bytes))))

signed16_left : (bytes : List ℕ) → Left bytes (signed16 bytes)
unfolding signed16
signed16_left bytes = then bytes (card 2 bytes) (λ n. Some (cast_signed w16 n.0, n.1)) (card_left 2 bytes) (λ x le. found bytes x.1 (cast_signed w16 x.0) le)

signed32_left : (bytes : List ℕ) → Left bytes (signed32 bytes)
unfolding signed32
signed32_left bytes = then bytes (card 4 bytes) (λ n. Some (cast_signed w32 n.0, n.1)) (card_left 4 bytes) (λ x le. found bytes x.1 (cast_signed w32 x.0) le)

integer_left : (b : ℕ) (bytes : List ℕ) → Left bytes (integer_from b bytes)
unfolding integer_from
integer_left b bytes = choice bytes (eqb b 28) (signed16 bytes) (cond (eqb b 29) (signed32 bytes) (short_integer b bytes)) (signed16_left bytes) (choice bytes (eqb b 29) (signed32 bytes) (short_integer b bytes) (signed32_left bytes) (short_left b bytes))

following : {A Y : Type 0} (bytes : List ℕ) (o : Option A) (f : A → Option (Y × List ℕ)) → ((x : A) → Left bytes (f x)) → Left bytes (o >>= f)
following bytes None f m = nothing bytes
following bytes (Some x) f m = m x

more : {X : Type 0} (b : ℕ) (bytes : List ℕ) (o : Option (X × List ℕ)) → Left bytes o → Left (b ∷ bytes) o
more b bytes o l = record { le = λ x e. omega (arith, l.le x e) }

with_text_left : (bytes front : List ℕ) (o : Option (List ℕ × List ℕ)) → Left bytes o → Left bytes (with_text front o)
with_text_left bytes front o l = then bytes o (λ t. Some (front ++ t.0, t.1)) l (λ x le. found bytes x.1 (front ++ x.0) le)

text_left : (bytes : List ℕ) → Left bytes (text_at bytes)
unfolding text_at
text_left [] = nothing []
text_left (b ∷ bytes) =
    let all = b ∷ bytes in
    let ended : Left all (Some ([], bytes)) = found all bytes [] (omega arith) in
    let second : Option (List ℕ × List ℕ) = characters (b % 16) >>= λ low. with_text low (text_at bytes) in
    let second-left : Left all second = following all (characters (b % 16)) (λ low. with_text low (text_at bytes)) (λ low. with_text_left all low (text_at bytes) (more b bytes (text_at bytes) (text_left bytes))) in
    let rest : Option (List ℕ × List ℕ) = cond (eqb (b % 16) 15) (Some ([], bytes)) second in
    choice all (eqb (b / 16) 15) (Some ([], bytes)) (characters (b / 16) >>= λ high. with_text high rest) ended
    (following all (characters (b / 16)) (λ high. with_text high rest) (λ high. with_text_left all high rest (choice all (eqb (b % 16) 15) (Some ([], bytes)) second ended second-left)))

real_left : (bytes : List ℕ) → Left bytes (real_at bytes)
unfolding real_at
real_left bytes = then bytes (text_at bytes) _ (text_left bytes) (λ t le. choice bytes _ _ _ (following bytes (real_of t.0) _ (λ d. found bytes t.1 _ le)) (nothing bytes))

pub number_left : (b : ℕ) (bytes : List ℕ) → Left bytes (dict_number_from b bytes)
unfolding dict_number_from
number_left b bytes =
    choice bytes (eqb b 30) (real_at bytes >>= λ d. Some (Real d.0, d.1)) (integer_from b bytes >>= λ z. Some (Integer z.0, z.1))
    (then bytes (real_at bytes) (λ d. Some (Real d.0, d.1)) (real_left bytes) (λ x le. found bytes x.1 (Real x.0) le))
    (then bytes (integer_from b bytes) (λ z. Some (Integer z.0, z.1)) (integer_left b bytes) (λ x le. found bytes x.1 (Integer x.0) le))

-- ---- as many steps as there are bytes are enough
same_then : {A B : Type 0} (o : Option A) (f g : A → Option B) → ((x : A) → o ≡ Some x → f x ≡ g x) → (o >>= f) ≡ (o >>= g)
same_then None f g h = refl
same_then (Some x) f g h = h x refl

pub enough : (m n : ℕ) (bytes : List ℕ) → length bytes ≤ m → length bytes ≤ n → entry_in m bytes ≡ entry_in n bytes
unfolding entry_in
enough zero zero bytes p q = refl
enough zero (suc n) [] p q = refl
enough zero (suc n) (b ∷ bytes) p q = absurd (omega arith)
enough (suc m) zero [] p q = refl
enough (suc m) zero (b ∷ bytes) p q = absurd (omega arith)
enough (suc m) (suc n) [] p q = refl
enough (suc m) (suc n) (b ∷ bytes) p q =
    ap (cond (is_operator b) _) (same_then (dict_number_from b bytes) _ _ (λ x e.
    let shorter = (number_left b bytes).le x e in
    ap (λ (o : Option (Entry × List ℕ)). o >>= λ y. Some (record { operator = y.0.operator; operands = x.0 ∷ y.0.operands }, y.1)) (enough m n x.1 (omega arith) (omega arith))))

-- ---- an entry, from its first byte on
pub entry_nothing : (bytes : List ℕ) → byte bytes ≡ None → entry_at bytes ≡ None
unfolding byte entry_at entry_in
entry_nothing [] e = refl
entry_nothing (b ∷ bytes) e = absurd (none-some _ (sym e))

pub entry_of_operator : (bytes rest : List ℕ) (b : ℕ) → byte bytes ≡ Some (b, rest) → is_operator b ≡ true
    → entry_at bytes ≡ (operator_from b rest >>= λ o. Some (record { operator = o.0; operands = [] }, o.1))
unfolding byte entry_at entry_in
entry_of_operator [] rest b e is = absurd (none-some _ e)
entry_of_operator (c ∷ bytes) rest b e is = let same = some_pair_parts _ _ _ _ e in rw (← same.1, ← same.0) (rw (rw (← same.0) at is) refl)

pub entry_of_number : (bytes rest : List ℕ) (b : ℕ) → byte bytes ≡ Some (b, rest) → is_operator b ≡ false
    → entry_at bytes ≡ (dict_number_from b rest >>= λ x. entry_at x.1 >>= λ e. Some (record { operator = e.0.operator; operands = x.0 ∷ e.0.operands }, e.1))
unfolding byte entry_at entry_in
entry_of_number [] rest b e is = absurd (none-some _ e)
entry_of_number (c ∷ bytes) rest b e is =
    let same = some_pair_parts _ _ _ _ e in
    rw (← same.1, ← same.0) (rw (rw (← same.0) at is) (same_then (dict_number_from c bytes) _ _ (λ x e.
    let shorter = (number_left c bytes).le x e in
    ap (λ (o : Option (Entry × List ℕ)). o >>= λ y. Some (record { operator = y.0.operator; operands = x.0 ∷ y.0.operands }, y.1)) (enough (length bytes) (length x.1) x.1 (omega arith) (omega arith)))))

-- ---- an entry, by its tokens
abbrev as_operator : List ℕ × List ℕ → Option (Token × List ℕ)
as_operator q = Some (Operator q.0, q.1)

abbrev as_operand : Number × List ℕ → Option (Token × List ℕ)
as_operand y = Some (Operand y.0, y.1)

of_operator : (o : Option (List ℕ × List ℕ)) (p rest : List ℕ) → (o >>= as_operator) ≡ Some (Operator p, rest) → o ≡ Some (p, rest)
of_operator None p rest e = absurd (none-some _ e)
of_operator (Some q) p rest e =
    let parts = some_pair_parts _ _ _ _ e in
    let first : q.0 ≡ p = ap (λ (t : Token). elim t [ Operator r ↦ r | Operand x ↦ [] ]) parts.0 in
    ap (λ (r : List ℕ). Some (r, q.1)) first ∙ ap (λ (r : List ℕ). Some (p, r)) parts.1

of_operand : (o : Option (Number × List ℕ)) (x : Number) (rest : List ℕ) → (o >>= as_operand) ≡ Some (Operand x, rest) → o ≡ Some (x, rest)
of_operand None x rest e = absurd (none-some _ e)
of_operand (Some y) x rest e =
    let parts = some_pair_parts _ _ _ _ e in
    let first : y.0 ≡ x = ap (λ (t : Token). elim t [ Operator r ↦ x | Operand z ↦ z ]) parts.0 in
    ap (λ (z : Number). Some (z, y.1)) first ∙ ap (λ (r : List ℕ). Some (x, r)) parts.1

no_operand_is_operator : (o : Option (Number × List ℕ)) (p rest : List ℕ) → (o >>= as_operand) ≡ Some (Operator p, rest) → ⊥
no_operand_is_operator None p rest e = none-some _ e
no_operand_is_operator (Some y) p rest e = let parts = some_pair_parts _ _ _ _ e in absurd (false≢true (ap (λ (t : Token). elim t [ Operator r ↦ true | Operand z ↦ false ]) parts.0))

no_operator_is_operand : (o : Option (List ℕ × List ℕ)) (x : Number) (rest : List ℕ) → (o >>= as_operator) ≡ Some (Operand x, rest) → ⊥
no_operator_is_operand None x rest e = none-some _ e
no_operator_is_operand (Some q) x rest e = let parts = some_pair_parts _ _ _ _ e in absurd (false≢true (ap (λ (t : Token). elim t [ Operator r ↦ false | Operand z ↦ true ]) parts.0))

none_of : {X Y : Type 0} (o : Option X) (f : X → Y) → (o >>= λ x. Some (f x)) ≡ None → o ≡ None
none_of None f e = refl
none_of (Some x) f e = absurd (none-some _ (sym e))

pub at_no_token : (bytes : List ℕ) → token_at bytes ≡ None → entry_at bytes ≡ None
unfolding byte token_at entry_at entry_in
at_no_token [] e = refl
at_no_token (b ∷ bytes) e =
    elim (cases_Bool (is_operator b)) [
      | inl begins ↦ (let o = none_of (operator_from b bytes) (λ q. (Operator q.0, q.1)) (rw begins at e) in rw (begins, o) refl)
      | inr other ↦ (let o = none_of (dict_number_from b bytes) (λ x. (Operand x.0, x.1)) (rw other at e) in rw (other, o) refl)
    ]

pub at_operator : (bytes p rest : List ℕ) → token_at bytes ≡ Some (Operator p, rest) → entry_at bytes ≡ Some (record { operator = p; operands = [] }, rest)
unfolding byte token_at entry_at entry_in
at_operator [] p rest e = absurd (none-some _ e)
at_operator (b ∷ bytes) p rest e =
    elim (cases_Bool (is_operator b)) [
      | inl begins ↦ rw (begins, of_operator (operator_from b bytes) p rest (rw begins at e)) refl
      | inr other ↦ absurd (no_operand_is_operator (dict_number_from b bytes) p rest (rw other at e))
    ]

pub at_operand : (bytes rest : List ℕ) (x : Number) → token_at bytes ≡ Some (Operand x, rest) → entry_at bytes ≡ with_operands (x ∷ []) (entry_at rest)
unfolding byte token_at
at_operand [] rest x e = absurd (none-some _ e)
at_operand (b ∷ bytes) rest x e =
    elim (cases_Bool (is_operator b)) [
      | inl begins ↦ absurd (no_operator_is_operand (operator_from b bytes) x rest (rw begins at e))
      | inr other ↦ entry_of_number (b ∷ bytes) bytes b refl other ∙ rw (of_operand (dict_number_from b bytes) x rest (rw other at e)) refl
    ]

operator_left : (b : ℕ) (bytes : List ℕ) → Left bytes (operator_from b bytes)
operator_left b bytes = choice bytes (eqb b 12) (byte bytes >>= λ second. Some (12 ∷ second.0 ∷ [], second.1)) (Some (b ∷ [], bytes))
    (then bytes (byte bytes) (λ second. Some (12 ∷ second.0 ∷ [], second.1)) (byte_left bytes) (λ x le. found bytes x.1 (12 ∷ x.0 ∷ []) le)) (found bytes bytes (b ∷ []) (omega arith))

pub token_shorter : (bytes rest : List ℕ) (t : Token) → token_at bytes ≡ Some (t, rest) → length rest < length bytes
unfolding byte token_at
token_shorter [] rest t e = absurd (none-some _ e)
token_shorter (b ∷ bytes) rest t e =
    let left : Left bytes (token_at (b ∷ bytes)) = choice bytes (is_operator b) (operator_from b bytes >>= λ o. Some (Operator o.0, o.1)) (dict_number_from b bytes >>= λ x. Some (Operand x.0, x.1))
    (then bytes (operator_from b bytes) (λ o. Some (Operator o.0, o.1)) (operator_left b bytes) (λ x le. found bytes x.1 (Operator x.0) le))
    (then bytes (dict_number_from b bytes) (λ x. Some (Operand x.0, x.1)) (number_left b bytes) (λ x le. found bytes x.1 (Operand x.0) le)) in
    omega (arith, left.le (t, rest) e)

-- operands put in front twice
pub with_both : (front : List Number) (x : Number) (o : Option (Entry × List ℕ)) → with_operands front (with_operands (x ∷ []) o) ≡ with_operands (front ++ x ∷ []) o
with_both front x None = refl
with_both front x (Some e) = ap (λ (xs : List Number). Some (record { operator = e.0.operator; operands = xs }, e.1)) (sym (append_assoc front (x ∷ []) e.0.operands))

part_of_more : (x : Number) (o : Option (Entry × List ℕ)) → operator_part (with_operands (x ∷ []) o) ≡ operator_part o
part_of_more x None = refl
part_of_more x (Some e) = refl

-- the operator of the entry, by the first token
pub part_at_operator : (bytes p rest : List ℕ) → token_at bytes ≡ Some (Operator p, rest) → operator_part (entry_at bytes) ≡ Some (p, rest)
part_at_operator bytes p rest e = ap operator_part (at_operator bytes p rest e)

pub part_at_operand : (bytes rest : List ℕ) (x : Number) → token_at bytes ≡ Some (Operand x, rest) → operator_part (entry_at bytes) ≡ operator_part (entry_at rest)
part_at_operand bytes rest x e = ap operator_part (at_operand bytes rest x e) ∙ part_of_more x (entry_at rest)

pub part_at_none : (bytes : List ℕ) → token_at bytes ≡ None → operator_part (entry_at bytes) ≡ None
part_at_none bytes e = ap operator_part (at_no_token bytes e)
