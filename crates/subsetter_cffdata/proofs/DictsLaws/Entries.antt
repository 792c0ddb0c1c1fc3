-- The entries of a DICT, one after the other.
use Rattle.std.proofs.Common.{◌≡◌, ℕ, zero, suc, ◌<◌, ◌≤◌, List, [], ◌∷◌, length, Option, Some, None, refl, ap, arith, ◌∙◌, sym}
use Rattle.std.specs.Option.{option_map_or}
use Rattle.std.proofs.lemmas.Option.{none-some, same_Some}
use Rattle.subsetter_cffdata.specs.Dicts.Dict.{Token, Operand, Operator, token_at, Entry, entry_in, entry_at, limited, entries_in, entries}
use Rattle.subsetter_cffdata.specs.Dicts.Tokens.{with_operands}
use Rattle.subsetter_cffdata.specs.Numerals.Numbers.{Number}
use Rattle.subsetter_cffdata.proofs.DictsLaws.Shorter.{at_no_token, at_operator, at_operand, token_shorter}

-- what is left after an entry with more operands in front
same_rest : (xs : List Number) (o : Option (Entry × List ℕ)) (e : Entry × List ℕ) → with_operands xs o ≡ Some e → (d : Entry × List ℕ) × ((o ≡ Some d) × (d.1 ≡ e.1))
same_rest xs None e h = absurd (none-some e h)
same_rest xs (Some d) e h = (d, (refl, ap (λ (x : Entry × List ℕ). x.1) (same_Some _ _ h)))

by_token : (steps : ℕ) (bytes : List ℕ) (e : Entry × List ℕ) → length bytes ≤ steps → entry_at bytes ≡ Some e → (t : Option (Token × List ℕ)) → token_at bytes ≡ t → length e.1 < length bytes
by_token steps bytes e le h None token = absurd (none-some e (sym (at_no_token bytes token) ∙ h))
by_token steps bytes e le h (Some (Operator p, rest)) token =
    let same : rest ≡ e.1 = ap (λ (x : Entry × List ℕ). x.1) (same_Some _ _ (sym (at_operator bytes p rest token) ∙ h)) in
    let less = token_shorter bytes rest (Operator p) token in
    omega (arith, less, ap length same)
by_token zero bytes e le h (Some (Operand x, rest)) token = absurd (let less = token_shorter bytes rest (Operand x) token in omega (arith, less))
by_token (suc steps) bytes e le h (Some (Operand x, rest)) token =
    let less = token_shorter bytes rest (Operand x) token in
    let following = same_rest (x ∷ []) (entry_at rest) e (sym (at_operand bytes rest x token) ∙ h) in
    let more = by_token steps rest following.0 (omega (arith, less)) following.1.0 (token_at rest) refl in
    omega (arith, less, more, ap length following.1.1)

-- an entry takes at least a byte
pub entry_shorter : (bytes : List ℕ) (e : Entry × List ℕ) → entry_at bytes ≡ Some e → length e.1 < length bytes
entry_shorter bytes e h = by_token (length bytes) bytes e (omega arith) h (token_at bytes) refl

abbrev step_of : ℕ → Option (Entry × List ℕ) → List Entry
step_of steps o = option_map_or (λ e. limited e.0 ∷ entries_in steps e.1) o []

no_bytes : entry_at [] ≡ None
unfolding entry_at entry_in
no_bytes = refl

same_steps : (m n : ℕ) (bytes : List ℕ) (o : Option (Entry × List ℕ)) → entry_at bytes ≡ o → length bytes ≤ suc m → length bytes ≤ suc n
    → ((rest : List ℕ) → length rest ≤ m → length rest ≤ n → entries_in m rest ≡ entries_in n rest) → step_of m o ≡ step_of n o
same_steps m n bytes None e le le' more = refl
same_steps m n bytes (Some d) e le le' more = let less = entry_shorter bytes d e in ap (λ (es : List Entry). limited d.0 ∷ es) (more d.1 (omega (arith, less)) (omega (arith, less)))

-- as many steps as bytes are enough
enough : (m n : ℕ) (bytes : List ℕ) → length bytes ≤ m → length bytes ≤ n → entries_in m bytes ≡ entries_in n bytes
unfolding entries_in
enough zero zero bytes le le' = refl
enough zero (suc n) [] le le' = rw no_bytes refl
enough zero (suc n) (b ∷ bytes) le le' = absurd (omega arith)
enough (suc m) zero [] le le' = rw no_bytes refl
enough (suc m) zero (b ∷ bytes) le le' = absurd (omega arith)
enough (suc m) (suc n) bytes le le' = same_steps m n bytes (entry_at bytes) refl le le' (λ rest a b. enough m n rest a b)

step_is : (n : ℕ) (bytes : List ℕ) (o : Option (Entry × List ℕ)) → entry_at bytes ≡ o → length bytes ≡ suc n → step_of n o ≡ option_map_or (λ e. limited e.0 ∷ entries e.1) o []
unfolding entries
step_is n bytes None e len = refl
step_is n bytes (Some d) e len = let less = entry_shorter bytes d e in ap (λ (es : List Entry). limited d.0 ∷ es) (enough n (length d.1) d.1 (omega (arith, less, len)) (omega arith))

pub entries_step : (bytes : List ℕ) → entries bytes ≡ option_map_or (λ e. limited e.0 ∷ entries e.1) (entry_at bytes) []
unfolding entries entries_in
entries_step [] = rw no_bytes refl
entries_step (b ∷ bytes) = step_is (length bytes) (b ∷ bytes) (entry_at (b ∷ bytes)) refl refl
