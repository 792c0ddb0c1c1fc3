-- The components of an outline, one after another.
use Rattle.std.proofs.Common.{◌≡◌, ℕ, zero, suc, ◌+◌, ◌-◌, ◌<◌, ◌≤◌, Bool, true, false, cond, ltb, List, [], ◌∷◌, length, get_or, take, drop, Option, Some, None, refl, sym, ap, ◌∙◌, inl, inr, arith}
use Rattle.std.specs.Option.{option_map}
use Rattle.std.proofs.lemmas.Bool.{le-leb, lt-leb, le-ltb, lt-ltb, cases_lt}
use Rattle.std.proofs.lemmas.List.{length-drop}
use Rattle.subsetter_base.specs.Bytes.{be, number}
use Rattle.subsetter.specs.Glyf.Parts.{rest_size, has_more, numbers_at, component_numbers}

pub number_none : (bytes : List ℕ) (at size : ℕ) → length bytes < at + size → number bytes at size ≡ None
number_none bytes at size lt = ap (λ b. option_map be (cond b (Some (take size (drop at bytes))) None)) (lt-leb (at + size) (length bytes) lt)

pub number_some : (bytes : List ℕ) (at size : ℕ) → at + size ≤ length bytes → number bytes at size ≡ Some (be (take size (drop at bytes)))
number_some bytes at size le = ap (λ b. option_map be (cond b (Some (take size (drop at bytes))) None)) (le-leb (at + size) (length bytes) le)

-- no component where its flags and its number aren't there
pub numbers_none : (n : ℕ) (bytes : List ℕ) → length bytes < 4 → numbers_at n bytes ≡ []
unfolding numbers_at
numbers_none zero bytes lt = refl
numbers_none (suc n) bytes lt =
    elim (number bytes 0 2) as (λ o. elim o as (λ _. List ℕ) [ None ↦ [] | Some flags ↦ elim (number bytes 2 2) as (λ _. List ℕ) [ None ↦ [] | Some glyph ↦ glyph ∷ cond (has_more flags) (numbers_at n (drop (4 + rest_size flags) bytes)) [] ] ] ≡ []) [
      | None ↦ refl
      | Some flags ↦ rw (number_none bytes 2 2 lt) refl
    ]

-- one component, and those after it
pub numbers_more : (n : ℕ) (bytes : List ℕ) (flags glyph : ℕ) → number bytes 0 2 ≡ Some flags → number bytes 2 2 ≡ Some glyph → numbers_at (suc n) bytes ≡ glyph ∷ cond (has_more flags) (numbers_at n (drop (4 + rest_size flags) bytes)) []
unfolding numbers_at
numbers_more n bytes flags glyph a b =
    ap (λ (o : Option ℕ). elim o as (λ _. List ℕ) [ None ↦ [] | Some f ↦ elim (number bytes 2 2) as (λ _. List ℕ) [ None ↦ [] | Some g ↦ g ∷ cond (has_more f) (numbers_at n (drop (4 + rest_size f) bytes)) [] ] ]) a
    ∙ ap (λ (o : Option ℕ). elim o as (λ _. List ℕ) [ None ↦ [] | Some g ↦ g ∷ cond (has_more flags) (numbers_at n (drop (4 + rest_size flags) bytes)) [] ]) b

-- the numbers are the same for each count that is at least the count of the bytes
pub numbers_enough : (n m : ℕ) (bytes : List ℕ) → length bytes ≤ n → length bytes ≤ m → numbers_at n bytes ≡ numbers_at m bytes
numbers_enough zero m bytes le _ = numbers_none zero bytes (omega arith) ∙ sym (numbers_none m bytes (omega arith))
numbers_enough (suc n) zero bytes _ le = numbers_none (suc n) bytes (omega arith) ∙ sym (numbers_none zero bytes (omega arith))
numbers_enough (suc n) (suc m) bytes a b =
    elim (cases_lt (length bytes) 4) [
      | inl lt ↦ numbers_none (suc n) bytes lt ∙ sym (numbers_none (suc m) bytes lt)
      | inr le ↦
          let flags = be (take 2 (drop 0 bytes)) in
          let glyph = be (take 2 (drop 2 bytes)) in
          let after = drop (4 + rest_size flags) bytes in
          let f = number_some bytes 0 2 (omega arith) in
          let g = number_some bytes 2 2 le in
          let len : length after ≡ length bytes - (4 + rest_size flags) = length-drop (4 + rest_size flags) bytes in
          let below = numbers_enough n m after (omega arith) (omega arith) in
          numbers_more n bytes flags glyph f g ∙ ap (λ l. glyph ∷ cond (has_more flags) l []) below ∙ sym (numbers_more m bytes flags glyph f g)
    ]

-- the same, by the count of the bytes
pub numbers_step : (bytes : List ℕ) → 4 ≤ length bytes → numbers_at (length bytes) bytes
    ≡ be (take 2 (drop 2 bytes)) ∷ cond (has_more (be (take 2 (drop 0 bytes)))) (numbers_at (length (drop (4 + rest_size (be (take 2 (drop 0 bytes)))) bytes)) (drop (4 + rest_size (be (take 2 (drop 0 bytes)))) bytes)) []
numbers_step [] le = absurd (omega arith)
numbers_step (b ∷ bytes) le =
    let all : List ℕ = b ∷ bytes in
    let flags = be (take 2 (drop 0 all)) in
    let glyph = be (take 2 (drop 2 all)) in
    let after = drop (4 + rest_size flags) all in
    let len : length after ≡ length all - (4 + rest_size flags) = length-drop (4 + rest_size flags) all in
    numbers_more (length bytes) all flags glyph (number_some all 0 2 (omega arith)) (number_some all 2 2 le) ∙ ap (λ l. glyph ∷ cond (has_more flags) l []) (numbers_enough (length bytes) (length after) after (omega arith) (omega arith))

-- what an iterator takes, and what it leaves
pub numbers_next : (bytes rest : List ℕ) (flags glyph : ℕ) → 4 ≤ length bytes → flags ≡ be (take 2 (drop 0 bytes)) → glyph ≡ be (take 2 (drop 2 bytes)) → rest ≡ cond (has_more flags) (drop (4 + rest_size flags) bytes) []
    → numbers_at (length bytes) bytes ≡ glyph ∷ numbers_at (length rest) rest
numbers_next bytes rest flags glyph le f g r =
    let by : (b : Bool) → cond b (numbers_at (length (drop (4 + rest_size flags) bytes)) (drop (4 + rest_size flags) bytes)) [] ≡ numbers_at (length (cond b (drop (4 + rest_size flags) bytes) [])) (cond b (drop (4 + rest_size flags) bytes) []) = λ b. elim b as (λ q. cond q (numbers_at (length (drop (4 + rest_size flags) bytes)) (drop (4 + rest_size flags) bytes)) [] ≡ numbers_at (length (cond q (drop (4 + rest_size flags) bytes) [])) (cond q (drop (4 + rest_size flags) bytes) [])) [ true ↦ refl | false ↦ sym (numbers_none 0 [] (omega arith)) ] in
    numbers_step bytes le ∙ ap (λ n. n ∷ cond (has_more (be (take 2 (drop 0 bytes)))) (numbers_at (length (drop (4 + rest_size (be (take 2 (drop 0 bytes)))) bytes)) (drop (4 + rest_size (be (take 2 (drop 0 bytes)))) bytes)) []) (sym g)
    ∙ ap (λ n. glyph ∷ cond (has_more n) (numbers_at (length (drop (4 + rest_size n) bytes)) (drop (4 + rest_size n) bytes)) []) (sym f)
    ∙ ap (λ l. glyph ∷ l) (by (has_more flags)) ∙ ap (λ (l : List ℕ). glyph ∷ numbers_at (length l) l) (sym r)

-- ---- the components of an outline

pub drop_short : (n : ℕ) (l : List ℕ) → length l ≤ n → drop n l ≡ []
drop_short zero [] le = refl
drop_short zero (x ∷ l) le = absurd (omega arith)
drop_short (suc n) [] le = refl
drop_short (suc n) (x ∷ l) le = drop_short n l (omega arith)

pub components_short : (bytes : List ℕ) → length bytes < 10 → component_numbers bytes ≡ []
unfolding component_numbers
components_short [] lt = refl
components_short (a ∷ bytes) lt =
    let none : numbers_at (length bytes) (drop 10 (a ∷ bytes)) ≡ [] = ap (numbers_at (length bytes)) (drop_short 10 (a ∷ bytes) (omega arith)) ∙ numbers_none (length bytes) [] (omega arith) in
    elim (ltb a 128) as (λ q. cond q [] (numbers_at (length bytes) (drop 10 (a ∷ bytes))) ≡ []) [ true ↦ refl | false ↦ none ]

pub components_simple : (bytes : List ℕ) → get_or bytes 0 0 < 128 → component_numbers bytes ≡ []
unfolding component_numbers
components_simple [] lt = refl
components_simple (a ∷ bytes) lt = ap (λ q. cond q [] (numbers_at (length bytes) (drop 10 (a ∷ bytes)))) (lt-ltb a 128 lt)

pub components_composite : (bytes : List ℕ) → 10 ≤ length bytes → 128 ≤ get_or bytes 0 0 → component_numbers bytes ≡ numbers_at (length (drop 10 bytes)) (drop 10 bytes)
unfolding component_numbers
components_composite [] le high = absurd (omega arith)
components_composite (a ∷ bytes) le high =
    let rest = drop 10 (a ∷ bytes) in
    let len : length rest ≡ length (a ∷ bytes) - 10 = length-drop 10 (a ∷ bytes) in
    ap (λ q. cond q [] (numbers_at (length bytes) rest)) (le-ltb a 128 high) ∙ numbers_enough (length bytes) (length rest) rest (omega arith) (omega arith)

-- ---- how many components there can be

numbers_zero : (bytes : List ℕ) → numbers_at zero bytes ≡ []
unfolding numbers_at
numbers_zero bytes = refl

numbers_few : (n : ℕ) (bytes : List ℕ) → length (numbers_at n bytes) ≤ n
numbers_few zero bytes = omega (arith, ap length (numbers_zero bytes))
numbers_few (suc n) bytes =
    elim (cases_lt (length bytes) 4) [
      | inl lt ↦ omega (arith, ap length (numbers_none (suc n) bytes lt))
      | inr le ↦
          let flags = be (take 2 (drop 0 bytes)) in
          let glyph = be (take 2 (drop 2 bytes)) in
          let after = drop (4 + rest_size flags) bytes in
          let below = numbers_few n after in
          let step = numbers_more n bytes flags glyph (number_some bytes 0 2 (omega arith)) (number_some bytes 2 2 le) in
          elim (has_more flags) as (λ b. numbers_at (suc n) bytes ≡ glyph ∷ cond b (numbers_at n after) [] → length (numbers_at (suc n) bytes) ≤ suc n) [ true ↦ λ e. omega (arith, ap length e, below) | false ↦ λ e. omega (arith, ap length e) ] step
    ]

pub components_few : (bytes : List ℕ) → length (component_numbers bytes) ≤ length bytes
unfolding component_numbers
components_few [] = omega arith
components_few (a ∷ bytes) = elim (ltb a 128) as (λ q. length (cond q [] (numbers_at (length bytes) (drop 10 (a ∷ bytes)))) ≤ length (a ∷ bytes)) [ true ↦ omega arith | false ↦ omega (arith, numbers_few (length bytes) (drop 10 (a ∷ bytes))) ]
