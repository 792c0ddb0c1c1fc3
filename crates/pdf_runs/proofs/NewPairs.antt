-- The pairs that pieces bring to others.
use Rattle.std.proofs.Common.{◌≡◌, ℕ, ◌+◌, ◌<◌, ◌≤◌, Bool, true, false, cond, List, [], ◌∷◌, ◌++◌, length, get_or, drop, Option, Some, None, option_map, Result, Ok, Err, refl, sym, ap, ◌∙◌, append_assoc, append-nil, arith, length-append, inl, inr}
use Rattle.std.specs.Prelude.{is_ok, is_some, IsTrue, ◌↔◌, ◌⊎◌}
use Rattle.std.proofs.lemmas.Bool.{cases_lt}
use Rattle.std.proofs.lemmas.List.{drop_all, drop_more}
use Rattle.subsetter_base.specs.Remap.{index_by, with_value}
use Rattle.subsetter_base.specs.declared.error.Error.{Error}
use Rattle.pdf_runs.specs.declared.codes.Pair.{Pair}
use Rattle.pdf_runs.specs.declared.pieces.Piece.{Piece}
use Rattle.pdf_runs.specs.Codes.{pair_of, same, with_new, with_pairs}
use Rattle.pdf_runs.proofs.PairLaws.{equal, grows, grows_by, put_same}

-- the new pairs of pieces after others
abbrev pub with_all_new : List Pair → List Pair → List Piece → List Pair
with_all_new pairs new [] = new
with_all_new pairs new (p ∷ ps) = with_all_new pairs (with_new same pairs new (pair_of p)) ps

some_by : (b : Bool) (o : Option ℕ) → is_some (cond b (Some 0) (option_map (λ i. i + 1) o)) ≡ cond b true (is_some o)
some_by true o = refl
some_by false None = refl
some_by false (Some n) = refl

found_by : (b : Bool) (o q : Option ℕ) (r : Bool) → is_some q ≡ cond (is_some o) true r → is_some (cond b (Some 0) (option_map (λ i. i + 1) q)) ≡ cond (is_some (cond b (Some 0) (option_map (λ i. i + 1) o))) true r
found_by true o q r e = refl
found_by false None None r e = e
found_by false None (Some n) r e = e
found_by false (Some m) None r e = e
found_by false (Some m) (Some n) r e = refl

-- a value of two lists is in one of them
found_in : (xs ys : List Pair) (x : Pair) → is_some (index_by same (xs ++ ys) x) ≡ cond (is_some (index_by same xs x)) true (is_some (index_by same ys x))
found_in [] ys x = refl
found_in (y ∷ xs) ys x = found_by (same y x) (index_by same xs x) (index_by same (xs ++ ys) x) (is_some (index_by same ys x)) (found_in xs ys x)

put_by : (a b : Bool) (xs ys : List Pair) (x : Pair) → cond (cond a true b) (xs ++ ys) ((xs ++ ys) ++ x ∷ []) ≡ xs ++ cond a ys (cond b ys (ys ++ x ∷ []))
put_by true b xs ys x = refl
put_by false true xs ys x = refl
put_by false false xs ys x = append_assoc xs ys (x ∷ [])

put_after : (xs ys : List Pair) (x : Pair) → with_value same (xs ++ ys) x ≡ xs ++ with_new same xs ys x
put_after xs ys x =
    ap (λ (b : Bool). cond b (xs ++ ys) ((xs ++ ys) ++ x ∷ [])) (found_in xs ys x) ∙ put_by (is_some (index_by same xs x)) (is_some (index_by same ys x)) xs ys x

-- pairs with those of pieces are they and the new ones
pub all_after : (ps : List Piece) (xs new : List Pair) → with_pairs (xs ++ new) ps ≡ xs ++ with_all_new xs new ps
all_after [] xs new = refl
all_after (p ∷ ps) xs new = ap (λ (l : List Pair). with_pairs l ps) (put_after xs new (pair_of p)) ∙ all_after ps xs (with_new same xs new (pair_of p))

new_grows_by : (a b : Bool) (new : List Pair) (x : Pair) → length new ≤ length (cond a new (cond b new (new ++ x ∷ [])))
new_grows_by true b new x = omega arith
new_grows_by false b new x = grows_by b new x

new_grows : (ps : List Piece) (xs new : List Pair) → length new ≤ length (with_all_new xs new ps)
new_grows [] xs new = omega arith
new_grows (p ∷ ps) xs new =
    let one : length new ≤ length (with_new same xs new (pair_of p)) = new_grows_by (is_some (index_by same xs (pair_of p))) (is_some (index_by same new (pair_of p))) new (pair_of p) in
    let more : length (with_new same xs new (pair_of p)) ≤ length (with_all_new xs (with_new same xs new (pair_of p)) ps) = new_grows ps xs (with_new same xs new (pair_of p)) in
    omega arith

-- with one piece more, the new pairs of all are the same
pub new_more : (ps : List Piece) (k : ℕ) (d : Piece) (xs was now total : List Pair) (q : Pair) → k < length ps → q ≡ pair_of (get_or ps k d) → now ≡ with_new same xs was q → with_all_new xs was (drop k ps) ≡ total
    → with_all_new xs now (drop (k + 1) ps) ≡ total
new_more ps k d xs was now total q l is put all =
    let rest : List Piece = drop (k + 1) ps in
    ap (λ (l : List Pair). with_all_new xs l rest) put
    ∙ ap (λ (r : Pair). with_all_new xs (with_new same xs was r) rest) is
    ∙ sym (ap (with_all_new xs was) (drop_more ps k d l))
    ∙ all

all_pairs : (ps : List Piece) (xs : List Pair) → length (with_pairs xs ps) ≡ length xs + length (with_all_new xs [] ps)
all_pairs ps xs =
    ap (λ (l : List Pair). length (with_pairs l ps)) (sym (append-nil xs)) ∙ ap length (all_after ps xs []) ∙ length-append xs (with_all_new xs [] ps)

-- too many of them are too many
pub too_many : (ps rest : List Piece) (xs new : List Pair) → with_all_new xs new rest ≡ with_all_new xs [] ps → 65535 < length xs + length new → 65535 < length (with_pairs xs ps)
too_many ps rest xs new all l =
    let most : length new ≤ length (with_all_new xs new rest) = new_grows rest xs new in
    omega (arith, all_pairs ps xs, ap length all)

pub not_too_many : (ps : List Piece) (xs new : List Pair) → new ≡ with_all_new xs [] ps → length xs + length new ≤ 65535 → length (with_pairs xs ps) ≤ 65535
not_too_many ps xs new all l = omega (arith, all_pairs ps xs, ap length all)

-- all pieces are counted, and there is room
few_by : (b : Bool) (n m : ℕ) → (IsTrue b ↔ (n < m)) → b ≡ false → (n < m) ⊎ (m ≤ n) → m ≤ n
few_by b n m h e (inl l) = let t : b ≡ true = h.1 l in absurd cc
few_by b n m h e (inr l) = l

pub all_counted : (ps : List Piece) (k : ℕ) (xs new : List Pair) (b : Bool) → length ps ≤ k → with_all_new xs new (drop k ps) ≡ with_all_new xs [] ps → (IsTrue b ↔ (65535 < length xs + length new)) → b ≡ false → length (with_pairs xs ps) ≤ 65535
all_counted ps k xs new b l all h e =
    not_too_many ps xs new (ap (with_all_new xs new) (sym (drop_all k ps l)) ∙ all) (few_by b 65535 (length xs + length new) h e (cases_lt 65535 (length xs + length new)))

-- ---- one pair

pub known_new : (b : Bool) (xs new : List Pair) (x : Pair) → b ≡ is_some (index_by same xs x) → b ≡ true → new ≡ with_new same xs new x
known_new b xs new x e t = sym (ap (λ (c : Bool). cond c new (with_value same new x)) (sym e ∙ t))

pub new_put : (b : Bool) (r : Result ℕ Error) (xs was now : List Pair) (x : Pair) (n : ℕ) → b ≡ is_some (index_by same xs x) → b ≡ false → r ≡ Ok n → now ≡ cond (is_ok r) (with_value equal was x) was → now ≡ with_new same xs was x
new_put b r xs was now x n e f is put =
    put ∙ ap (λ (r : Result ℕ Error). cond (is_ok r) (with_value equal was x) was) is ∙ put_same was x
    ∙ sym (ap (λ (c : Bool). cond c was (with_value same was x)) (sym e ∙ f))
