-- Pairs of a figure and a character, numbered in order of use.
use Rattle.std.proofs.Common.{◌≡◌, ℕ, zero, suc, ◌+◌, ◌<◌, ◌≤◌, Bool, true, false, cond, List, [], ◌∷◌, ◌++◌, length, map, get_or, take, drop, Option, Some, None, option_map, ◌&&◌, inl, inr, Result, Ok, Err, refl, sym, ap, ◌∙◌, append_assoc, arith, add-one, length-append}
use Rattle.std.specs.Prelude.{is_ok, is_some, IfOk, IsSome, OnErr, OnOk, ◌⊎◌}
use Rattle.std.proofs.lemmas.List.{drop_more, map-append}
use Rattle.subsetter_base.specs.Remap.{index_by, with_value}
use Rattle.pdf_runs.specs.declared.codes.Pair.{Pair}
use Rattle.pdf_runs.specs.declared.pieces.Piece.{Piece}
use Rattle.pdf_runs.specs.contracts.codes.PairPartialEq.TheImpl.{eq-value}
use Rattle.pdf_runs.specs.declared.pieces.Figure.{Figure}
use Rattle.pdf_runs.specs.declared.pieces.Figure.TheVariants.{Source, Blank}
use Rattle.pdf_runs.specs.Codes.{HasFirst, IsOverfull, IsUncoded, KeepsCodes, pair_of, same, same_character, same_figure, with_pairs}
use Rattle.subsetter_base.specs.declared.error.Error.{Error}
use Rattle.subsetter_base.specs.declared.error.Error.TheVariants.{OutOfMemory, OverflowError}

-- ---- a value among more

module _ {A : Type 0} (eq : A → A → Bool) where
  later : (b : Bool) (o q : Option ℕ) (n : ℕ) → ((m : ℕ) → o ≡ Some m → q ≡ Some m) → cond b (Some 0) (option_map (λ i. i + 1) o) ≡ Some n → cond b (Some 0) (option_map (λ i. i + 1) q) ≡ Some n
  later true o q n h e = e
  later false None q n h e = absurd cc
  later false (Some m) q n h e = ap (option_map (λ i. i + 1)) (h m refl) ∙ e

  -- a value that is there keeps its place
  place_stays : (xs ys : List A) (x : A) (n : ℕ) → index_by eq xs x ≡ Some n → index_by eq (xs ++ ys) x ≡ Some n
  place_stays [] ys x n e = absurd cc
  place_stays (y ∷ xs) ys x n e = later (eq y x) (index_by eq xs x) (index_by eq (xs ++ ys) x) n (λ m h. place_stays xs ys x m h) e

  value_stays_by : (b : Bool) (xs : List A) (v x : A) (n : ℕ) → index_by eq xs x ≡ Some n → index_by eq (cond b xs (xs ++ v ∷ [])) x ≡ Some n
  value_stays_by true xs v x n e = e
  value_stays_by false xs v x n e = place_stays xs (v ∷ []) x n e

  value_stays : (xs : List A) (v x : A) (n : ℕ) → index_by eq xs x ≡ Some n → index_by eq (with_value eq xs v) x ≡ Some n
  value_stays xs v x n e = value_stays_by (is_some (index_by eq xs v)) xs v x n e

-- ---- pairs

pub grows_by : (b : Bool) (xs : List Pair) (x : Pair) → length xs ≤ length (cond b xs (xs ++ x ∷ []))
grows_by true xs x = omega arith
grows_by false xs x = omega (arith, length-append xs (x ∷ []))

pub grows : (ps : List Piece) (xs : List Pair) → length xs ≤ length (with_pairs xs ps)
grows [] xs = omega arith
grows (p ∷ ps) xs =
    let one : length xs ≤ length (with_value same xs (pair_of p)) = grows_by (is_some (index_by same xs (pair_of p))) xs (pair_of p) in
    let more : length (with_value same xs (pair_of p)) ≤ length (with_pairs (with_value same xs (pair_of p)) ps) = grows ps (with_value same xs (pair_of p)) in
    omega arith

-- a pair that is there keeps its code
pub pairs_stay : (ps : List Piece) (xs : List Pair) → KeepsCodes xs (with_pairs xs ps)
pairs_stay [] xs q n e = e
pairs_stay (p ∷ ps) xs q n e = pairs_stay ps (with_value same xs (pair_of p)) q n (value_stays same xs (pair_of p) q n e)

-- ---- one piece more

-- with one pair more in the list, all pairs are the same
pub all_more : (ps : List Piece) (k : ℕ) (d : Piece) (was now total : List Pair) (q : Pair) → k < length ps → q ≡ pair_of (get_or ps k d) → now ≡ with_value same was q → with_pairs was (drop k ps) ≡ total → with_pairs now (drop (k + 1) ps) ≡ total
all_more ps k d was now total q l is put all =
    let rest : List Piece = drop (k + 1) ps in
    ap (λ (xs : List Pair). with_pairs xs rest) put
    ∙ ap (λ (r : Pair). with_pairs (with_value same was r) rest) is
    ∙ sym (ap (with_pairs was) (drop_more ps k d l))
    ∙ all

-- with the pair of one piece more, they are those of the first pieces
first_next : (ps : List Piece) (k : ℕ) (d : Piece) (xs : List Pair) → k < length ps → with_value same (with_pairs xs (take k ps)) (pair_of (get_or ps k d)) ≡ with_pairs xs (take (suc k) ps)
first_next [] k d xs l = absurd (omega arith)
first_next (p ∷ ps) zero d xs l = refl
first_next (p ∷ ps) (suc k) d xs l = first_next ps k d (with_value same xs (pair_of p)) (omega arith)

pub first_more : (ps : List Piece) (k : ℕ) (d : Piece) (xs : List Pair) → k < length ps → with_value same (with_pairs xs (take k ps)) (pair_of (get_or ps k d)) ≡ with_pairs xs (take (k + 1) ps)
first_more ps k d xs l = first_next ps k d xs l ∙ sym (ap (λ (n : ℕ). with_pairs xs (take n ps)) (add-one k))

pub first_put : (ps : List Piece) (k : ℕ) (d : Piece) (xs was now : List Pair) (q : Pair) → k < length ps → q ≡ pair_of (get_or ps k d) → was ≡ with_pairs xs (take k ps) → now ≡ with_value same was q → now ≡ with_pairs xs (take (k + 1) ps)
first_put ps k d xs was now q l is before put =
    put ∙ ap (λ (l : List Pair). with_value same l q) before ∙ ap (with_value same (with_pairs xs (take k ps))) is ∙ first_more ps k d xs l

-- the code of one piece more
pub codes_more : (ps : List Piece) (k : ℕ) (d : Piece) (now total : List Pair) (q : Pair) (codes : List ℕ) (n : ℕ) (whole : List (Option ℕ)) → k < length ps → q ≡ pair_of (get_or ps k d)
    → index_by same now q ≡ Some n → with_pairs now (drop (k + 1) ps) ≡ total
    → map Some codes ++ map (λ (p : Piece). index_by same total (pair_of p)) (drop k ps) ≡ whole → map Some (codes ++ n ∷ []) ++ map (λ (p : Piece). index_by same total (pair_of p)) (drop (k + 1) ps) ≡ whole
codes_more ps k d now total q codes n whole l is found all so_far =
    let code : Piece → Option ℕ = λ p. index_by same total (pair_of p) in
    let rest : List (Option ℕ) = map code (drop (k + 1) ps) in
    let number : Some n ≡ code (get_or ps k d) =
    sym (pairs_stay (drop (k + 1) ps) now q n found) ∙ ap (λ (xs : List Pair). index_by same xs q) all ∙ ap (index_by same total) is
    in
    ap (λ (l : List (Option ℕ)). l ++ rest) (map-append Some codes (n ∷ []))
    ∙ append_assoc (map Some codes) (Some n ∷ []) rest
    ∙ ap (λ (o : Option ℕ). map Some codes ++ o ∷ rest) number
    ∙ sym (ap (λ (l : List Piece). map Some codes ++ map code l) (drop_more ps k d l))
    ∙ so_far

-- ---- equal pairs, as the code tests them

same_by : (f g : Figure) (a b : Option ℕ) → eq-value.it (record { figure = f; says = a }) (record { figure = g; says = b }) ≡ (same_figure f g && same_character a b)
same_by (Source x) (Source y) None None = refl
same_by (Source x) (Source y) None (Some d) = refl
same_by (Source x) (Source y) (Some c) None = refl
same_by (Source x) (Source y) (Some c) (Some d) = refl
same_by (Source x) Blank a b = refl
same_by Blank (Source y) a b = refl
same_by Blank Blank None None = refl
same_by Blank Blank None (Some d) = refl
same_by Blank Blank (Some c) None = refl
same_by Blank Blank (Some c) (Some d) = refl

abbrev pub equal : Pair → Pair → Bool
equal p q = eq-value.it p q

equal_is_same : (p q : Pair) → equal p q ≡ same p q
equal_is_same p q = same_by p.figure q.figure p.says q.says

index_same : (xs : List Pair) (x : Pair) → index_by equal xs x ≡ index_by same xs x
index_same [] x = refl
index_same (y ∷ xs) x =
    ap (λ (b : Bool). cond b (Some 0) (option_map (λ i. i + 1) (index_by equal xs x))) (equal_is_same y x)
    ∙ ap (λ (o : Option ℕ). cond (same y x) (Some 0) (option_map (λ i. i + 1) o)) (index_same xs x)

pub put_same : (xs : List Pair) (x : Pair) → with_value equal xs x ≡ with_value same xs x
put_same xs x = ap (λ (o : Option ℕ). cond (is_some o) xs (xs ++ x ∷ [])) (index_same xs x)

pub room_same : (xs : List Pair) (x : Pair) → (IsSome (index_by same xs x)) ⊎ (length xs + 1 < 65536) → (IsSome (index_by equal xs x)) ⊎ (length xs + 1 < 65536)
room_same xs x h = rw (index_same xs x) h

pub found_same : (o : Option ℕ) (xs : List Pair) (x : Pair) → option_map (λ n. n) o ≡ index_by equal xs x → o ≡ index_by same xs x
found_same None xs x e = e ∙ index_same xs x
found_same (Some n) xs x e = e ∙ index_same xs x

pub list_put : (r : Result ℕ Error) (xs ys : List Pair) (x : Pair) → ys ≡ cond (is_ok r) (with_value equal xs x) xs → OnOk r (ys ≡ with_value same xs x)
list_put (Ok n) xs ys x e = e ∙ put_same xs x
list_put (Err e) xs ys x h = tt

pub number_put : (r : Result ℕ Error) (ys : List Pair) (x : Pair) → IfOk r (λ n. index_by equal ys x ≡ Some n) → IfOk r (λ n. index_by same ys x ≡ Some n)
number_put (Ok n) ys x e = sym (index_same ys x) ∙ e
number_put (Err e) ys x h = tt

pub list_kept : (r : Result ℕ Error) (xs ys : List Pair) (x : Pair) → ys ≡ cond (is_ok r) (with_value equal xs x) xs → OnErr r (ys ≡ xs)
list_kept (Ok n) xs ys x e = tt
list_kept (Err f) xs ys x e = e

pub on_err : {A E : Type 0} (r : Result A E) {P : Type 0} → P → OnErr r P
on_err (Ok x) p = tt
on_err (Err e) p = p

pub stay_put : (r : Result ℕ Error) (xs ys : List Pair) (x : Pair) → ys ≡ cond (is_ok r) (with_value equal xs x) xs → KeepsCodes xs ys
stay_put (Ok n) xs ys x e q m found = ap (λ (l : List Pair). index_by same l q) (e ∙ put_same xs x) ∙ value_stays same xs x q m found
stay_put (Err f) xs ys x e q m found = ap (λ (l : List Pair). index_by same l q) e ∙ found

-- where one pair more is too many, all are
pub all_refused : (ps : List Piece) (k : ℕ) (d : Piece) (was total : List Pair) (q : Pair) (e : Error) → k < length ps → q ≡ pair_of (get_or ps k d) → with_pairs was (drop k ps) ≡ total
    → (e ≡ OutOfMemory) ⊎ ((e ≡ OverflowError) × (65535 < length (with_value same was q))) → (e ≡ OutOfMemory) ⊎ ((e ≡ OverflowError) × (65535 < length total))
all_refused ps k d was total q e l is all (inl memory) = inl memory
all_refused ps k d was total q e l is all (inr full) =
    let next : List Pair = with_value same was q in
    let rest : List Piece = drop (k + 1) ps in
    let whole : with_pairs next rest ≡ total = all_more ps k d was next total q l is refl all in
    let more : length next ≤ length (with_pairs next rest) = grows rest next in
    let long : 65535 < length next = full.1 in
    inr (full.0, omega (arith, ap length whole))

-- pieces bring no more pairs than they are
one_at_most : (b : Bool) (xs : List Pair) (x : Pair) → length (cond b xs (xs ++ x ∷ [])) ≤ length xs + 1
one_at_most true xs x = omega arith
one_at_most false xs x = omega (arith, length-append xs (x ∷ []))

few_more : (ps : List Piece) (xs : List Pair) → length (with_pairs xs ps) ≤ length xs + length ps
few_more [] xs = omega arith
few_more (p ∷ ps) xs =
    let one : length (with_value same xs (pair_of p)) ≤ length xs + 1 = one_at_most (is_some (index_by same xs (pair_of p))) xs (pair_of p) in
    let more : length (with_pairs (with_value same xs (pair_of p)) ps) ≤ length (with_value same xs (pair_of p)) + length ps = few_more ps (with_value same xs (pair_of p)) in
    omega arith

pub few_pairs : (xs : List Pair) (ps : List Piece) → length xs + length ps ≤ 65535 → length (with_pairs xs ps) ≤ 65535
few_pairs xs ps l = let most : length (with_pairs xs ps) ≤ length xs + length ps = few_more ps xs in omega arith

-- where all pairs have room, so has the next
room_by : (o : Option ℕ) (xs : List Pair) (q : Pair) (n : ℕ) → index_by same xs q ≡ o → length (with_value same xs q) ≤ n → (IsSome o) ⊎ (length xs + 1 ≤ n)
room_by (Some k) xs q n e l = inl refl
room_by None xs q n e l =
    let put : with_value same xs q ≡ xs ++ q ∷ [] = rw e refl in
    let long : length (xs ++ q ∷ []) ≤ n = rw put at l in
    inr (omega (arith, length-append xs (q ∷ [])))

few_or : (o : Option ℕ) (n : ℕ) → (IsSome o) ⊎ (n + 1 ≤ 65535) → (IsSome o) ⊎ (n + 1 < 65536)
few_or o n (inl h) = inl h
few_or o n (inr l) = inr (omega arith)

pub has_room : (ps : List Piece) (k : ℕ) (d : Piece) (was total : List Pair) (q : Pair) → k < length ps → q ≡ pair_of (get_or ps k d) → with_pairs was (drop k ps) ≡ total → length total ≤ 65535
    → (IsSome (index_by same was q)) ⊎ (length was + 1 < 65536)
has_room ps k d was total q l is all few =
    let next : List Pair = with_value same was q in
    let rest : List Piece = drop (k + 1) ps in
    let whole : with_pairs next rest ≡ total = all_more ps k d was next total q l is refl all in
    let more : length next ≤ length (with_pairs next rest) = grows rest next in
    few_or (index_by same was q) (length was) (room_by (index_by same was q) was q 65535 refl (omega (arith, ap length whole)))

-- ---- why pieces have no codes

pub uncoded_early : (ps : List Piece) (xs : List Pair) (e : Error) → (e ≡ OutOfMemory) ⊎ ((e ≡ OverflowError) × IsOverfull xs ps) → IsUncoded xs xs ps e
uncoded_early ps xs e (inl memory) = inl (memory, record { count = 0; first = refl })
uncoded_early ps xs e (inr full) = inr (full.0, full.1, refl)

pub uncoded_late : (ps : List Piece) (xs new : List Pair) (e : Error) → e ≡ OutOfMemory → HasFirst xs new ps → IsUncoded xs new ps e
uncoded_late ps xs new e memory first = inl (memory, first)
