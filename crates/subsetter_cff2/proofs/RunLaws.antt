-- What the runs of region indexes say of item variation data.
use Rattle.std.proofs.Common.{◌≡◌, ℕ, zero, suc, ◌+◌, ◌-◌, ◌*◌, ◌/◌, ◌<◌, ◌≤◌, Bool, true, false, cond, ◌&&◌, List, length, take, drop, map, [], ◌∷◌, ◌++◌, refl, ap, sym, ◌∙◌, arith, inl, inr}
use Rattle.std.specs.Prelude.{nat_lt, nat_le}
use Rattle.std.specs.List.{range_with_len}
use Rattle.std.proofs.lemmas.Bool.{lt-ltb, le-ltb, le-leb, lt-leb, cases_lt}
use Rattle.std.proofs.lemmas.List.{length-drop, length-take, length-append, get_or_append_left, get_or_push, drop-drop, drop-take, take-take}
use Rattle.subsetter_base.specs.Bytes.{be}
use Rattle.subsetter_variation.specs.Items.ItemVariations.{region_index, region_indexes}
use Rattle.subsetter_cff2.specs.Variation.{are_regions_below}
use Rattle.subsetter_cff2.specs.RegionRuns.{index_at, one_more, run, AreRuns}

-- whether all of a count of indexes, from a place on, are below the bound
abbrev all_below : ℕ → List ℕ → ℕ → ℕ → Bool
all_below bound bytes zero place = true
all_below bound bytes (suc c) place = nat_lt (index_at bytes place) bound && all_below bound bytes c (place + 2)

-- ---- by the run
both_more : (c r : ℕ) → nat_le (suc c) (suc r) ≡ nat_le c r
both_more c r =
    elim (cases_lt r c) [
      | inl lt ↦ lt-leb (suc c) (suc r) (omega arith) ∙ sym (lt-leb c r lt)
      | inr le ↦ le-leb (suc c) (suc r) (omega arith) ∙ sym (le-leb c r le)
    ]

one_up : (c r : ℕ) → suc c ≤ 65535 → nat_le (suc c) (one_more r) ≡ nat_le c r
one_up c r few =
    elim (cases_lt r 65535) [
      | inl lt ↦ rw (lt-ltb r 65535 lt) (both_more c r)
      | inr le ↦ rw (le-ltb r 65535 le) (le-leb (suc c) 65535 few ∙ sym (le-leb c r (omega arith)))
    ]

step : (b : Bool) (c r : ℕ) (rest : Bool) → suc c ≤ 65535 → nat_le c r ≡ rest → nat_le (suc c) (cond b (one_more r) 0) ≡ (b && rest)
step false c r rest few e = lt-leb (suc c) 0 (omega arith)
step true c r rest few e = one_up c r few ∙ e

in_run : (bound : ℕ) (bytes : List ℕ) (c left : ℕ) → 2 * c ≤ left → left ≤ length bytes → c ≤ 65535 → nat_le c (run bound bytes left) ≡ all_below bound bytes c (length bytes - left)
in_run bound bytes zero left room inside few = le-leb 0 (run bound bytes left) (omega arith)
in_run bound bytes (suc c) zero room inside few = absurd (omega arith)
in_run bound bytes (suc c) (suc zero) room inside few = absurd (omega arith)
in_run bound bytes (suc c) (suc (suc left)) room inside few =
    let place = length bytes - suc (suc left) in
    let next : length bytes - left ≡ place + 2 = omega arith in
    step (nat_lt (index_at bytes place) bound) c (run bound bytes left) (all_below bound bytes c (place + 2)) few
    (in_run bound bytes c left (omega arith) (omega arith) (omega arith) ∙ ap (all_below bound bytes c) next)

-- ---- one by one
one_inside : (bytes : List ℕ) (start c k : ℕ) → k < c → region_index (take (c * 2) (drop start bytes)) k ≡ index_at bytes (start + k * 2)
one_inside bytes start c k lt =
    let more = c * 2 - k * 2 in
    let whole : c * 2 ≡ k * 2 + more = omega arith in
    ap (λ (n : ℕ). be (take 2 (drop (k * 2) (take n (drop start bytes))))) whole
    ∙ ap (λ (l : List ℕ). be (take 2 l)) (drop-take (k * 2) more (drop start bytes))
    ∙ ap be (take-take 2 more (drop (k * 2) (drop start bytes)) (omega arith))
    ∙ ap (λ (l : List ℕ). be (take 2 l)) (drop-drop (k * 2) start bytes)

listed : (bound : ℕ) (bytes part : List ℕ) (start n k : ℕ) → ((j : ℕ) → j < k + n → region_index part j ≡ index_at bytes (start + j * 2))
    → are_regions_below bound (map (region_index part) (range_with_len k n)) ≡ all_below bound bytes n (start + k * 2)
listed bound bytes part start zero k h = refl
listed bound bytes part start (suc n) k h =
    let next : start + (k + 1) * 2 ≡ start + k * 2 + 2 = omega arith in
    rw (h k (omega arith)) (ap (λ (b : Bool). nat_lt (index_at bytes (start + k * 2)) bound && b)
    (listed bound bytes part start n (k + 1) (λ j l. h j (omega arith)) ∙ ap (all_below bound bytes n) next))

-- ---- both
pub by_run : (bound : ℕ) (bytes : List ℕ) (start c : ℕ) → start + c * 2 ≤ length bytes → c ≤ 65535
    → nat_le c (run bound bytes (length bytes - start)) ≡ are_regions_below bound (region_indexes (take (c * 2) (drop start bytes)))
by_run bound bytes start c inside few =
    let part = take (c * 2) (drop start bytes) in
    let size : length part / 2 ≡ c = omega (arith, length-take (c * 2) (drop start bytes), length-drop start bytes) in
    let place : length bytes - (length bytes - start) ≡ start + 0 * 2 = omega arith in
    in_run bound bytes c (length bytes - start) (omega arith) (omega arith) few
    ∙ ap (all_below bound bytes c) place
    ∙ sym (listed bound bytes part start c 0 (λ j l. one_inside bytes start c j (omega (arith, l))))
    ∙ ap (λ (n : ℕ). are_regions_below bound (map (region_index part) (range_with_len 0 n))) (sym size)

-- ---- the list of runs
pub none_yet : (bound : ℕ) (bytes : List ℕ) → AreRuns bound bytes [] 0
none_yet bound bytes = record { len = refl; each = λ left lt. absurd (omega arith) }

pub one_more_run : (bound : ℕ) (bytes runs : List ℕ) (n r : ℕ) → AreRuns bound bytes runs n → r ≡ run bound bytes n → AreRuns bound bytes (runs ++ r ∷ []) (n + 1)
one_more_run bound bytes runs n r all is = record {
  len = omega (arith, all.len, length-append runs (r ∷ []));
  each = λ left lt. elim (cases_lt left n) [
    | inl before ↦ get_or_append_left runs (r ∷ []) 0 left (omega (arith, before, all.len)) ∙ all.each left before
    | inr last ↦ (
        let here : left ≡ n = omega (arith, lt, last) in
        get_or_push runs r 0 left (omega (arith, all.len, here)) ∙ is ∙ ap (run bound bytes) (sym here))
  ];
}
