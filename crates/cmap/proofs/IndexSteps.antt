-- An index of segments as it grows.
use Rattle.std.proofs.Common.{◌≡◌, ℕ, ◌+◌, ◌-◌, ◌<◌, ◌≤◌, List, [], ◌∷◌, ◌++◌, length, get_or, max, Some, None, refl, ap, sym, ◌∙◌, arith, below_more, length-append}
use Rattle.std.proofs.lemmas.List.{get_or_append_left}
use Rattle.std.proofs.Math.Seq.{get_or-append_seam}
use Rattle.cmap.specs.Segments.{end_code, in_segment, by_segments}
use Rattle.cmap.specs.Index.{IsIndex}
use Rattle.cmap.proofs.Steps.{segments_here, segments_on}

-- the greatest of the first end codes, of which the last is `top`
pub record IsRunning (table : List ℕ) (n i : ℕ) (tops : List ℕ) (top : ℕ) : Type 0 where
  pub count : length tops ≡ i
  pub below : (j : ℕ) → j < i → get_or tops j 0 ≤ top
  pub ascends : (j k : ℕ) → j ≤ k → k < i → get_or tops j 0 ≤ get_or tops k 0
  pub reach : (c : ℕ) → ((j : ℕ) → j < i → get_or tops j 0 < c) → c ≤ top → c ≡ 0
  pub skips : (c : ℕ) → ((j : ℕ) → j < i → get_or tops j 0 < c) → by_segments table n n 0 c ≡ by_segments table n (n - i) i c
  pub found : (c k : ℕ) → k < i → c ≤ get_or tops k 0 → ((j : ℕ) → j < k → get_or tops j 0 < c) → by_segments table n n 0 c ≡ in_segment table n k c

pub running_start : (table : List ℕ) (n : ℕ) → IsRunning table n 0 [] 0
running_start table n = record {
  count = refl;
  below = λ j h. omega arith;
  ascends = λ j k l h. omega arith;
  reach = λ c b h. omega arith;
  skips = λ c b. let same : n ≡ n - 0 = omega arith in ap (λ k. by_segments table n k 0 c) same;
  found = λ c k h. absurd (omega arith);
}

module _ (table : List ℕ) (n i : ℕ) (tops : List ℕ) (top e : ℕ) (r : IsRunning table n i tops top) (more : i < n) (ends : end_code table i ≡ Some e) where
  abbrev next : List ℕ
  next = tops ++ max e top ∷ []

  old : (j : ℕ) → j < i → get_or next j 0 ≡ get_or tops j 0
  old j h = get_or_append_left tops (max e top ∷ []) 0 j (omega (arith, r.count))

  new : get_or next i 0 ≡ max e top
  new = ap (λ k. get_or next k 0) (sym r.count) ∙ get_or-append_seam tops (max e top) [] 0

  earlier : (c k : ℕ) → k ≤ i → ((j : ℕ) → j < k → get_or next j 0 < c) → (j : ℕ) → j < k → get_or tops j 0 < c
  earlier c k l b j h = let was = old j (omega arith) in let now = b j h in omega (arith, was, now)

  next_below : (j : ℕ) → j < i + 1 → get_or next j 0 ≤ max e top
  next_below j h = grind (arith, old, new, r.below)

  next_ascends : (j k : ℕ) → j ≤ k → k < i + 1 → get_or next j 0 ≤ get_or next k 0
  next_ascends j k l h = grind (arith, old, new, r.below, r.ascends)

  next_reach : (c : ℕ) → ((j : ℕ) → j < i + 1 → get_or next j 0 < c) → c ≤ max e top → c ≡ 0
  next_reach c b h = let here = b i (omega arith) in omega (arith, here, new, h)

  next_skips : (c : ℕ) → ((j : ℕ) → j < i + 1 → get_or next j 0 < c) → by_segments table n n 0 c ≡ by_segments table n (n - (i + 1)) (i + 1) c
  next_skips c b =
      let here = b i (omega arith) in
      let above : e < c = omega (arith, here, new) in
      r.skips c (earlier c i (omega arith) (λ j h. b j (omega arith))) ∙ segments_on table n i c ends above more

  inside : (c m : ℕ) → m ≡ max e top → c ≤ m → (c ≤ top → c ≡ 0) → c ≤ e
  inside c m is h low = grind arith

  abbrev Found : ℕ → ℕ → Type 0
  Found c k = c ≤ get_or next k 0 → ((j : ℕ) → j < k → get_or next j 0 < c) → by_segments table n n 0 c ≡ in_segment table n k c

  found_before : (c k : ℕ) → k < i → Found c k
  found_before c k small l b = let same = old k small in r.found c k small (omega (arith, same)) (earlier c k (omega arith) b)

  found_here : (c : ℕ) → Found c i
  found_here c l b =
      let before : (j : ℕ) → j < i → get_or tops j 0 < c = earlier c i (omega arith) b in
      r.skips c before ∙ segments_here table n i c ends (inside c (get_or next i 0) new l (r.reach c before)) more

  next_found : (c k : ℕ) → k < i + 1 → Found c k
  next_found c = below_more (Found c) i (found_before c) (found_here c)

  pub running_more : IsRunning table n (i + 1) next (max e top)
  running_more = record {
    count = length-append tops (max e top ∷ []) ∙ ap (λ k. k + 1) r.count;
    below = next_below;
    ascends = next_ascends;
    reach = next_reach;
    skips = next_skips;
    found = next_found;
  }

module _ (table : List ℕ) (n i : ℕ) (tops : List ℕ) (top : ℕ) (r : IsRunning table n i tops top) (within : i ≤ n) (last : (c : ℕ) → by_segments table n (n - i) i c ≡ None) where
  pub running_ends : IsIndex table n tops
  running_ends = record {
    few = omega (arith, r.count);
    ascends = λ j k l h. r.ascends j k l (omega (arith, r.count));
    found = λ c k h. r.found c k (omega (arith, r.count));
    none = λ c b. r.skips c (λ j h. b j (omega (arith, r.count))) ∙ last c;
  }
