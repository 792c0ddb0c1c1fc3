-- Groups that are passed, and the one that is found.
use Rattle.std.proofs.Common.{◌≡◌, ℕ, zero, suc, ◌+◌, ◌-◌, ◌*◌, ◌<◌, ◌≤◌, Bool, true, false, List, take, drop, length, Option, Some, None, refl, ap, ◌∙◌, arith}
use Rattle.std.specs.Prelude.{nat_le, nat_lt, ◌&&◌, if◌then◌else◌}
use Rattle.subsetter_base.specs.Bytes.{range}
use Rattle.cmap.specs.Groups.{Group, group_at, has, in_range, by_groups}
use Rattle.cmap.specs.Halves.{AreThere, AreAscending}
use Rattle.cmap.proofs.Steps.{groups_none, groups_here, groups_on, groups_end}

taken : (b : Bool) (x y : Option (List ℕ)) → b ≡ true → (if b then x else y) ≡ x
taken true x y h = refl
taken false x y h = grind arith

missed : (b : Bool) (x y : Option (List ℕ)) → b ≡ false → (if b then x else y) ≡ y
missed false x y h = refl
missed true x y h = grind arith

-- bytes that are there, and those that aren't
pub range_there : (table : List ℕ) (at size : ℕ) → at + size ≤ length table → range table at size ≡ Some (take size (drop at table))
range_there table at size h = taken (nat_le (at + size) (length table)) (Some (take size (drop at table))) None (grind arith)

pub range_cut : (table : List ℕ) (at size : ℕ) → length table < at + size → range table at size ≡ None
range_cut table at size h = missed (nat_le (at + size) (length table)) (Some (take size (drop at table))) None (grind arith)

neither : (a b : Bool) → b ≡ false → (a && b) ≡ false
neither true b h = h
neither false b h = refl

-- a group that ends below a character, and one that starts above it
pub ends_below : (g : Group) (c : ℕ) → g.end < c → has g c ≡ false
ends_below g c h = let above : nat_le c g.end ≡ false = grind arith in neither (nat_le g.start c) (nat_le c g.end) above

pub starts_above : (g : Group) (c : ℕ) → c < g.start → has g c ≡ false
starts_above g c h = let below : nat_le g.start c ≡ false = grind arith in ap (λ b. b && nat_le c g.end) below

pub is_inside : (g : Group) (c : ℕ) → g.start ≤ c → c ≤ g.end → has g c ≡ true
is_inside g c l h =
    let low : nat_le g.start c ≡ true = grind arith in
    let high : nat_le c g.end ≡ true = grind arith in
    ap (λ b. b && nat_le c g.end) low ∙ high

module _ (table : List ℕ) (n c : ℕ) where
  pub found_at : (i : ℕ) → 16 + 12 * i + 12 ≤ length table → has (group_at table i) c ≡ true → i < n → by_groups table (n - i) (16 + 12 * i) c ≡ in_range ((group_at table i).glyph + (c - (group_at table i).start))
  unfolding group_at
  found_at i room h l = groups_here table n i c (range_there table (16 + 12 * i) 12 room) h l

  pub passed_at : (i : ℕ) → 16 + 12 * i + 12 ≤ length table → has (group_at table i) c ≡ false → i < n → by_groups table (n - i) (16 + 12 * i) c ≡ by_groups table (n - (i + 1)) (16 + 12 * (i + 1)) c
  unfolding group_at
  passed_at i room h l = groups_on table n i c (range_there table (16 + 12 * i) 12 room) h l

module _ (table : List ℕ) (n there c : ℕ) (t : AreThere table n there) where
  pub skipped : (i : ℕ) → i ≤ there → ((j : ℕ) → j < i → has (group_at table j) c ≡ false) → by_groups table n 16 c ≡ by_groups table (n - i) (16 + 12 * i) c
  skipped zero h b = let same : n ≡ n - 0 = omega arith in ap (λ k. by_groups table k 16 c) same
  skipped (suc i) h b =
      let next : i + 1 ≡ suc i = omega arith in
      skipped i (omega arith) (λ j l. b j (omega arith))
      ∙ passed_at table n c i (t.room i (omega arith)) (b i (omega arith)) (let few = t.few in omega arith)
      ∙ ap (λ k. by_groups table (n - k) (16 + 12 * k) c) next

  last : by_groups table (n - there) (16 + 12 * there) c ≡ None
  last = last_by (n - there) refl where
    last_by : (k : ℕ) → n - there ≡ k → by_groups table (n - there) (16 + 12 * there) c ≡ None
    last_by zero h = groups_end table n there c (omega arith)
    last_by (suc k) h = let more : there < n = omega arith in groups_none table n there c (t.cut more) more

  pub never : ((j : ℕ) → j < there → has (group_at table j) c ≡ false) → by_groups table n 16 c ≡ None
  never b = skipped there (omega arith) b ∙ last

  pub first_found : (i : ℕ) → i < there → ((j : ℕ) → j < i → (group_at table j).end < c) → (group_at table i).start ≤ c → c ≤ (group_at table i).end → by_groups table n 16 c ≡ in_range ((group_at table i).glyph + (c - (group_at table i).start))
  first_found i h b l e =
      skipped i (omega arith) (λ j k. ends_below (group_at table j) c (b j k))
      ∙ found_at table n c i (t.room i h) (is_inside (group_at table i) c l e) (let few = t.few in omega arith)

  pub all_below : ((j : ℕ) → j < there → (group_at table j).end < c) → by_groups table n 16 c ≡ None
  all_below b = never (λ j h. ends_below (group_at table j) c (b j h))

  -- groups that ascend: all of those before a place end below a character, and that at the place starts above it
  between : AreAscending table there → (i : ℕ) → i < there → ((j : ℕ) → j < i → (group_at table j).end < c) → c < (group_at table i).start → (j : ℕ) → j < there → has (group_at table j) c ≡ false
  between a i h b l j k = by_place (nat_lt j i) refl where
    by_place : (before : Bool) → nat_lt j i ≡ before → has (group_at table j) c ≡ false
    by_place true e = ends_below (group_at table j) c (b j (grind arith))
    by_place false e = let later : i ≤ j = grind arith in let order = a.starts i j later k in starts_above (group_at table j) c (omega (arith, order, l))

  pub none_between : AreAscending table there → (i : ℕ) → i < there → ((j : ℕ) → j < i → (group_at table j).end < c) → c < (group_at table i).start → by_groups table n 16 c ≡ None
  none_between a i h b l = never (between a i h b l)
