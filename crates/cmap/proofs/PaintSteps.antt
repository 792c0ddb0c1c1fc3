-- Characters that groups give glyphs to.
use Rattle.std.proofs.Common.{◌≡◌, ◌≢◌, ℕ, ◌+◌, ◌-◌, ◌*◌, ◌<◌, ◌≤◌, Bool, true, false, List, length, get_or, Some, None, refl, ap, sym, ◌∙◌, subst, arith, set, length-set, get_or-set_other, get_or-set_same}
use Rattle.std.specs.Prelude.{nat_eq, nat_lt}
use Rattle.std.specs.Option.{unwrap_or}
use Rattle.subsetter_base.specs.Bytes.{range}
use Rattle.cmap.specs.Groups.{Group, group_of, has, in_range, by_groups}
use Rattle.cmap.specs.Painting.{AreAll, IsPainted}
use Rattle.cmap.specs.Passed.{IsLeading}
use Rattle.cmap.proofs.GroupSteps.{ends_below, is_inside, starts_above}
use Rattle.cmap.proofs.Steps.{groups_here, groups_on}

module _ (table : List ℕ) (n i : ℕ) (next glyphs : List ℕ) (p : IsPainted table n i next glyphs) where
  was_passed : (then : List ℕ) → ((q : ℕ) → q < length next → get_or next q 0 ≡ q → get_or then q 0 ≡ q) → (q : ℕ) → q < 1114112 → q < get_or then q 0 → q < get_or next q 0
  was_passed then o q h l =
      let inside : q < length next = omega (arith, p.places, h) in
      let onward = p.leading.onward q inside in
      let same = o q inside in
      grind (arith, onward, same)

  was_open : (then : List ℕ) → ((q : ℕ) → q < length next → q < get_or next q 0 → q < get_or then q 0) → (q : ℕ) → q < 1114112 → get_or then q 0 ≡ q → get_or next q 0 ≡ q
  was_open then o q h l =
      let inside : q < length next = omega (arith, p.places, h) in
      let onward = p.leading.onward q inside in
      let same = o q inside in
      grind (arith, onward, same)

  pub painted_on : (then : List ℕ) → IsLeading then → length then ≡ length next → ((q : ℕ) → q < length next → get_or next q 0 ≡ q → get_or then q 0 ≡ q) → ((q : ℕ) → q < length next → q < get_or next q 0 → q < get_or then q 0) → IsPainted table n i then glyphs
  painted_on then l e o q = record {
    leading = l;
    places = e ∙ p.places;
    count = p.count;
    end = o 1114112 (omega (arith, p.places)) p.end;
    passed = λ k h m. p.passed k h (was_passed then o k h m);
    blank = λ k h m. p.blank k h (was_open then q k h m);
    left = λ k h m. p.left k h (was_open then q k h m);
  }

  module _ (at v : ℕ) (inside : at < 1114112) (itself : get_or next at 0 ≡ at) (value : v ≡ unwrap_or (by_groups table n 16 at) 0) where
    abbrev then : List ℕ
    then = set next at (at + 1)

    abbrev now : List ℕ
    now = set glyphs at v

    same_next : (q : ℕ) → q ≢ at → get_or then q 0 ≡ get_or next q 0
    same_next q d = get_or-set_other next at q (at + 1) 0 d

    same_glyph : (q : ℕ) → q ≢ at → get_or now q 0 ≡ get_or glyphs q 0
    same_glyph q d = get_or-set_other glyphs at q v 0 d

    then_at : get_or then at 0 ≡ at + 1
    then_at = get_or-set_same next at (at + 1) 0 (omega (arith, p.places))

    now_at : get_or now at 0 ≡ v
    now_at = get_or-set_same glyphs at v 0 (omega (arith, p.count))

    not_at : (q : ℕ) → get_or then q 0 ≡ q → q ≢ at
    not_at q h e = let here : get_or then at 0 ≡ at = subst (λ (k : ℕ). get_or then k 0 ≡ k) e h in absurd (omega (arith, here, then_at))

    then_passed : (q : ℕ) → q < 1114112 → q < get_or then q 0 → get_or now q 0 ≡ unwrap_or (by_groups table n 16 q) 0
    then_passed q h l = by_place (nat_eq q at) refl where
      by_place : (same : Bool) → nat_eq q at ≡ same → get_or now q 0 ≡ unwrap_or (by_groups table n 16 q) 0
      by_place true e =
          let is : at ≡ q = grind arith in
          subst (λ (k : ℕ). get_or now k 0 ≡ unwrap_or (by_groups table n 16 k) 0) is (now_at ∙ value)
      by_place false e =
          let d : q ≢ at = grind arith in
          same_glyph q d ∙ p.passed q h (subst (λ (m : ℕ). q < m) (same_next q d) l)

    pub painted_one : IsLeading then → IsPainted table n i then now
    painted_one l = record {
      leading = l;
      places = length-set next at (at + 1) ∙ p.places;
      count = length-set glyphs at v ∙ p.count;
      end = let d : 1114112 ≢ at = omega arith in same_next 1114112 d ∙ p.end;
      passed = then_passed;
      blank = λ q h o. let d = not_at q o in same_glyph q d ∙ p.blank q h (sym (same_next q d) ∙ o);
      left = λ q h o. let d = not_at q o in p.left q h (sym (same_next q d) ∙ o);
    }

    pub walked_one : (first : ℕ) → ((q : ℕ) → first ≤ q → q < at → q < get_or next q 0) → (q : ℕ) → first ≤ q → q < at + 1 → q < get_or then q 0
    walked_one first w q l h = by_place (nat_eq q at) refl where
      by_place : (same : Bool) → nat_eq q at ≡ same → q < get_or then q 0
      by_place true e =
          let is : at ≡ q = grind arith in
          subst (λ (k : ℕ). k < get_or then k 0) is (omega (arith, then_at))
      by_place false e =
          let d : q ≢ at = grind arith in
          let same = same_next q d in
          let was = w q l (omega (arith, d)) in
          omega (arith, same, was)

  module _ (bytes : List ℕ) (more : i < n) (there : range table (16 + 12 * i) 12 ≡ Some bytes) where
    abbrev group : Group
    group = group_of bytes

    -- the glyph that the group gives an open character of its own
    pub glyph_here : (at : ℕ) → at < 1114112 → get_or next at 0 ≡ at → group.start ≤ at → at ≤ group.end → in_range (group.glyph + (at - group.start)) ≡ by_groups table n 16 at
    glyph_here at h o l e = sym (p.left at h o ∙ groups_here table n i at there (is_inside group at l e) more)

    module _ (first at : ℕ) (start : first ≤ group.start) (walked : (q : ℕ) → first ≤ q → q < at → q < get_or next q 0) (ended : (q : ℕ) → q < 1114112 → q ≤ group.end → q < at) where
      outside : (q : ℕ) → q < 1114112 → get_or next q 0 ≡ q → has group q ≡ false
      outside q h o = by_place (nat_lt q group.start) refl where
        by_place : (before : Bool) → nat_lt q group.start ≡ before → has group q ≡ false
        by_place true e = starts_above group q (grind arith)
        by_place false e =
            let low : group.start ≤ q = grind arith in
            let w : q < at → q < get_or next q 0 = walked q (omega arith) in
            let m : q ≤ group.end → q < at = ended q h in
            let above : group.end < q = grind (arith, w, m, o) in
            ends_below group q above

      pub painted_next : IsPainted table n (i + 1) next glyphs
      painted_next = record {
        leading = p.leading;
        places = p.places;
        count = p.count;
        end = p.end;
        passed = p.passed;
        blank = p.blank;
        left = λ q h o. p.left q h o ∙ groups_on table n i q there (outside q h o) more;
      }

  pub painted_end : ((q : ℕ) → by_groups table (n - i) (16 + 12 * i) q ≡ None) → AreAll table n glyphs
  painted_end none = record { count = p.count; each = λ q h. by_place q h (nat_eq (get_or next q 0) q) refl } where
    by_place : (q : ℕ) → q < 1114112 → (same : Bool) → nat_eq (get_or next q 0) q ≡ same → get_or glyphs q 0 ≡ unwrap_or (by_groups table n 16 q) 0
    by_place q h true e = let o : get_or next q 0 ≡ q = grind arith in p.blank q h o ∙ sym (ap (λ m. unwrap_or m 0) (p.left q h o ∙ none q))
    by_place q h false e =
        let onward = p.leading.onward q (omega (arith, p.places, h)) in
        let d : get_or next q 0 ≢ q = grind arith in
        p.passed q h (omega (arith, onward, d))

-- what was passed before a place and what is passed from there on
pub walked_on : (next then : List ℕ) (first at to : ℕ) → ((q : ℕ) → first ≤ q → q < at → q < get_or next q 0) → ((q : ℕ) → q < at → q < get_or next q 0 → q < get_or then q 0) → ((q : ℕ) → at ≤ q → q < to → q < get_or then q 0) → (q : ℕ) → first ≤ q → q < to → q < get_or then q 0
walked_on next then first at to w s p q l h = by_place (nat_lt q at) refl where
  by_place : (before : Bool) → nat_lt q at ≡ before → q < get_or then q 0
  by_place true e = let b : q < at = grind arith in s q b (w q l b)
  by_place false e = p q (grind arith) h

pub painted_start : (table : List ℕ) (n : ℕ) (next glyphs : List ℕ) → length next ≡ 1114112 + 1 → ((k : ℕ) → k < 1114112 + 1 → get_or next k 0 ≡ k) → length glyphs ≡ 1114112 → ((k : ℕ) → get_or glyphs k 0 ≡ 0) → IsPainted table n 0 next glyphs
painted_start table n next glyphs l o e z = record {
  leading = record {
    inside = λ p h. let is = o p (omega (arith, l, h)) in omega (arith, is, h);
    onward = λ p h. let is = o p (omega (arith, l, h)) in omega (arith, is, h);
    passed = λ p q h b m. let is = o p (omega (arith, l, h)) in absurd (omega (arith, is, b, m));
  };
  places = l;
  count = e;
  end = o 1114112 (omega arith);
  passed = λ q h m. let is = o q (omega (arith, h)) in absurd (omega (arith, is, m));
  blank = λ q h m. z q;
  left = λ q h m. let same : n ≡ n - 0 = omega arith in ap (λ k. by_groups table k 16 q) same;
}
