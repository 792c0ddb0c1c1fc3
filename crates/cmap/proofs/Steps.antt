-- One more step of each search.
use Rattle.std.proofs.Common.{◌≡◌, ℕ, suc, ◌+◌, ◌-◌, ◌*◌, ◌<◌, ◌≤◌, Bool, true, false, List, Option, Some, None, refl, ap, ◌∙◌, arith}
use Rattle.std.specs.Prelude.{nat_le, if◌then◌else◌}
use Rattle.std.specs.Option.{option_and_then}
use Rattle.subsetter_base.specs.Bytes.{range}
use Rattle.cmap.specs.Groups.{group_of, has, in_range, by_groups}
use Rattle.cmap.specs.Segments.{end_code, in_segment, by_segments}
use Rattle.cmap.specs.Subtable.{unicode_table, table_from}
use Rattle.subsetter_base.specs.Options.{first_of}

-- how many are left
left : (n i : ℕ) → i < n → n - i ≡ suc (n - (i + 1))
left n i h = omega arith

none_left : (n i : ℕ) → n ≤ i → n - i ≡ 0
none_left n i h = omega arith

chosen : (b : Bool) (x y : Option ℕ) → b ≡ true → (if b then x else y) ≡ x
chosen true x y h = refl
chosen false x y h = grind arith

passed : (b : Bool) (x y : Option ℕ) → b ≡ false → (if b then x else y) ≡ y
passed false x y h = refl
passed true x y h = grind arith

module _ (table : List ℕ) (n i c : ℕ) where
  abbrev after_end : ℕ → Option ℕ
  after_end e = if nat_le c e then in_segment table n i c else by_segments table n (n - (i + 1)) (i + 1) c

  segments_step : i < n → by_segments table n (n - i) i c ≡ option_and_then after_end (end_code table i)
  unfolding by_segments
  segments_step h = ap (λ k. by_segments table n k i c) (left n i h)

  pub segments_none : end_code table i ≡ None → i < n → by_segments table n (n - i) i c ≡ None
  segments_none s h = segments_step h ∙ ap (option_and_then after_end) s

  pub segments_here : {e : ℕ} → end_code table i ≡ Some e → c ≤ e → i < n → by_segments table n (n - i) i c ≡ in_segment table n i c
  segments_here {e} s l h = segments_step h ∙ (ap (option_and_then after_end) s ∙ chosen (nat_le c e) (in_segment table n i c) (by_segments table n (n - (i + 1)) (i + 1) c) (grind arith))

  pub segments_on : {e : ℕ} → end_code table i ≡ Some e → e < c → i < n → by_segments table n (n - i) i c ≡ by_segments table n (n - (i + 1)) (i + 1) c
  segments_on {e} s l h = segments_step h ∙ (ap (option_and_then after_end) s ∙ passed (nat_le c e) (in_segment table n i c) (by_segments table n (n - (i + 1)) (i + 1) c) (grind arith))

  pub segments_end : n ≤ i → by_segments table n (n - i) i c ≡ None
  unfolding by_segments
  segments_end h = ap (λ k. by_segments table n k i c) (none_left n i h)

  abbrev after_group : List ℕ → Option ℕ
  after_group bytes = let g = group_of bytes in if has g c then in_range (g.glyph + (c - g.start)) else by_groups table (n - (i + 1)) (16 + 12 * (i + 1)) c

  groups_step : i < n → by_groups table (n - i) (16 + 12 * i) c ≡ option_and_then after_group (range table (16 + 12 * i) 12)
  unfolding by_groups
  groups_step h =
      let next : 16 + 12 * i + 12 ≡ 16 + 12 * (i + 1) = omega arith in
      ap (λ k. by_groups table k (16 + 12 * i) c) (left n i h) ∙ ap (λ at. option_and_then (λ bytes. let g = group_of bytes in if has g c then in_range (g.glyph + (c - g.start)) else by_groups table (n - (i + 1)) at c) (range table (16 + 12 * i) 12)) next

  pub groups_none : range table (16 + 12 * i) 12 ≡ None → i < n → by_groups table (n - i) (16 + 12 * i) c ≡ None
  groups_none s h = groups_step h ∙ ap (option_and_then after_group) s

  pub groups_here : {bytes : List ℕ} → range table (16 + 12 * i) 12 ≡ Some bytes → has (group_of bytes) c ≡ true → i < n → by_groups table (n - i) (16 + 12 * i) c ≡ in_range ((group_of bytes).glyph + (c - (group_of bytes).start))
  groups_here {bytes} s l h = groups_step h ∙ (ap (option_and_then after_group) s ∙ chosen (has (group_of bytes) c) (in_range ((group_of bytes).glyph + (c - (group_of bytes).start))) (by_groups table (n - (i + 1)) (16 + 12 * (i + 1)) c) l)

  pub groups_on : {bytes : List ℕ} → range table (16 + 12 * i) 12 ≡ Some bytes → has (group_of bytes) c ≡ false → i < n → by_groups table (n - i) (16 + 12 * i) c ≡ by_groups table (n - (i + 1)) (16 + 12 * (i + 1)) c
  groups_on {bytes} s l h = groups_step h ∙ (ap (option_and_then after_group) s ∙ passed (has (group_of bytes) c) (in_range ((group_of bytes).glyph + (c - (group_of bytes).start))) (by_groups table (n - (i + 1)) (16 + 12 * (i + 1)) c) l)

  pub groups_end : n ≤ i → by_groups table (n - i) (16 + 12 * i) c ≡ None
  unfolding by_groups
  groups_end h = ap (λ k. by_groups table k (16 + 12 * i) c) (none_left n i h)

module _ (format : ℕ) (cmap : List ℕ) (n i : ℕ) where
  tables_step : i < n → table_from format cmap (n - i) (4 + 8 * i) ≡ first_of (unicode_table format cmap (4 + 8 * i)) (table_from format cmap (n - (i + 1)) (4 + 8 * (i + 1)))
  unfolding table_from
  tables_step h =
      let next : 4 + 8 * i + 8 ≡ 4 + 8 * (i + 1) = omega arith in
      ap (λ k. table_from format cmap k (4 + 8 * i)) (left n i h) ∙ ap (λ at. first_of (unicode_table format cmap (4 + 8 * i)) (table_from format cmap (n - (i + 1)) at)) next

  pub tables_here : {table : List ℕ} → unicode_table format cmap (4 + 8 * i) ≡ Some table → i < n → table_from format cmap (n - i) (4 + 8 * i) ≡ Some table
  tables_here s h = tables_step h ∙ ap (λ found. first_of found (table_from format cmap (n - (i + 1)) (4 + 8 * (i + 1)))) s

  pub tables_on : unicode_table format cmap (4 + 8 * i) ≡ None → i < n → table_from format cmap (n - i) (4 + 8 * i) ≡ table_from format cmap (n - (i + 1)) (4 + 8 * (i + 1))
  tables_on s h = tables_step h ∙ ap (λ found. first_of found (table_from format cmap (n - (i + 1)) (4 + 8 * (i + 1)))) s

  pub tables_end : n ≤ i → table_from format cmap (n - i) (4 + 8 * i) ≡ None
  unfolding table_from
  tables_end h = ap (λ k. table_from format cmap k (4 + 8 * i)) (none_left n i h)
