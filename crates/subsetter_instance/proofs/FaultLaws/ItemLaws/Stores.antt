-- An item variation store is refused exactly where it has a fault.
--   offset_some, offset_none, tail_some, tail_none   offsets, and the bytes after them
--   store_steps, store_refused, other_store, store_clean
use Rattle.std.proofs.Common.{◌≡◌, ◌≢◌, ℕ, ◌+◌, ◌*◌, ◌<◌, ◌≤◌, cond, List, length, drop, Option, Some, None, refl, sym, ap, subst, ◌∙◌, ◌⊎◌, inl, inr, arith}
use Rattle.std.specs.Prelude.{◌==◌, nat_le}
use Rattle.std.proofs.lemmas.Bool.{eqb-false, eqb-true, leb-false, leb-true}
use Rattle.subsetter_base.specs.Bytes.{number, range, from_offset}
use Rattle.subsetter_base.proofs.ByteLemmas.{number-fits, number-short, range-fits, range-length, range-short}
use Rattle.subsetter_base.proofs.Options.{bind_some, just_is}
use Rattle.subsetter_base.specs.Options.{◌>>=◌}
use Rattle.subsetter_variation.specs.Items.ItemVariations.{Store, item_store, nullable_offset}
use Rattle.subsetter_instance.specs.Faults.ItemFault.{HasStoreFault, cut_store, other_format, no_regions, cut_region_counts, cut_regions, other_region_axes}
use Rattle.subsetter_instance.proofs.FaultLaws.Parts.{bind_none, if_none, if_some, not_long, some_is_not, unless_none, unless_some}

-- ---- offsets

-- an offset that isn't 0
pub offset_some : (bytes : List ℕ) (at n : ℕ) → nullable_offset bytes at ≡ Some n → (number bytes at 4 ≡ Some n) × (n ≢ 0)
offset_some bytes at n h =
    let a = bind_some (number bytes at 4) (λ offset. cond (offset == 0) None (Some offset)) n h in
    let b = unless_some (a.0 == 0) (Some a.0) n a.2 in
    let same : a.0 ≡ n = just_is a.0 n b.1 in
    (a.1 ∙ ap (λ (k : ℕ). Some k) same, λ z. eqb-false a.0 0 b.0 (same ∙ z))

pub offset_none : (bytes : List ℕ) (at : ℕ) → nullable_offset bytes at ≡ None → (length bytes < at + 4) ⊎ (number bytes at 4 ≡ Some 0)
offset_none bytes at h =
    elim (bind_none (number bytes at 4) (λ offset. cond (offset == 0) None (Some offset)) h) [
      | inl k ↦ inl (number-short bytes at 4 k)
      | inr a ↦ elim (unless_none (a.0 == 0) (Some a.0) a.2) [
        | inl k ↦ inr (a.1 ∙ ap (λ (n : ℕ). Some n) (eqb-true a.0 0 k))
        | inr k ↦ absurd (some_is_not a.0 k.1)
      ]
    ]

pub tail_some : (bytes rest : List ℕ) (at : ℕ) → from_offset bytes at ≡ Some rest → (at ≤ length bytes) × (drop at bytes ≡ rest)
tail_some bytes rest at h = let p = if_some (nat_le at (length bytes)) (Some (drop at bytes)) rest h in (leb-true at (length bytes) p.0, just_is (drop at bytes) rest p.1)

pub tail_none : (bytes : List ℕ) (at : ℕ) → from_offset bytes at ≡ None → length bytes < at
tail_none bytes at h = elim (if_none (nat_le at (length bytes)) (Some (drop at bytes)) h) [
  | inl k ↦ leb-false at (length bytes) k
  | inr k ↦ absurd (some_is_not (drop at bytes) k.1)
]

-- ---- stores

module _ (bytes : List ℕ) where
  abbrev made_store : ℕ → ℕ → ℕ → List ℕ → Option Store
  made_store format axis_count region_count regions = cond (format == 1) (Some (record { axis_count = axis_count; region_count = region_count; regions = regions; bytes = bytes })) None

  abbrev after_count : ℕ → ℕ → ℕ → ℕ → Option Store
  after_count format at axis_count region_count = range bytes (at + 4) (region_count * (axis_count * 6)) >>= made_store format axis_count region_count

  abbrev after_axes : ℕ → ℕ → ℕ → Option Store
  after_axes format at axis_count = number bytes (at + 2) 2 >>= after_count format at axis_count

  abbrev after_at : ℕ → ℕ → Option Store
  after_at format at = number bytes at 2 >>= after_axes format at

  abbrev after_format : ℕ → Option Store
  after_format format = nullable_offset bytes 2 >>= after_at format

  store_in_turn : item_store bytes ≡ (number bytes 0 2 >>= after_format)
  unfolding item_store
  store_in_turn = refl

  pub record StoreSteps (s : Store) : Type 0 where
    pub format_is : number bytes 0 2 ≡ Some 1
    pub at : ℕ
    pub at_is : number bytes 2 4 ≡ Some at
    pub not_null : at ≢ 0
    pub axes_are : number bytes at 2 ≡ Some s.axis_count
    pub count_is : number bytes (at + 2) 2 ≡ Some s.region_count
    pub fits : at + 4 + s.region_count * (s.axis_count * 6) ≤ length bytes
    pub regions : length s.regions ≡ s.region_count * (s.axis_count * 6)
    pub same : bytes ≡ s.bytes

  pub store_steps : (s : Store) → item_store bytes ≡ Some s → StoreSteps s
  store_steps s h =
      let a = bind_some (number bytes 0 2) after_format s (sym store_in_turn ∙ h) in
      let b = bind_some (nullable_offset bytes 2) (after_at a.0) s a.2 in
      let c = bind_some (number bytes b.0 2) (after_axes a.0 b.0) s b.2 in
      let d = bind_some (number bytes (b.0 + 2) 2) (after_count a.0 b.0 c.0) s c.2 in
      let e = bind_some (range bytes (b.0 + 4) (d.0 * (c.0 * 6))) (made_store a.0 c.0 d.0) s d.2 in
      let made : Store = record { axis_count = c.0; region_count = d.0; regions = e.0; bytes = bytes } in
      let f = if_some (a.0 == 1) (Some made) s e.2 in
      let is : made ≡ s = just_is made s f.1 in
      let o = offset_some bytes 2 b.0 b.1 in
      let first : StoreSteps made = record {
        format_is = a.1 ∙ ap (λ (n : ℕ). Some n) (eqb-true a.0 1 f.0);
        at = b.0;
        at_is = o.0;
        not_null = o.1;
        axes_are = c.1;
        count_is = d.1;
        fits = range-fits bytes e.0 (b.0 + 4) (d.0 * (c.0 * 6)) e.1;
        regions = range-length bytes e.0 (b.0 + 4) (d.0 * (c.0 * 6)) e.1;
        same = refl;
      } in
      subst StoreSteps is first

  module _ (axes : ℕ) where
    pub store_refused : item_store bytes ≡ None → HasStoreFault axes bytes
    store_refused h =
        elim (bind_none (number bytes 0 2) after_format (sym store_in_turn ∙ h)) [
          | inl k ↦ cut_store (let less = number-short bytes 0 2 k in omega arith)
          | inr a ↦ elim (bind_none (nullable_offset bytes 2) (after_at a.0) a.2) [
            | inl k ↦ elim (offset_none bytes 2 k) [ inl less ↦ cut_store less | inr null ↦ no_regions null ]
            | inr b ↦ let o = offset_some bytes 2 b.0 b.1 in elim (bind_none (number bytes b.0 2) (after_axes a.0 b.0) b.2) [
              | inl k ↦ cut_region_counts b.0 o.0 (let less = number-short bytes b.0 2 k in omega arith)
              | inr c ↦ elim (bind_none (number bytes (b.0 + 2) 2) (after_count a.0 b.0 c.0) c.2) [
                | inl k ↦ cut_region_counts b.0 o.0 (let less = number-short bytes (b.0 + 2) 2 k in omega arith)
                | inr d ↦ elim (bind_none (range bytes (b.0 + 4) (d.0 * (c.0 * 6))) (made_store a.0 c.0 d.0) d.2) [
                  | inl k ↦ cut_regions b.0 c.0 d.0 o.0 c.1 d.1 (range-short bytes (b.0 + 4) (d.0 * (c.0 * 6)) k)
                  | inr e ↦ elim (if_none (a.0 == 1) (Some (let s : Store = record { axis_count = c.0; region_count = d.0; regions = e.0; bytes = bytes } in s)) e.2) [
                    | inl k ↦ other_format a.0 a.1 (eqb-false a.0 1 k)
                    | inr k ↦ absurd (some_is_not (let s : Store = record { axis_count = c.0; region_count = d.0; regions = e.0; bytes = bytes } in s) k.1)
                  ]
                ]
              ]
            ]
          ]
        ]

    pub other_store : (s : Store) → item_store bytes ≡ Some s → s.axis_count ≢ axes → HasStoreFault axes bytes
    other_store s h other = let t = store_steps s h in other_region_axes t.at s.axis_count t.at_is t.axes_are other

    pub store_clean : (s : Store) → item_store bytes ≡ Some s → s.axis_count ≡ axes → HasStoreFault axes bytes → ⊥
    store_clean s h same f = by (store_steps s h) f
      where
        by : StoreSteps s → HasStoreFault axes bytes → ⊥
        by t (cut_store less) = not_long bytes 2 4 t.at less t.at_is
        by t (other_format format is other) = other (just_is format 1 (sym is ∙ t.format_is))
        by t (no_regions is) = t.not_null (just_is t.at 0 (sym t.at_is ∙ is))
        by t (cut_region_counts at is less) =
            let x : at ≡ t.at = just_is at t.at (sym is ∙ t.at_is) in
            let fits = number-fits bytes (t.at + 2) 2 s.region_count t.count_is in
            omega arith
        by t (cut_regions at axis_count count at_is axis_count_is count_is less) =
            let x : at ≡ t.at = just_is at t.at (sym at_is ∙ t.at_is) in
            let y : axis_count ≡ s.axis_count = just_is axis_count s.axis_count (sym axis_count_is ∙ ap (λ (n : ℕ). number bytes n 2) x ∙ t.axes_are) in
            let z : count ≡ s.region_count = just_is count s.region_count (sym count_is ∙ ap (λ (n : ℕ). number bytes (n + 2) 2) x ∙ t.count_is) in
            let fits : at + 4 + count * (axis_count * 6) ≤ length bytes = rw (x, y, z) t.fits in
            omega arith
        by t (other_region_axes at axis_count at_is axis_count_is other) =
            let x : at ≡ t.at = just_is at t.at (sym at_is ∙ t.at_is) in
            other (just_is axis_count s.axis_count (sym axis_count_is ∙ ap (λ (n : ℕ). number bytes n 2) x ∙ t.axes_are) ∙ same)
