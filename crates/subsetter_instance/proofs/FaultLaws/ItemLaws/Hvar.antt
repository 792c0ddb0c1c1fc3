-- The item of a glyph's advance in HVAR is refused exactly where it has a fault.
use Rattle.std.proofs.Common.{◌≡◌, ◌≢◌, ℕ, ◌≤◌, Bool, true, false, cond, List, length, drop, Option, Some, None, ℤ, refl, sym, ap, subst, ◌∙◌, ◌⊎◌, inl, inr, arith}
use Rattle.std.specs.Prelude.{◌==◌, if◌then◌else◌}
use Rattle.std.proofs.lemmas.Bool.{eqb-false, eqb-true}
use Rattle.subsetter_base.specs.Bytes.{number, from_offset}
use Rattle.subsetter_base.proofs.ByteLemmas.{number-short}
use Rattle.subsetter_base.proofs.Options.{bind_some, just_is}
use Rattle.subsetter_base.specs.Options.{◌>>=◌}
use Rattle.subsetter_variation.specs.Items.ItemVariations.{Store, item_delta, item_store, nullable_offset}
use Rattle.subsetter_variation.specs.Items.Advances.{advance_delta, advance_index, mapped_index, store_of}
use Rattle.subsetter_instance.specs.Faults.ItemFault.{HasStoreFault, HasIndexedFault, HasMapFault, HasHvarFault, cut_hvar, no_store, far_store, in_store, far_map, in_map, in_item}
use Rattle.subsetter_instance.proofs.FaultLaws.Parts.{bind_none, if_none, if_some, not_long, some_is_not}
use Rattle.subsetter_instance.proofs.FaultLaws.ItemLaws.Stores.{offset_none, offset_some, other_store, store_clean, store_refused, tail_none, tail_some}
use Rattle.subsetter_instance.proofs.FaultLaws.ItemLaws.Rows.{item_clean, item_refused}
use Rattle.subsetter_instance.proofs.FaultLaws.ItemLaws.Maps.{map_clean, map_refused}

-- ---- HVAR

module _ (hvar : List ℕ) (axes : ℕ) where
  abbrev with_axes : Store → Option Store
  with_axes s = cond (s.axis_count == axes) (Some s) None

  abbrev after_store_bytes : List ℕ → Option Store
  after_store_bytes bytes = item_store bytes >>= with_axes

  abbrev after_store_at : ℕ → Option Store
  after_store_at at = from_offset hvar at >>= after_store_bytes

  hvar_in_turn : store_of hvar axes ≡ (nullable_offset hvar 4 >>= after_store_at)
  unfolding store_of
  hvar_in_turn = refl

  no_store_of : (g : ℕ) → store_of hvar axes ≡ None → HasHvarFault hvar axes g
  no_store_of g h =
      elim (bind_none (nullable_offset hvar 4) after_store_at (sym hvar_in_turn ∙ h)) [
        | inl k ↦ elim (offset_none hvar 4 k) [ inl less ↦ cut_hvar (omega arith) | inr null ↦ no_store null ]
        | inr a ↦ let o = offset_some hvar 4 a.0 a.1 in elim (bind_none (from_offset hvar a.0) after_store_bytes a.2) [
          | inl k ↦ far_store a.0 o.0 (tail_none hvar a.0 k)
          | inr b ↦ in_store a.0 o.0 (subst (HasStoreFault axes) (sym (tail_some hvar b.0 a.0 b.1).1) (by b.0 b.2))
        ]
      ]
    where
      by : (bytes : List ℕ) → after_store_bytes bytes ≡ None → HasStoreFault axes bytes
      by bytes k = elim (bind_none (item_store bytes) with_axes k) [
        | inl l ↦ store_refused bytes axes l
        | inr l ↦ elim (if_none (l.0.axis_count == axes) (Some l.0) l.2) [
          | inl m ↦ other_store bytes axes l.0 l.1 (eqb-false l.0.axis_count axes m)
          | inr m ↦ absurd (some_is_not l.0 m.1)
        ]
      ]

  record HvarSteps (s : Store) : Type 0 where
    at : ℕ
    at_is : number hvar 4 4 ≡ Some at
    not_null : at ≢ 0
    inside : at ≤ length hvar
    store_is : item_store (drop at hvar) ≡ Some s
    same : s.axis_count ≡ axes

  hvar_steps : (s : Store) → store_of hvar axes ≡ Some s → HvarSteps s
  hvar_steps s h =
      let a = bind_some (nullable_offset hvar 4) after_store_at s (sym hvar_in_turn ∙ h) in
      let o = offset_some hvar 4 a.0 a.1 in
      let b = bind_some (from_offset hvar a.0) after_store_bytes s a.2 in
      let t = tail_some hvar b.0 a.0 b.1 in
      let c = bind_some (item_store b.0) with_axes s b.2 in
      let d = if_some (c.0.axis_count == axes) (Some c.0) s c.2 in
      let same : c.0 ≡ s = just_is c.0 s d.1 in
      record {
        at = a.0;
        at_is = o.0;
        not_null = o.1;
        inside = t.0;
        store_is = ap item_store t.1 ∙ c.1 ∙ ap (λ (x : Store). Some x) same;
        same = ap (λ (x : Store). x.axis_count) (sym same) ∙ eqb-true c.0.axis_count axes d.0;
      }

  module _ (g : ℕ) where
    abbrev index_at : ℕ → Option (ℕ × ℕ)
    index_at at = if at == 0 then Some (0, g) else from_offset hvar at >>= λ map. mapped_index map g

    index_in_turn : advance_index hvar g ≡ (number hvar 8 4 >>= index_at)
    unfolding advance_index
    index_in_turn = refl

    no_index : advance_index hvar g ≡ None → HasHvarFault hvar axes g
    no_index h =
        elim (bind_none (number hvar 8 4) index_at (sym index_in_turn ∙ h)) [
          | inl k ↦ cut_hvar (number-short hvar 8 4 k)
          | inr a ↦ by a.0 a.1 (a.0 == 0) refl a.2
        ]
      where
        by : (at : ℕ) → number hvar 8 4 ≡ Some at → (b : Bool) → (at == 0) ≡ b → cond b (Some (0, g)) (from_offset hvar at >>= λ map. mapped_index map g) ≡ None → HasHvarFault hvar axes g
        by at is true t k = absurd cc
        by at is false t k = elim (bind_none (from_offset hvar at) (λ map. mapped_index map g) k) [
          | inl l ↦ far_map at is (tail_none hvar at l)
          | inr l ↦ in_map at is (eqb-false at 0 t) (subst (λ map. HasMapFault map g) (sym (tail_some hvar l.0 at l.1).1) (map_refused l.0 g l.2))
        ]

    -- a map that was read
    record IndexSteps (index : ℕ × ℕ) : Type 0 where
      at : ℕ
      at_is : number hvar 8 4 ≡ Some at
      by_map : (at ≡ 0) ⊎ ((at ≤ length hvar) × (mapped_index (drop at hvar) g ≡ Some index))

    index_steps : (index : ℕ × ℕ) → advance_index hvar g ≡ Some index → IndexSteps index
    index_steps index h =
        let a = bind_some (number hvar 8 4) index_at index (sym index_in_turn ∙ h) in
        record { at = a.0; at_is = a.1; by_map = by a.0 (a.0 == 0) refl a.2 }
      where
        by : (at : ℕ) (b : Bool) → (at == 0) ≡ b → cond b (Some (0, g)) (from_offset hvar at >>= λ map. mapped_index map g) ≡ Some index → (at ≡ 0) ⊎ ((at ≤ length hvar) × (mapped_index (drop at hvar) g ≡ Some index))
        by at true t k = inl (eqb-true at 0 t)
        by at false t k =
            let m = bind_some (from_offset hvar at) (λ map. mapped_index map g) index k in
            let p = tail_some hvar m.0 at m.1 in
            inr (p.0, ap (λ map. mapped_index map g) p.1 ∙ m.2)

module _ (hvar : List ℕ) (at : List ℤ) (g : ℕ) where
  abbrev pub with_indexes : Store → ℕ × ℕ → Option ℤ
  with_indexes s index = item_delta s at index.0 index.1

  abbrev pub with_store : Store → Option ℤ
  with_store s = advance_index hvar g >>= with_indexes s

  pub advance_in_turn : advance_delta hvar at g ≡ (store_of hvar (length at) >>= with_store)
  unfolding advance_delta
  advance_in_turn = refl

  pub hvar_refused : advance_delta hvar at g ≡ None → HasHvarFault hvar (length at) g
  hvar_refused h =
      elim (bind_none (store_of hvar (length at)) with_store (sym advance_in_turn ∙ h)) [
        | inl k ↦ no_store_of hvar (length at) g k
        | inr a ↦ elim (bind_none (advance_index hvar g) (with_indexes a.0) a.2) [
          | inl k ↦ no_index hvar (length at) g k
          | inr b ↦ in_item a.0 b.0.0 b.0.1 a.1 b.1 (item_refused a.0 (drop (hvar_steps hvar (length at) a.0 a.1).at hvar) (hvar_steps hvar (length at) a.0 a.1).store_is at b.0.0 b.0.1 b.2)
        ]
      ]

  pub hvar_clean : (v : ℤ) → advance_delta hvar at g ≡ Some v → HasHvarFault hvar (length at) g → ⊥
  hvar_clean v h f =
      let a = bind_some (store_of hvar (length at)) with_store v (sym advance_in_turn ∙ h) in
      let b = bind_some (advance_index hvar g) (with_indexes a.0) v a.2 in
      by a.0 a.1 (hvar_steps hvar (length at) a.0 a.1) b.0 b.1 (index_steps hvar (length at) g b.0 b.1) b.2 f
    where
      by : (s : Store) → store_of hvar (length at) ≡ Some s → HvarSteps hvar (length at) s → (index : ℕ × ℕ) → advance_index hvar g ≡ Some index → IndexSteps hvar (length at) g index → item_delta s at index.0 index.1 ≡ Some v → HasHvarFault hvar (length at) g → ⊥
      by s s_is t index i_is u read (cut_hvar less) = not_long hvar 8 4 u.at less u.at_is
      by s s_is t index i_is u read (no_store null) = t.not_null (just_is t.at 0 (sym t.at_is ∙ null))
      by s s_is t index i_is u read (far_store place is less) = let x : place ≡ t.at = just_is place t.at (sym is ∙ t.at_is) in let inside = t.inside in omega arith
      by s s_is t index i_is u read (in_store place is c) = store_clean (drop t.at hvar) (length at) s t.store_is t.same (subst (λ (n : ℕ). HasStoreFault (length at) (drop n hvar)) (just_is place t.at (sym is ∙ t.at_is)) c)
      by s s_is t index i_is u read (far_map place is less) =
          let x : place ≡ u.at = just_is place u.at (sym is ∙ u.at_is) in
          elim u.by_map [ inl k ↦ omega arith | inr k ↦ let inside = k.0 in omega arith ]
      by s s_is t index i_is u read (in_map place is some c) =
          let x : place ≡ u.at = just_is place u.at (sym is ∙ u.at_is) in
          elim u.by_map [ inl k ↦ absurd (some (x ∙ k)) | inr k ↦ map_clean (drop u.at hvar) g index k.1 (subst (λ (n : ℕ). HasMapFault (drop n hvar) g) x c) ]
      by s s_is t index i_is u read (in_item other outer inner o_is x_is c) =
          let x : other ≡ s = just_is other s (sym o_is ∙ s_is) in
          let y : index ≡ (outer, inner) = just_is index (outer, inner) (sym i_is ∙ x_is) in
          item_clean s (drop t.at hvar) t.store_is at outer inner v (ap (λ (p : ℕ × ℕ). item_delta s at p.0 p.1) (sym y) ∙ read) (subst (λ (q : Store). HasIndexedFault q outer inner) x c)
