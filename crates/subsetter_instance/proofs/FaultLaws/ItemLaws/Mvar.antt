-- The item of a metric's tag in MVAR is refused exactly where it has a fault.
use Rattle.std.proofs.Common.{◌≡◌, ◌≢◌, ℕ, zero, suc, ◌+◌, ◌*◌, ◌≤◌, Bool, true, false, cond, List, length, take, drop, Option, Some, None, ℤ, pos, refl, sym, ap, subst, ◌∙◌, inl, inr, arith}
use Rattle.std.specs.Prelude.{◌==◌, nat_lt, if◌then◌else◌}
use Rattle.std.specs.Str.{bytes_eq}
use Rattle.std.proofs.lemmas.Bool.{eqb-false, eqb-true, ltb-false, ltb-true}
use Rattle.subsetter_base.specs.Bytes.{number, range, from_offset}
use Rattle.subsetter_base.proofs.ByteLemmas.{number-short, range-fits, range-short}
use Rattle.subsetter_base.proofs.Lists.{bytes_eq_is, bytes_eq_self}
use Rattle.subsetter_base.proofs.Options.{bind_some, just_is}
use Rattle.subsetter_base.specs.Options.{◌>>=◌}
use Rattle.subsetter_variation.specs.Items.FontMetrics.{metric_delta, metric_store, store_for, value_delta, value_from, value_indexes, value_of}
use Rattle.subsetter_variation.specs.Items.ItemVariations.{Store, item_delta, item_store}
use Rattle.subsetter_instance.specs.Faults.ItemFault.{HasStoreFault, HasIndexedFault, HasRecordFault, HasMvarFault, cut_record, later_record, cut_mvar, short_record, in_records, cut_store_offset, no_metric_store, far_metric_store, in_metric_store, in_metric_item}
use Rattle.subsetter_instance.proofs.FaultLaws.Parts.{bind_none, if_none, if_some, not_long, some_is_not, unless_none, unless_some}
use Rattle.subsetter_instance.proofs.FaultLaws.ItemLaws.Stores.{other_store, store_clean, store_refused, tail_none, tail_some}
use Rattle.subsetter_instance.proofs.FaultLaws.ItemLaws.Rows.{item_clean, item_refused}

-- ---- MVAR

differs : (a b : List ℕ) → bytes_eq a b ≡ false → a ≢ b
differs a b h same = let clash = sym (bytes_eq_self a) ∙ ap (bytes_eq a) same ∙ h in cc

module _ (mvar : List ℕ) (size : ℕ) (tag : List ℕ) where
  abbrev by_tag : ℕ → ℕ → List ℕ → Option (Option (ℕ × ℕ))
  by_tag n k bytes = if bytes_eq (take 4 bytes) tag then Some (Some (value_indexes bytes)) else value_from n (k + 1) size mvar tag

  records_refused : (n k : ℕ) → value_from n k size mvar tag ≡ None → HasRecordFault mvar size tag n k
  records_refused zero k h = absurd cc
  records_refused (suc n) k h =
      elim (bind_none (range mvar (12 + k * size) 8) (by_tag n k) h) [
        | inl l ↦ cut_record n k (range-short mvar (12 + k * size) 8 l)
        | inr l ↦ by l.0 l.1 (λ m. records_refused n (k + 1) m) (bytes_eq (take 4 l.0) tag) refl l.2
      ]
    where
      by : (bytes : List ℕ) → range mvar (12 + k * size) 8 ≡ Some bytes → (value_from n (k + 1) size mvar tag ≡ None → HasRecordFault mvar size tag n (k + 1)) → (b : Bool) → bytes_eq (take 4 bytes) tag ≡ b
          → cond b (Some (Some (value_indexes bytes))) (value_from n (k + 1) size mvar tag) ≡ None → HasRecordFault mvar size tag (suc n) k
      by bytes is deeper true t m = absurd cc
      by bytes is deeper false t m = later_record n k bytes is (differs (take 4 bytes) tag t) (deeper m)

  records_clean : (n k : ℕ) (found : Option (ℕ × ℕ)) → value_from n k size mvar tag ≡ Some found → HasRecordFault mvar size tag n k → ⊥
  records_clean _ _ found h (cut_record n k less) = let a = bind_some (range mvar (12 + k * size) 8) (by_tag n k) found h in let fits = range-fits mvar a.0 (12 + k * size) 8 a.1 in omega arith
  records_clean _ _ found h (later_record n k bytes is other f) =
      let a = bind_some (range mvar (12 + k * size) 8) (by_tag n k) found h in
      let same : a.0 ≡ bytes = just_is a.0 bytes (sym a.1 ∙ is) in
      records_clean n (k + 1) found (by (bytes_eq (take 4 bytes) tag) refl (ap (by_tag n k) (sym same) ∙ a.2)) f
    where
      by : (b : Bool) → bytes_eq (take 4 bytes) tag ≡ b → cond b (Some (Some (value_indexes bytes))) (value_from n (k + 1) size mvar tag) ≡ Some found → value_from n (k + 1) size mvar tag ≡ Some found
      by true t m = absurd (other (bytes_eq_is (take 4 bytes) tag t))
      by false t m = m

module _ (mvar tag : List ℕ) where
  abbrev values_of : ℕ → ℕ → Option (Option (ℕ × ℕ))
  values_of size count = if nat_lt size 8 then None else value_from count 0 size mvar tag

  abbrev after_size : ℕ → Option (Option (ℕ × ℕ))
  after_size size = number mvar 8 2 >>= values_of size

  value_in_turn : value_of mvar tag ≡ (number mvar 6 2 >>= after_size)
  unfolding value_of
  value_in_turn = refl

  no_value : (axes : ℕ) → value_of mvar tag ≡ None → HasMvarFault mvar axes tag
  no_value axes h =
      elim (bind_none (number mvar 6 2) after_size (sym value_in_turn ∙ h)) [
        | inl k ↦ cut_mvar (let less = number-short mvar 6 2 k in omega arith)
        | inr a ↦ elim (bind_none (number mvar 8 2) (values_of a.0) a.2) [
          | inl k ↦ cut_mvar (number-short mvar 8 2 k)
          | inr b ↦ elim (unless_none (nat_lt a.0 8) (value_from b.0 0 a.0 mvar tag) b.2) [
            | inl k ↦ short_record a.0 a.1 (ltb-true a.0 8 k)
            | inr k ↦ in_records a.0 b.0 a.1 b.1 (records_refused mvar a.0 tag b.0 0 k.1)
          ]
        ]
      ]

  record ValueSteps (found : Option (ℕ × ℕ)) : Type 0 where
    size : ℕ
    size_is : number mvar 6 2 ≡ Some size
    long : 8 ≤ size
    count : ℕ
    count_is : number mvar 8 2 ≡ Some count
    read : value_from count 0 size mvar tag ≡ Some found

  value_steps : (found : Option (ℕ × ℕ)) → value_of mvar tag ≡ Some found → ValueSteps found
  value_steps found h =
      let a = bind_some (number mvar 6 2) after_size found (sym value_in_turn ∙ h) in
      let b = bind_some (number mvar 8 2) (values_of a.0) found a.2 in
      let c = unless_some (nat_lt a.0 8) (value_from b.0 0 a.0 mvar tag) found b.2 in
      record { size = a.0; size_is = a.1; long = ltb-false a.0 8 c.0; count = b.0; count_is = b.1; read = c.1 }

module _ (mvar : List ℕ) (axes : ℕ) where
  abbrev after_metric_bytes : List ℕ → Option Store
  after_metric_bytes bytes = item_store bytes >>= store_for axes

  abbrev after_metric_at : ℕ → Option Store
  after_metric_at at = (if at == 0 then None else from_offset mvar at) >>= after_metric_bytes

  metric_in_turn : metric_store mvar axes ≡ (number mvar 10 2 >>= after_metric_at)
  unfolding metric_store
  metric_in_turn = refl

  no_store_for : (bytes : List ℕ) → after_metric_bytes bytes ≡ None → HasStoreFault axes bytes
  no_store_for bytes k = elim (bind_none (item_store bytes) (store_for axes) k) [
    | inl l ↦ store_refused bytes axes l
    | inr l ↦ elim (if_none (l.0.axis_count == axes) (Some l.0) l.2) [
      | inl m ↦ other_store bytes axes l.0 l.1 (eqb-false l.0.axis_count axes m)
      | inr m ↦ absurd (some_is_not l.0 m.1)
    ]
  ]

  metric_store_refused : (tag : List ℕ) (outer inner : ℕ) → value_of mvar tag ≡ Some (Some (outer, inner)) → metric_store mvar axes ≡ None → HasMvarFault mvar axes tag
  metric_store_refused tag outer inner there h =
      elim (bind_none (number mvar 10 2) after_metric_at (sym metric_in_turn ∙ h)) [
        | inl k ↦ cut_store_offset outer inner there (number-short mvar 10 2 k)
        | inr a ↦ elim (bind_none (cond (a.0 == 0) None (from_offset mvar a.0)) after_metric_bytes a.2) [
          | inl k ↦ elim (unless_none (a.0 == 0) (from_offset mvar a.0) k) [
            | inl l ↦ no_metric_store outer inner there (a.1 ∙ ap (λ (n : ℕ). Some n) (eqb-true a.0 0 l))
            | inr l ↦ far_metric_store outer inner a.0 there a.1 (tail_none mvar a.0 l.1)
          ]
          | inr b ↦
              let t = unless_some (a.0 == 0) (from_offset mvar a.0) b.0 b.1 in
              in_metric_store outer inner a.0 there a.1 (subst (HasStoreFault axes) (sym (tail_some mvar b.0 a.0 t.1).1) (no_store_for b.0 b.2))
        ]
      ]

  record MvarSteps (s : Store) : Type 0 where
    at : ℕ
    at_is : number mvar 10 2 ≡ Some at
    not_null : at ≢ 0
    inside : at ≤ length mvar
    store_is : item_store (drop at mvar) ≡ Some s
    same : s.axis_count ≡ axes

  mvar_steps : (s : Store) → metric_store mvar axes ≡ Some s → MvarSteps s
  mvar_steps s h =
      let a = bind_some (number mvar 10 2) after_metric_at s (sym metric_in_turn ∙ h) in
      let b = bind_some (cond (a.0 == 0) None (from_offset mvar a.0)) after_metric_bytes s a.2 in
      let u = unless_some (a.0 == 0) (from_offset mvar a.0) b.0 b.1 in
      let t = tail_some mvar b.0 a.0 u.1 in
      let c = bind_some (item_store b.0) (store_for axes) s b.2 in
      let d = if_some (c.0.axis_count == axes) (Some c.0) s c.2 in
      let same : c.0 ≡ s = just_is c.0 s d.1 in
      record {
        at = a.0;
        at_is = a.1;
        not_null = eqb-false a.0 0 u.0;
        inside = t.0;
        store_is = ap item_store t.1 ∙ c.1 ∙ ap (λ (x : Store). Some x) same;
        same = ap (λ (x : Store). x.axis_count) (sym same) ∙ eqb-true c.0.axis_count axes d.0;
      }

module _ (mvar : List ℕ) (at : List ℤ) (tag : List ℕ) where
  pub metric_delta_in_turn : metric_delta mvar at tag ≡ (value_of mvar tag >>= value_delta mvar at)
  unfolding metric_delta
  metric_delta_in_turn = refl

  abbrev item_of : ℕ × ℕ → Store → Option ℤ
  item_of indexes s = item_delta s at indexes.0 indexes.1

  pub mvar_refused : metric_delta mvar at tag ≡ None → HasMvarFault mvar (length at) tag
  mvar_refused h = elim (bind_none (value_of mvar tag) (value_delta mvar at) (sym metric_delta_in_turn ∙ h)) [
    | inl k ↦ no_value mvar tag (length at) k
    | inr k ↦ by k.0 k.1 k.2
  ]
    where
      by : (found : Option (ℕ × ℕ)) → value_of mvar tag ≡ Some found → value_delta mvar at found ≡ None → HasMvarFault mvar (length at) tag
      by None is k = absurd (some_is_not (pos 0) k)
      by (Some i) is k = elim (bind_none (metric_store mvar (length at)) (item_of i) k) [
        | inl l ↦ metric_store_refused mvar (length at) tag i.0 i.1 is l
        | inr l ↦ let t = mvar_steps mvar (length at) l.0 l.1 in in_metric_item i.0 i.1 l.0 is l.1 (item_refused l.0 (drop t.at mvar) t.store_is at i.0 i.1 l.2)
      ]

  -- the item of a tag that has a record
  item_there : (outer inner : ℕ) (v : ℤ) → value_of mvar tag ≡ Some (Some (outer, inner)) → metric_delta mvar at tag ≡ Some v → (s : Store) × ((metric_store mvar (length at) ≡ Some s) × (item_delta s at outer inner ≡ Some v))
  item_there outer inner v is h =
      let a = bind_some (metric_store mvar (length at)) (item_of (outer, inner)) v (ap (λ o. o >>= value_delta mvar at) (sym is) ∙ sym metric_delta_in_turn ∙ h) in
      (a.0, (a.1, a.2))

  pub mvar_clean : (v : ℤ) → metric_delta mvar at tag ≡ Some v → HasMvarFault mvar (length at) tag → ⊥
  mvar_clean v h f =
      let a = bind_some (value_of mvar tag) (value_delta mvar at) v (sym metric_delta_in_turn ∙ h) in
      by a.0 (value_steps mvar tag a.0 a.1) f
    where
      by : (found : Option (ℕ × ℕ)) → ValueSteps mvar tag found → HasMvarFault mvar (length at) tag → ⊥
      by found t (cut_mvar less) = not_long mvar 8 2 t.count less t.count_is
      by found t (short_record size is less) = let x : size ≡ t.size = just_is size t.size (sym is ∙ t.size_is) in let long = t.long in omega arith
      by found t (in_records size count size_is count_is c) =
          let x : size ≡ t.size = just_is size t.size (sym size_is ∙ t.size_is) in
          let y : count ≡ t.count = just_is count t.count (sym count_is ∙ t.count_is) in
          records_clean mvar t.size tag t.count 0 found t.read (subst (λ (n : ℕ). HasRecordFault mvar t.size tag n 0) y (subst (λ (n : ℕ). HasRecordFault mvar n tag count 0) x c))
      by found t (cut_store_offset outer inner is less) = let i = item_there outer inner v is h in let m = mvar_steps mvar (length at) i.0 i.1.0 in not_long mvar 10 2 m.at less m.at_is
      by found t (no_metric_store outer inner is null) = let i = item_there outer inner v is h in let m = mvar_steps mvar (length at) i.0 i.1.0 in m.not_null (just_is m.at 0 (sym m.at_is ∙ null))
      by found t (far_metric_store outer inner place is place_is less) =
          let i = item_there outer inner v is h in
          let m = mvar_steps mvar (length at) i.0 i.1.0 in
          let x : place ≡ m.at = just_is place m.at (sym place_is ∙ m.at_is) in
          let inside = m.inside in
          omega arith
      by found t (in_metric_store outer inner place is place_is c) =
          let i = item_there outer inner v is h in
          let m = mvar_steps mvar (length at) i.0 i.1.0 in
          store_clean (drop m.at mvar) (length at) i.0 m.store_is m.same (subst (λ (n : ℕ). HasStoreFault (length at) (drop n mvar)) (just_is place m.at (sym place_is ∙ m.at_is)) c)
      by found t (in_metric_item outer inner s is s_is c) =
          let i = item_there outer inner v is h in
          let m = mvar_steps mvar (length at) i.0 i.1.0 in
          let x : s ≡ i.0 = just_is s i.0 (sym s_is ∙ i.1.0) in
          item_clean i.0 (drop m.at mvar) m.store_is at outer inner v i.1.1 (subst (λ (q : Store). HasIndexedFault q outer inner) x c)
