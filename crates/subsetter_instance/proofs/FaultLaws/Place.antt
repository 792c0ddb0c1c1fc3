-- The coordinates of an instance are refused exactly where fvar or avar has a fault.
--   other_is, is_other_of        tables of another version
--   place_refused, place_clean   where there are no coordinates there is a fault, and where there are some there is none
use Rattle.std.proofs.Common.{◌≡◌, ℕ, zero, suc, ◌+◌, ◌*◌, ◌<◌, ◌≤◌, Bool, true, false, cond, List, [], ◌∷◌, length, Option, Some, None, Result, Ok, Err, ℤ, refl, sym, ap, subst, ◌∙◌, inl, inr, arith}
use Rattle.std.specs.Prelude.{codes, not, ◌||◌, ◌==◌, nat_lt}
use Rattle.std.specs.Option.{ok_or}
use Rattle.std.proofs.lemmas.Bool.{eqb-false, eqb-true, ltb-false, ltb-true, ne_eqb, or_cases, or_left, or_right}
use Rattle.std.proofs.Math.Nat.{add-mul}
use Rattle.subsetter_base.specs.Bytes.{number, range}
use Rattle.subsetter_base.specs.Items.{Items}
use Rattle.subsetter_base.specs.declared.tag.Tag.{Tag}
use Rattle.subsetter_base.specs.declared.error.Error.{Error}
use Rattle.subsetter_base.specs.declared.error.Error.TheVariants.{MalformedFont, Unimplemented}
use Rattle.subsetter_base.proofs.ByteLemmas.{number-short, range-fits, range-short}
use Rattle.subsetter_base.proofs.Options.{bind_some, is_some_of, just, just_is, some_of}
use Rattle.subsetter_base.proofs.Results.{failed_is, named_err, named_ok}
use Rattle.subsetter_base.specs.Options.{◌>>=◌}
use Rattle.subsetter_variation.specs.Locations.Axes.{axes, axes_at, axis_of}
use Rattle.subsetter_variation.specs.Locations.Segments.{axis_value_maps, segment_map_at}
use Rattle.subsetter_variation.specs.Locations.Coordinates.{coordinate, coordinates_at, coordinates_by, is_other, is_other_version, mapped_coordinates, normalized, normalized_or_fault}
use Rattle.subsetter_variation.specs.declared.locations.axes.Axis.{Axis}
use Rattle.subsetter_instance.specs.Source.{normalized_coordinates, normalized_by}
use Rattle.subsetter_instance.specs.Faults.CoordinatesFault.{HasOtherVersion, HasAxesFault, HasSegmentFault, HasAvarFault, HasCoordinatesFault, cut_fvar, short_axis, cut_axis, cut_count, cut_map, later_map, cut_avar, other_axis_count, in_segments, other_fvar, other_avar, in_axes, in_avar}
use Rattle.subsetter_instance.proofs.FaultLaws.Parts.{bind_none, if_none, if_some, not_long, some_is_not, unless_none, unless_some}

-- ---- versions

not_true : (b : Bool) → not b ≡ true → b ≡ false
not_true true h = absurd cc
not_true false h = refl

module _ (find : List ℕ → Option (List ℕ)) (tag : List ℕ) where
  pub other_is : is_other_version (find tag) ≡ true → HasOtherVersion find tag
  other_is h = by (find tag) refl h
    where
      by_version : (t : List ℕ) → find tag ≡ Some t → (v : Option ℕ) → number t 0 2 ≡ v → is_other v ≡ true → HasOtherVersion find tag
      by_version t is None n k = absurd cc
      by_version t is (Some v) n k = record { table = t; table_is = is; version = v; version_is = n; other = eqb-false v 1 (not_true (v == 1) k) }

      by : (o : Option (List ℕ)) → find tag ≡ o → is_other_version o ≡ true → HasOtherVersion find tag
      by None is k = absurd cc
      by (Some t) is k = by_version t is (number t 0 2) refl k

  pub is_other_of : HasOtherVersion find tag → is_other_version (find tag) ≡ true
  is_other_of x = ap is_other_version x.table_is ∙ ap is_other x.version_is ∙ ap not (ne_eqb x.version 1 x.other)

-- ---- axes

-- a record further on
further : (at size k : ℕ) → (at + size) + k * size + size ≡ at + (k + 1) * size + size
further at size k = omega (arith, add-mul k 1 size)

axes_cut : (n size : ℕ) (fvar : List ℕ) (at : ℕ) → axes_at n size fvar at ≡ None → (k : ℕ) × ((k < n) × (length fvar < at + k * size + size))
axes_cut zero size fvar at h = absurd cc
axes_cut (suc n) size fvar at h =
    elim (bind_none (range fvar at size) (λ bytes. axes_at n size fvar (at + size) >>= λ rest. Some (axis_of bytes ∷ rest)) h) [
      | inl k ↦ let less = range-short fvar at size k in (0, (omega arith, omega arith))
      | inr k ↦ elim (bind_none (axes_at n size fvar (at + size)) (λ rest. Some (axis_of k.0 ∷ rest)) k.2) [
        | inl l ↦ let r = axes_cut n size fvar (at + size) l in let less = r.1.0 in let cut = r.1.1 in (r.0 + 1, (omega arith, omega (arith, further at size r.0)))
        | inr l ↦ absurd (some_is_not (axis_of k.0 ∷ l.0) l.2)
      ]
    ]

axes_count : (n size : ℕ) (fvar : List ℕ) (at : ℕ) (l : List Axis) → axes_at n size fvar at ≡ Some l → length l ≡ n
axes_count zero size fvar at l h = ap length (sym (just_is [] l h))
axes_count (suc n) size fvar at l h =
    let a = bind_some (range fvar at size) (λ bytes. axes_at n size fvar (at + size) >>= λ rest. Some (axis_of bytes ∷ rest)) l h in
    let b = bind_some (axes_at n size fvar (at + size)) (λ rest. Some (axis_of a.0 ∷ rest)) l a.2 in
    let rest = axes_count n size fvar (at + size) b.0 b.1 in
    ap length (sym (just_is (axis_of a.0 ∷ b.0) l b.2)) ∙ ap suc rest

axis_inside : (n size : ℕ) (fvar : List ℕ) (at k : ℕ) (l : List Axis) → axes_at n size fvar at ≡ Some l → k < n → at + k * size + size ≤ length fvar
axis_inside zero size fvar at k l h less = absurd (omega arith)
axis_inside (suc n) size fvar at zero l h less =
    let a = bind_some (range fvar at size) (λ bytes. axes_at n size fvar (at + size) >>= λ rest. Some (axis_of bytes ∷ rest)) l h in
    let fits = range-fits fvar a.0 at size a.1 in
    omega arith
axis_inside (suc n) size fvar at (suc k) l h less =
    let a = bind_some (range fvar at size) (λ bytes. axes_at n size fvar (at + size) >>= λ rest. Some (axis_of bytes ∷ rest)) l h in
    let b = bind_some (axes_at n size fvar (at + size)) (λ rest. Some (axis_of a.0 ∷ rest)) l a.2 in
    let rest = axis_inside n size fvar (at + size) k b.0 b.1 (omega arith) in
    omega (arith, further at size k)

record AxesParts (fvar : List ℕ) (l : List Axis) : Type 0 where
  at : ℕ
  at_is : number fvar 4 2 ≡ Some at
  count : ℕ
  count_is : number fvar 8 2 ≡ Some count
  size : ℕ
  size_is : number fvar 10 2 ≡ Some size
  long : 20 ≤ size
  records : axes_at count size fvar at ≡ Some l

axes_parts : (fvar : List ℕ) (l : List Axis) → axes fvar ≡ Some l → AxesParts fvar l
unfolding axes
axes_parts fvar l h =
    let a = bind_some (number fvar 4 2) (λ at. number fvar 8 2 >>= λ count. number fvar 10 2 >>= λ size. cond (nat_lt size 20) None (axes_at count size fvar at)) l h in
    let b = bind_some (number fvar 8 2) (λ count. number fvar 10 2 >>= λ size. cond (nat_lt size 20) None (axes_at count size fvar a.0)) l a.2 in
    let c = bind_some (number fvar 10 2) (λ size. cond (nat_lt size 20) None (axes_at b.0 size fvar a.0)) l b.2 in
    let d = unless_some (nat_lt c.0 20) (axes_at b.0 c.0 fvar a.0) l c.2 in
    record { at = a.0; at_is = a.1; count = b.0; count_is = b.1; size = c.0; size_is = c.1; long = ltb-false c.0 20 d.0; records = d.1 }

axes_refused : (fvar : List ℕ) → axes fvar ≡ None → HasAxesFault fvar
unfolding axes
axes_refused fvar h =
    elim (bind_none (number fvar 4 2) (λ at. number fvar 8 2 >>= λ count. number fvar 10 2 >>= λ size. cond (nat_lt size 20) None (axes_at count size fvar at)) h) [
      | inl k ↦ cut_fvar (let less = number-short fvar 4 2 k in omega arith)
      | inr a ↦ elim (bind_none (number fvar 8 2) (λ count. number fvar 10 2 >>= λ size. cond (nat_lt size 20) None (axes_at count size fvar a.0)) a.2) [
        | inl k ↦ cut_fvar (let less = number-short fvar 8 2 k in omega arith)
        | inr b ↦ elim (bind_none (number fvar 10 2) (λ size. cond (nat_lt size 20) None (axes_at b.0 size fvar a.0)) b.2) [
          | inl k ↦ cut_fvar (let less = number-short fvar 10 2 k in omega arith)
          | inr c ↦ elim (unless_none (nat_lt c.0 20) (axes_at b.0 c.0 fvar a.0) c.2) [
            | inl k ↦ short_axis c.0 c.1 (ltb-true c.0 20 k)
            | inr k ↦ let r = axes_cut b.0 c.0 fvar a.0 k.1 in cut_axis a.0 b.0 c.0 r.0 a.1 b.1 c.1 r.1.0 r.1.1
          ]
        ]
      ]
    ]

axes_clean : (fvar : List ℕ) (l : List Axis) → axes fvar ≡ Some l → HasAxesFault fvar → ⊥
axes_clean fvar l h (cut_fvar cut) = let p = axes_parts fvar l h in not_long fvar 10 2 p.size cut p.size_is
axes_clean fvar l h (short_axis size is less) = let p = axes_parts fvar l h in let same : p.size ≡ size = just_is p.size size (sym p.size_is ∙ is) in let long = p.long in omega arith
axes_clean fvar l h (cut_axis at count size k at_is count_is size_is less cut) =
    let p = axes_parts fvar l h in
    let records : axes_at count size fvar at ≡ Some l =
    ap (λ (n : ℕ). axes_at n size fvar at) (just_is count p.count (sym count_is ∙ p.count_is)) ∙ ap (λ (n : ℕ). axes_at p.count n fvar at) (just_is size p.size (sym size_is ∙ p.size_is)) ∙ ap (λ (n : ℕ). axes_at p.count p.size fvar n) (just_is at p.at (sym at_is ∙ p.at_is)) ∙ p.records in
    let inside = axis_inside count size fvar at k l records less in
    omega arith

-- ---- segments

module _ (settings : List (Tag × ℤ)) (avar : List ℕ) where
  abbrev with_map : ℕ → Axis → List Axis → Items → Option (List ℤ)
  with_map at a axes segments = coordinates_at axes settings avar (at + 2 + segments.count * 4) >>= λ rest. Some (coordinate a (axis_value_maps segments) settings ∷ rest)

  abbrev map_of : ℕ → ℕ → Option Items
  map_of at count = range avar (at + 2) (count * 4) >>= λ bytes. Some (record { bytes = bytes; count = count })

  items_is : (bytes : List ℕ) (count : ℕ) (i : Items) → just (let x : Items = record { bytes = bytes; count = count } in x) ≡ Some i → count ≡ i.count
  items_is bytes count i h = ap (λ (x : Items). x.count) (just_is (record { bytes = bytes; count = count }) i h)

  segments_refused : (axes : List Axis) (at : ℕ) → coordinates_at axes settings avar at ≡ None → HasSegmentFault avar (length axes) at
  segments_refused [] at h = absurd (some_is_not [] h)
  segments_refused (a ∷ axes) at h =
      elim (bind_none (segment_map_at avar at) (with_map at a axes) h) [
        | inl k ↦ elim (bind_none (number avar at 2) (map_of at) k) [
          | inl l ↦ cut_count (length axes) at (number-short avar at 2 l)
          | inr l ↦ elim (bind_none (range avar (at + 2) (l.0 * 4)) (λ bytes. just (let x : Items = record { bytes = bytes; count = l.0 } in x)) l.2) [
            | inl m ↦ cut_map (length axes) at l.0 l.1 (range-short avar (at + 2) (l.0 * 4) m)
            | inr m ↦ absurd (some_is_not (let x : Items = record { bytes = m.0; count = l.0 } in x) m.2)
          ]
        ]
        | inr k ↦ elim (bind_none (coordinates_at axes settings avar (at + 2 + k.0.count * 4)) (λ rest. Some (coordinate a (axis_value_maps k.0) settings ∷ rest)) k.2) [
          | inl l ↦
              let n = bind_some (number avar at 2) (map_of at) k.0 k.1 in
              let m = bind_some (range avar (at + 2) (n.0 * 4)) (λ bytes. just (let x : Items = record { bytes = bytes; count = n.0 } in x)) k.0 n.2 in
              let same = items_is m.0 n.0 k.0 m.2 in
              later_map (length axes) at k.0.count (n.1 ∙ ap (λ (c : ℕ). Some c) same) (segments_refused axes (at + 2 + k.0.count * 4) l)
          | inr l ↦ absurd (some_is_not (coordinate a (axis_value_maps k.0) settings ∷ l.0) l.2)
        ]
      ]

  record MapSteps (a : Axis) (axes : List Axis) (at : ℕ) (l : List ℤ) : Type 0 where
    count : ℕ
    count_is : number avar at 2 ≡ Some count
    fits : at + 2 + count * 4 ≤ length avar
    rest : List ℤ
    rest_is : coordinates_at axes settings avar (at + 2 + count * 4) ≡ Some rest

  map_steps : (a : Axis) (axes : List Axis) (at : ℕ) (l : List ℤ) → coordinates_at (a ∷ axes) settings avar at ≡ Some l → MapSteps a axes at l
  map_steps a axes at l h =
      let s = bind_some (segment_map_at avar at) (with_map at a axes) l h in
      let r = bind_some (coordinates_at axes settings avar (at + 2 + s.0.count * 4)) (λ rest. Some (coordinate a (axis_value_maps s.0) settings ∷ rest)) l s.2 in
      let n = bind_some (number avar at 2) (map_of at) s.0 s.1 in
      let m = bind_some (range avar (at + 2) (n.0 * 4)) (λ bytes. just (let x : Items = record { bytes = bytes; count = n.0 } in x)) s.0 n.2 in
      let same = items_is m.0 n.0 s.0 m.2 in
      record { count = n.0; count_is = n.1; fits = range-fits avar m.0 (at + 2) (n.0 * 4) m.1; rest = r.0; rest_is = ap (λ (c : ℕ). coordinates_at axes settings avar (at + 2 + c * 4)) same ∙ r.1 }

  segments_clean : (axes : List Axis) (n at : ℕ) (l : List ℤ) → n ≡ length axes → coordinates_at axes settings avar at ≡ Some l → HasSegmentFault avar n at → ⊥
  segments_clean [] _ _ l e h (cut_count n at less) = omega arith
  segments_clean [] _ _ l e h (cut_map n at count is less) = omega arith
  segments_clean [] _ _ l e h (later_map n at count is f) = omega arith
  segments_clean (a ∷ axes) _ _ l e h (cut_count n at less) = let s = map_steps a axes at l h in not_long avar at 2 s.count less s.count_is
  segments_clean (a ∷ axes) _ _ l e h (cut_map n at count is less) =
      let s = map_steps a axes at l h in
      let same : count ≡ s.count = just_is count s.count (sym is ∙ s.count_is) in
      let fits = s.fits in
      omega arith
  segments_clean (a ∷ axes) _ _ l e h (later_map n at count is f) =
      let s = map_steps a axes at l h in
      let same : s.count ≡ count = just_is s.count count (sym s.count_is ∙ is) in
      segments_clean axes n (at + 2 + count * 4) s.rest (omega arith) (ap (λ (c : ℕ). coordinates_at axes settings avar (at + 2 + c * 4)) (sym same) ∙ s.rest_is) f

  abbrev by_count : List Axis → ℕ → Option (List ℤ)
  by_count axes count = cond (count == length axes) (coordinates_at axes settings avar 8) None

  avar_refused : (axes : List Axis) → mapped_coordinates axes settings avar ≡ None → HasAvarFault (length axes) avar
  unfolding mapped_coordinates
  avar_refused axes h =
      elim (bind_none (number avar 6 2) (by_count axes) h) [
        | inl k ↦ cut_avar (number-short avar 6 2 k)
        | inr k ↦ elim (if_none (k.0 == length axes) (coordinates_at axes settings avar 8) k.2) [
          | inl l ↦ other_axis_count k.0 k.1 (eqb-false k.0 (length axes) l)
          | inr l ↦ in_segments (segments_refused axes 8 l.1)
        ]
      ]

  avar_clean : (axes : List Axis) (l : List ℤ) → mapped_coordinates axes settings avar ≡ Some l → HasAvarFault (length axes) avar → ⊥
  unfolding mapped_coordinates
  avar_clean axes l h f =
      let a = bind_some (number avar 6 2) (by_count axes) l h in
      let b = if_some (a.0 == length axes) (coordinates_at axes settings avar 8) l a.2 in
      by a.0 a.1 (eqb-true a.0 (length axes) b.0) b.1 f
    where
      by : (n : ℕ) → number avar 6 2 ≡ Some n → n ≡ length axes → coordinates_at axes settings avar 8 ≡ Some l → HasAvarFault (length axes) avar → ⊥
      by n is same read (cut_avar less) = not_long avar 6 2 n less is
      by n is same read (other_axis_count count count_is other) = other (just_is count n (sym count_is ∙ is) ∙ same)
      by n is same read (in_segments g) = segments_clean axes (length axes) 8 l refl read g

-- ---- the tables that a look-up finds

module _ (find : List ℕ → Option (List ℕ)) (settings : List (Tag × ℤ)) where
  abbrev versioned : Bool → List ℕ → Option (List ℕ) → Result (List ℤ) Error
  versioned b fvar avar = cond b (Err Unimplemented) (ok_or (normalized fvar avar settings) MalformedFont)

  -- which of the two tables has another version
  version_is_other : (fvar : List ℕ) → find (codes "fvar") ≡ Some fvar → (is_other_version (Some fvar) || is_other_version (find (codes "avar"))) ≡ true → HasCoordinatesFault find Unimplemented
  version_is_other fvar is h = elim (or_cases (is_other_version (Some fvar)) (is_other_version (find (codes "avar"))) h) [
    | inl k ↦ other_fvar (other_is find (codes "fvar") (ap is_other_version is ∙ k))
    | inr k ↦ other_avar (is_some_of (find (codes "fvar")) fvar is) (other_is find (codes "avar") k)
  ]

  not_normalized : (fvar : List ℕ) (avar : Option (List ℕ)) → find (codes "fvar") ≡ Some fvar → find (codes "avar") ≡ avar → normalized fvar avar settings ≡ None → HasCoordinatesFault find MalformedFont
  unfolding normalized
  not_normalized fvar avar is avar_is h =
      elim (bind_none (axes fvar) (coordinates_by avar settings) h) [
        | inl k ↦ in_axes fvar is (axes_refused fvar k)
        | inr k ↦ by avar avar_is k.0 k.1 k.2
      ]
    where
      by : (avar : Option (List ℕ)) → find (codes "avar") ≡ avar → (l : List Axis) → axes fvar ≡ Some l → coordinates_by avar settings l ≡ None → HasCoordinatesFault find MalformedFont
      by None avar_is l read k = absurd cc
      by (Some avar) avar_is l read k =
          let p = axes_parts fvar l read in
          in_avar fvar avar (length l) is avar_is (p.count_is ∙ ap (λ (n : ℕ). Some n) (sym (axes_count p.count p.size fvar p.at l p.records))) (avar_refused settings avar l k)

  pub place_refused : (e : Error) → normalized_coordinates find settings ≡ Err e → HasCoordinatesFault find e
  unfolding normalized_or_fault
  place_refused e h = by (find (codes "fvar")) refl h
    where
      by_version : (fvar : List ℕ) → find (codes "fvar") ≡ Some fvar → (b : Bool) → (is_other_version (Some fvar) || is_other_version (find (codes "avar"))) ≡ b → versioned b fvar (find (codes "avar")) ≡ Err e → HasCoordinatesFault find e
      by_version fvar is true t k = subst (HasCoordinatesFault find) (failed_is {A = List ℤ} Unimplemented e k) (version_is_other fvar is t)
      by_version fvar is false t k =
          let n = named_err (normalized fvar (find (codes "avar")) settings) MalformedFont e k in
          subst (HasCoordinatesFault find) n.1 (not_normalized fvar (find (codes "avar")) is refl n.0)

      by : (o : Option (List ℕ)) → find (codes "fvar") ≡ o → normalized_by o (find (codes "avar")) settings ≡ Err e → HasCoordinatesFault find e
      by None is k = absurd cc
      by (Some fvar) is k = by_version fvar is (is_other_version (Some fvar) || is_other_version (find (codes "avar"))) refl k

  -- where there are coordinates the tables have version 1 and were read
  record PlaceSteps (fvar : List ℕ) (at : List ℤ) : Type 0 where
    versions : (is_other_version (Some fvar) || is_other_version (find (codes "avar"))) ≡ false
    axes_read : List Axis
    axes_are : axes fvar ≡ Some axes_read
    read : coordinates_by (find (codes "avar")) settings axes_read ≡ Some at

  place_steps : (fvar : List ℕ) (at : List ℤ) → find (codes "fvar") ≡ Some fvar → normalized_coordinates find settings ≡ Ok at → PlaceSteps fvar at
  unfolding normalized_or_fault normalized
  place_steps fvar at is h = by (is_other_version (Some fvar) || is_other_version (find (codes "avar"))) refl (ap (λ o. normalized_by o (find (codes "avar")) settings) (sym is) ∙ h)
    where
      by : (b : Bool) → (is_other_version (Some fvar) || is_other_version (find (codes "avar"))) ≡ b → versioned b fvar (find (codes "avar")) ≡ Ok at → PlaceSteps fvar at
      by true t k = absurd cc
      by false t k =
          let a = bind_some (axes fvar) (coordinates_by (find (codes "avar")) settings) at (named_ok (normalized fvar (find (codes "avar")) settings) MalformedFont at k) in
          record { versions = t; axes_read = a.0; axes_are = a.1; read = a.2 }

  avar_read : (fvar avar : List ℕ) (at : List ℤ) (n : ℕ) → find (codes "avar") ≡ Some avar → number fvar 8 2 ≡ Some n → PlaceSteps fvar at → HasAvarFault n avar → ⊥
  avar_read fvar avar at n is n_is s f =
      let p = axes_parts fvar s.axes_read s.axes_are in
      let same : n ≡ length s.axes_read = just_is n p.count (sym n_is ∙ p.count_is) ∙ sym (axes_count p.count p.size fvar p.at s.axes_read p.records) in
      avar_clean settings avar s.axes_read at (ap (λ o. coordinates_by o settings s.axes_read) (sym is) ∙ s.read) (subst (λ (k : ℕ). HasAvarFault k avar) same f)

  pub place_clean : (at : List ℤ) (e : Error) → normalized_coordinates find settings ≡ Ok at → HasCoordinatesFault find e → ⊥
  place_clean at _ h (other_fvar f) =
      let s = place_steps f.table at f.table_is h in
      let t : is_other_version (Some f.table) ≡ true = ap is_other_version (sym f.table_is) ∙ is_other_of find (codes "fvar") f in
      let clash = sym (or_left (is_other_version (Some f.table)) (is_other_version (find (codes "avar"))) t) ∙ s.versions in
      cc
  place_clean at _ h (other_avar there f) =
      let t = some_of (find (codes "fvar")) there in
      let s = place_steps t.0 at t.1 h in
      let clash = sym (or_right (is_other_version (Some t.0)) (is_other_version (find (codes "avar"))) (is_other_of find (codes "avar") f)) ∙ s.versions in
      cc
  place_clean at _ h (in_axes fvar is f) = let s = place_steps fvar at is h in axes_clean fvar s.axes_read s.axes_are f
  place_clean at _ h (in_avar fvar avar n is avar_is n_is f) = avar_read fvar avar at n avar_is n_is (place_steps fvar at is h) f
