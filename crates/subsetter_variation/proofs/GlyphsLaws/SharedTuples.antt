-- Tuples whose peaks are shared.
use Rattle.std.proofs.Common.{◌≡◌, ℕ, ◌+◌, ◌-◌, ◌*◌, ◌%◌, ◌<◌, List, [], ◌∷◌, ◌++◌, length, get_or, Option, Some, None, false, ℤ, pos, refl, ap, sym, subst, ◌∙◌, arith, below_more, length-append}
use Rattle.std.specs.Prelude.{IfSome, nat_le, if◌then◌else◌}
use Rattle.std.specs.Option.{option_map}
use Rattle.std.proofs.lemmas.List.{get_or_append_left}
use Rattle.std.proofs.Math.Seq.{get_or-append_seam}
use Rattle.subsetter_base.specs.Bytes.{range}
use Rattle.subsetter_base.specs.Options.{◌>>=◌}
use Rattle.subsetter_variation.specs.Region.{scalar}
use Rattle.subsetter_variation.specs.declared.region.RegionAxis.{RegionAxis}
use Rattle.subsetter_variation.specs.Packing.Packed.{word_in}
use Rattle.subsetter_variation.specs.Glyphs.SharedScalars.{AreSharedScalars, IsSharedScalar}
use Rattle.subsetter_variation.specs.Glyphs.Tuples.{Gvar, TupleHeader, TupleHeaders, ends_in, next_header, peaks_in, region_axes, region_in, split, tuple_size}

-- one more scalar
pub scalars_more : (t : Gvar) (at scalars : List ℤ) (x : ℤ) (i : ℕ) → length scalars ≡ i → AreSharedScalars t at scalars → IsSharedScalar t at i x → AreSharedScalars t at (scalars ++ x ∷ [])
scalars_more t at scalars x i n s h k l =
    let len : length (scalars ++ x ∷ []) ≡ i + 1 = length-append scalars (x ∷ []) ∙ ap (λ m. m + 1) n in
    below_more (λ m. IsSharedScalar t at m (get_or (scalars ++ x ∷ []) m (pos 0))) i
    (λ m b. subst (IsSharedScalar t at m) (sym (get_or_append_left scalars (x ∷ []) (pos 0) m (omega (arith, n)))) (s m (omega (arith, n))))
    (subst (IsSharedScalar t at i) (sym (ap (λ m. get_or (scalars ++ x ∷ []) m (pos 0)) (sym n) ∙ get_or-append_seam scalars x [] (pos 0))) h)
    k (omega (arith, len, l))

module _ (t : Gvar) (flags : ℕ) (bytes : List ℕ) (plain : flags < 16384) where
  abbrev found : Option (List ℕ)
  found = range t.shared (flags % 4096 * tuple_size t.axis_count) (tuple_size t.axis_count)

  abbrev axes : List ℕ → List RegionAxis
  axes p = region_axes false t.axis_count p p p

  peaks_are : peaks_in t flags bytes ≡ option_map (λ p. (p, bytes)) found
  peaks_are =
      let b : nat_le 32768 flags ≡ false = grind arith in
      ap (λ own. if own then split (tuple_size t.axis_count) bytes else option_map (λ p. (p, bytes)) found) b

  ends_are : (p : List ℕ) → ends_in t.axis_count flags p bytes ≡ Some (axes p, bytes)
  ends_are p =
      let m : flags % 32768 ≡ flags = grind arith in
      let b : nat_le 16384 (flags % 32768) ≡ false = grind (arith, m) in
      rw b refl

  abbrev with_bytes : List ℕ → List ℕ × List ℕ
  with_bytes p = (p, bytes)

  abbrev with_axes : List ℕ → List RegionAxis × List ℕ
  with_axes p = (axes p, bytes)

  abbrev with_ends : List ℕ × List ℕ → Option (List RegionAxis × List ℕ)
  with_ends peaks = ends_in t.axis_count flags peaks.0 peaks.1

  by_range : (o : Option (List ℕ)) → (option_map with_bytes o >>= with_ends) ≡ option_map with_axes o
  by_range None = refl
  by_range (Some p) = ends_are p

  region_is : region_in t flags bytes ≡ option_map with_axes found
  unfolding region_in
  region_is = ap (λ o. o >>= with_ends) peaks_are ∙ by_range found

  module _ (size : ℕ) (left : ℕ) (at : List ℤ) (x : ℤ) (next : TupleHeader × TupleHeaders) (is : IsSharedScalar t at (flags % 4096) x) where
    abbrev rest_of : Option (List ℕ × List ℕ) → List RegionAxis × List ℕ → Option (TupleHeader × TupleHeaders)
    rest_of own region = own >>= λ w. Some (record { region = region.0; private_numbers = nat_le 8192 (flags % 16384); packed = w.0 }, record { left = left; headers = region.1; serialized = w.1 })

    first_region : Option (TupleHeader × TupleHeaders) → List RegionAxis
    first_region None = []
    first_region (Some n) = n.0.region

    by_found : (o : Option (List ℕ)) (own : Option (List ℕ × List ℕ)) → found ≡ o → (option_map with_axes o >>= rest_of own) ≡ Some next → x ≡ scalar next.0.region at
    unfolding first_region
    by_found None own f h = absurd cc
    by_found (Some p) None f h = absurd cc
    by_found (Some p) (Some w) f h = is.value p f ∙ ap (λ r. scalar r at) (ap first_region h)

pub listed_is : (t : Gvar) (r : TupleHeaders) (next : TupleHeader × TupleHeaders) (size flags : ℕ) (rest bytes : List ℕ) (at : List ℤ) (x : ℤ) → word_in r.headers ≡ Some (size, rest) → word_in rest ≡ Some (flags, bytes) → flags < 16384 → IsSharedScalar t at (flags % 4096) x → next_header t r ≡ Some next → x ≡ scalar next.0.region at
unfolding next_header
listed_is t r next size flags rest bytes at x h k plain is e =
    let first = rw (h, k, region_is t flags bytes plain) at e in
    by_found t flags bytes plain size (r.left - 1) at x next is (range t.shared (flags % 4096 * tuple_size t.axis_count) (tuple_size t.axis_count)) (split size r.serialized) refl first

-- what holds of a value, if there is one
pub if_some : (o : Option ℤ) (P Q : ℤ → Type 0) → ((x : ℤ) → P x → Q x) → IfSome o P → IfSome o Q
if_some None P Q f h = tt
if_some (Some x) P Q f h = f x h

-- the same table at the same location
pub scalars_same : (t u : Gvar) (l m s : List ℤ) → t ≡ u → l ≡ m → AreSharedScalars t l s → AreSharedScalars u m s
scalars_same t u l m s e f h = subst (λ (v : Gvar). AreSharedScalars v m s) e (subst (λ (k : List ℤ). AreSharedScalars t k s) f h)
