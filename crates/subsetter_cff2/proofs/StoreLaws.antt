-- A store, its bytes and the number of its item variation data.
use Rattle.std.proofs.Common.{◌≡◌, ℕ, ◌+◌, ◌*◌, ◌<◌, ◌≤◌, length, take, drop, Bool, true, false, cond, ltb, eqb, List, Option, Some, None, refl, ap, sym, ◌∙◌, arith}
use Rattle.std.specs.Prelude.{unwrap_or}
use Rattle.std.proofs.lemmas.Bool.{le-ltb, le-leb, lt-leb}
use Rattle.std.proofs.lemmas.Option.{none-some, same_Some}
use Rattle.subsetter_base.specs.Options.{◌>>=◌}
use Rattle.subsetter_base.specs.Bytes.{number, range}
use Rattle.subsetter_variation.specs.Items.ItemVariations.{Store, item_store, data_offset, data_regions, nullable_offset}

-- ---- a store keeps the bytes that it begins
record Keeps (bytes : List ℕ) (o : Option Store) : Type 0 where
  same : (s : Store) → o ≡ Some s → s.bytes ≡ bytes

following : {A : Type 0} (bytes : List ℕ) (o : Option A) (f : A → Option Store) → ((x : A) → Keeps bytes (f x)) → Keeps bytes (o >>= f)
following bytes None f h = record { same = λ s e. absurd (none-some s e) }
following bytes (Some x) f h = h x

if_format : (bytes : List ℕ) (b : Bool) (made : Store) → made.bytes ≡ bytes → Keeps bytes (cond b (Some made) None)
if_format bytes true made is = record { same = λ s e. ap (λ (x : Store). x.bytes) (sym (same_Some _ _ e)) ∙ is }
if_format bytes false made is = record { same = λ s e. absurd (none-some s e) }

keeps : (bytes : List ℕ) → Keeps bytes (item_store bytes)
unfolding item_store
keeps bytes =
    following bytes (number bytes 0 2) _ (λ format. following bytes (nullable_offset bytes 2) _ (λ at. following bytes (number bytes at 2) _ (λ axes.
    following bytes (number bytes (at + 2) 2) _ (λ count. following bytes (range bytes (at + 4) (count * (axes * 6))) _ (λ regions. if_format bytes (eqb format 1) _ refl)))))

pub begins : (bytes : List ℕ) (s : Store) → Some s ≡ item_store bytes
    → Some (record { axis_count = s.axis_count; region_count = s.region_count; regions = s.regions; bytes = bytes }) ≡ item_store bytes
begins bytes s e =
    ap (λ (b : List ℕ). Some (record { axis_count = s.axis_count; region_count = s.region_count; regions = s.regions; bytes = b })) (sym ((keeps bytes).same s (sym e))) ∙ e

-- ---- from the number of item variation data on there are none
no_more : (o x : Option ℕ) (outer : ℕ) → unwrap_or o 0 ≤ outer → (o >>= λ n. cond (ltb outer n) x None) ≡ None
no_more None x outer le = refl
no_more (Some n) x outer le = rw (le-ltb outer n le) refl

pub no_data : (s : Store) (outer : ℕ) → unwrap_or (number s.bytes 6 2) 0 ≤ outer → data_regions s outer ≡ None
unfolding data_regions
no_data s outer le =
    ap (λ (o : Option ℕ). o >>= λ at. number s.bytes (at + 4) 2 >>= λ count. range s.bytes (at + 6) (count * 2)) (no_more (number s.bytes 6 2) (nullable_offset s.bytes (8 + outer * 4)) outer le)

-- ---- where the region indexes are
in_range : (bytes : List ℕ) (at size : ℕ) → at + size ≤ length bytes → range bytes at size ≡ Some (take size (drop at bytes))
in_range bytes at size le = rw (le-leb (at + size) (length bytes) le) refl

past_range : (bytes : List ℕ) (at size : ℕ) → length bytes < at + size → range bytes at size ≡ None
past_range bytes at size lt = rw (lt-leb (at + size) (length bytes) lt) refl

abbrev by_offset : Store → Option ℕ → Option (List ℕ)
by_offset s offset = offset >>= λ at. number s.bytes (at + 4) 2 >>= λ count. range s.bytes (at + 6) (count * 2)

abbrev by_count : Store → ℕ → Option ℕ → Option (List ℕ)
by_count s at counted = counted >>= λ count. range s.bytes (at + 6) (count * 2)

pub no_offset : (s : Store) (outer : ℕ) → None ≡ data_offset s outer → None ≡ data_regions s outer
unfolding data_regions
no_offset s outer e = ap (by_offset s) e

pub no_count : (s : Store) (outer at : ℕ) → Some at ≡ data_offset s outer → None ≡ number s.bytes (at + 4) 2 → None ≡ data_regions s outer
unfolding data_regions
no_count s outer at e n = ap (by_count s at) n ∙ ap (by_offset s) e

pub cut_off : (s : Store) (outer at count : ℕ) → Some at ≡ data_offset s outer → Some count ≡ number s.bytes (at + 4) 2 → length s.bytes < at + 6 + count * 2 → None ≡ data_regions s outer
unfolding data_regions
cut_off s outer at count e n lt = sym (past_range s.bytes (at + 6) (count * 2) lt) ∙ ap (by_count s at) n ∙ ap (by_offset s) e

pub they_are : (s : Store) (outer at count start : ℕ) → Some at ≡ data_offset s outer → Some count ≡ number s.bytes (at + 4) 2 → start ≡ at + 6 → start + count * 2 ≤ length s.bytes
    → Some (take (count * 2) (drop start s.bytes)) ≡ data_regions s outer
unfolding data_regions
they_are s outer at count start e n same le =
    ap (λ (i : ℕ). Some (take (count * 2) (drop i s.bytes))) same
    ∙ sym (in_range s.bytes (at + 6) (count * 2) (omega (arith, same, le))) ∙ ap (by_count s at) n ∙ ap (by_offset s) e
