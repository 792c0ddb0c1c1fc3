-- The entries of an INDEX, by their number.
use Rattle.std.proofs.Common.{◌≡◌, ℕ, ◌<◌, List, length, map, Option, Some, arith, ◌∙◌, ap, zero-add}
use Rattle.std.specs.List.{range_with_len, slice_get}
use Rattle.std.proofs.lemmas.List.FromFn.{length-map-range_with_len, get_or-map-range_with_len}
use Rattle.std.proofs.lemmas.Option.{slice_get-get_or}
use Rattle.subsetter_cffdata.specs.Indexes.Index.{entry_at, entries}

pub length-entries : (size count : ℕ) (offsets object_data : List ℕ) → length (entries size count offsets object_data) ≡ count
length-entries size count offsets object_data = length-map-range_with_len (entry_at size offsets object_data) 0 count

pub slice_get-entries : (size count : ℕ) (offsets object_data : List ℕ) (i : ℕ) → i < count → slice_get (entries size count offsets object_data) i ≡ Some (entry_at size offsets object_data i)
slice_get-entries size count offsets object_data i lt =
    let f = entry_at size offsets object_data in
    slice_get-get_or (map f (range_with_len 0 count)) i (f i) (omega (arith, length-map-range_with_len f 0 count))
    ∙ ap (λ (x : Option (List ℕ)). Some x) (get_or-map-range_with_len f 0 count i i (f i) lt (zero-add i))

pub ruleset items_of = (length-entries, slice_get-entries)
