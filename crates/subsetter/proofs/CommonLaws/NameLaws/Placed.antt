-- Records of `name` that get their places in turn.
use Rattle.std.proofs.Common.{◌≡◌, ℕ, ◌*◌, ◌/◌, ◌<◌, ◌≤◌, Bool, true, false, cond, leb, List, [], ◌∷◌, ◌++◌, length, append_assoc, Option, Some, Result, Ok, Err, refl, sym, ap, ◌∙◌, arith}
use Rattle.std.specs.Prelude.{filter, flat_map, if◌then◌else◌}
use Rattle.std.specs.Option.{ok_or}
use Rattle.std.proofs.lemmas.Bool.{le-leb, lt-leb, leb-true, leb-false}
use Rattle.subsetter_base.specs.Bytes.{◌>>=◌}
use Rattle.subsetter_base.specs.declared.error.Error.{Error}
use Rattle.subsetter_base.proofs.Results.{done}
use Rattle.subsetter_base.specs.declared.error.Error.TheVariants.{SubsetError}
use Rattle.subsetter_sfnt.specs.declared.fields.name.NameRecord.{NameRecord}
use Rattle.subsetter.specs.Common.Name.Read.{NameTable, is_kept_record, with_string, joined, name_bytes}
use Rattle.subsetter_sfnt.specs.Fields.Name.{name_record_bytes, string_of}
use Rattle.subsetter.specs.Common.Name.Plain.{Placed, Laid, placed, placed_string, with_name, few_names, subset_names, header_bytes, laid_after, few_laid, laid_bytes, kept_bytes}
use Rattle.subsetter.proofs.CommonLaws.NameLaws.Back.{length-records}

abbrev laid : List ℕ → List (List ℕ) → Laid
laid bytes strings = record { bytes = bytes; strings = strings }

-- a record after those that are written, or before those that are placed
record_moved : (front : List ℕ) (r : NameRecord) (at : ℕ) (read : Result Placed Error) → laid_after (front ++ name_record_bytes (record r { string_offset = at })) read ≡ laid_after front (read >>= λ p. Ok (with_name r at p))
record_moved front r at (Ok p) = ap (λ (l : List ℕ). done (laid l p.strings)) (append_assoc front (name_record_bytes (record r { string_offset = at })) (flat_map name_record_bytes p.names))
record_moved front r at (Err e) = refl

-- where the whole is what was written and the rest, it is so after one record more
pub one_more : (storage front after : List ℕ) (ts us : List (List ℕ)) (r : NameRecord) (rs rest : List NameRecord) (s : List ℕ) (at : ℕ) (total : Result Laid Error)
    → rs ≡ r ∷ rest → is_kept_record r ≡ true → string_of storage r ≡ Some s → placed_string ts s ≡ Ok at → us ≡ with_string ts s → after ≡ front ++ name_record_bytes (record r { string_offset = at })
    → laid_after front (placed storage ts (filter is_kept_record rs)) ≡ total → laid_after after (placed storage us (filter is_kept_record rest)) ≡ total
one_more storage front after ts us r rs rest s at total is kept there place strings written h =
    let others = filter is_kept_record rest in
    let first : filter is_kept_record rs ≡ r ∷ others = ap (filter is_kept_record) is ∙ ap (λ b. cond b (r ∷ others) others) kept in
    let found : placed storage ts (r ∷ others) ≡ (placed_string ts s >>= λ n. placed storage (with_string ts s) others >>= λ p. Ok (with_name r n p)) = ap (λ (o : Option (List ℕ)). ok_or o SubsetError >>= λ x. placed_string ts x >>= λ n. placed storage (with_string ts x) others >>= λ p. Ok (with_name r n p)) there in
    let step : placed storage ts (r ∷ others) ≡ (placed storage (with_string ts s) others >>= λ p. Ok (with_name r at p)) = found ∙ ap (λ (x : Result ℕ Error). x >>= λ n. placed storage (with_string ts s) others >>= λ p. Ok (with_name r n p)) place in
    ap (λ (l : List ℕ). laid_after l (placed storage us others)) written ∙ ap (λ (l : List (List ℕ)). laid_after (front ++ name_record_bytes (record r { string_offset = at })) (placed storage l others)) strings
    ∙ record_moved front r at (placed storage (with_string ts s) others) ∙ sym (ap (laid_after front) (ap (placed storage ts) first ∙ step)) ∙ h

-- ---- the whole table

abbrev few_or_none : Bool → Placed → Result NameTable Error
few_or_none b p = if b then Ok (record { records = p.names; storage = joined p.strings }) else Err SubsetError

abbrev table_of : Result NameTable Error → Result (List ℕ) Error
table_of r = r >>= λ n. Ok (name_bytes n.records n.storage)

abbrev bytes_or_none : Bool → List ℕ → List (List ℕ) → ℕ → Result (List ℕ) Error
bytes_or_none b bytes strings n = if b then Ok (header_bytes n ++ bytes ++ joined strings) else Err SubsetError

pub all_written : (t : NameTable) → laid_bytes t ≡ kept_bytes t
unfolding subset_names header_bytes name_bytes
all_written t = by (placed t.storage [] (filter is_kept_record t.records))
  where
    by : (x : Result Placed Error) → (laid_after [] x >>= few_laid) ≡ table_of (x >>= few_names)
    by (Ok p) =
        let bytes = flat_map name_record_bytes p.names in
        let long = length-records p.names in
        let count : length bytes / 12 ≡ length p.names = omega arith in
        let same : leb (length bytes) 65520 ≡ leb (length p.names) 5460 = alike (leb (length p.names) 5460) refl long in
        ap (λ b. bytes_or_none b bytes p.strings (length bytes / 12)) same ∙ ap (bytes_or_none (leb (length p.names) 5460) bytes p.strings) count ∙ turned (leb (length p.names) 5460)
      where
        alike : (b : Bool) → leb (length p.names) 5460 ≡ b → length (flat_map name_record_bytes p.names) ≡ length p.names * 12 → leb (length (flat_map name_record_bytes p.names)) 65520 ≡ b
        alike true t l = let few : length p.names ≤ 5460 = leb-true _ _ t in le-leb _ _ (omega arith)
        alike false t l = let many : 5460 < length p.names = leb-false _ _ t in lt-leb _ _ (omega arith)

        turned : (b : Bool) → bytes_or_none b (flat_map name_record_bytes p.names) p.strings (length p.names) ≡ table_of (few_or_none b p)
        turned true = refl
        turned false = refl
    by (Err d) = refl
