-- The tables of a file of bytes are bytes.
use Rattle.std.proofs.Common.{◌≡◌, ℕ, zero, suc, ◌/◌, ◌<◌, Bool, true, false, cond, List, [], ◌∷◌, ◌++◌, length, Option, Some, None, refl, subst, arith}
use Rattle.std.specs.Prelude.{codes, nat_le, replicate, take, drop}
use Rattle.std.specs.Option.{option_and_then, option_map}
use Rattle.std.specs.Str.{bytes_eq}
use Rattle.std.specs.Int.{w32, to_be_bytes}
use Rattle.subsetter_base.specs.Bytes.{range, IsBytes}
use Rattle.subsetter_base.proofs.ByteLemmas.{IsBytes-range, IsBytes-take, IsBytes-drop}
use Rattle.subsetter_sfnt.specs.declared.face.TableRecord.{TableRecord}
use Rattle.subsetter_base.proofs.Options.{just_is}
use Rattle.subsetter_sfnt.specs.Extras.{bare_fields, is_hinting_table, no_instructions, without_glyph_names, without_instructions, by_hinting, by_names, by_glyph_names}
use Rattle.subsetter_sfnt.specs.Read.{Font, records, directory_records, find_record, table_in, stored, table}

pub table_in_bytes : (bytes directory tag found : List ℕ) → IsBytes bytes → table_in bytes directory tag ≡ Some found → IsBytes found
table_in_bytes bytes directory tag found h e = by (find_record tag (directory_records (length directory / 16) directory)) e
  where
    by : (o : Option TableRecord) → option_and_then (λ (r : TableRecord). range bytes r.offset r.length) o ≡ Some found → IsBytes found
    by None k = absurd cc
    by (Some r) k = IsBytes-range bytes found r.offset r.length h k

pub stored_bytes : (font : Font) (tag found : List ℕ) → IsBytes font.bytes → stored font tag ≡ Some found → IsBytes found
stored_bytes font tag found h e = by (records font) e
  where
    by : (o : Option (List ℕ)) → option_and_then (λ (directory : List ℕ). table_in font.bytes directory tag) o ≡ Some found → IsBytes found
    by None k = absurd cc
    by (Some directory) k = table_in_bytes font.bytes directory tag found h k

-- so are those that are left
Holds : Option (List ℕ) → Type 0
Holds o = (found : List ℕ) → o ≡ Some found → IsBytes found

left_out : (b : Bool) (o : Option (List ℕ)) → Holds o → Holds (cond b None o)
unfolding Holds
left_out true o h found e = absurd cc
left_out false o h found e = h found e

by_names_bytes : (b : Bool) (tag : List ℕ) (o : Option (List ℕ)) → Holds o → Holds (by_names b tag o)
by_names_bytes true tag o h = h
by_names_bytes false tag o h = left_out (bytes_eq tag (codes "name")) o h

IsBytes-cons : (x : ℕ) (rest : List ℕ) → x < 256 → IsBytes rest → IsBytes (x ∷ rest)
IsBytes-cons x rest lt h zero = lt
IsBytes-cons x rest lt h (suc i) = h i

IsBytes-append : (xs ys : List ℕ) → IsBytes xs → IsBytes ys → IsBytes (xs ++ ys)
IsBytes-append [] ys h k = k
IsBytes-append (x ∷ xs) ys h k = IsBytes-cons x (xs ++ ys) (h 0) (IsBytes-append xs ys (λ i. h (suc i)) k)

IsBytes-zeros : (n : ℕ) → IsBytes (replicate n 0)
IsBytes-zeros zero = λ i. omega arith
IsBytes-zeros (suc n) = IsBytes-cons 0 (replicate n 0) (omega arith) (IsBytes-zeros n)

fields_bytes : (fields : List ℕ) → IsBytes fields → IsBytes (bare_fields fields)
fields_bytes fields h = by (nat_le 22 (length fields))
  where
    none : IsBytes no_instructions
    none = IsBytes-cons 0 (1 ∷ replicate 12 0) (omega arith) (IsBytes-cons 1 (replicate 12 0) (omega arith) (IsBytes-zeros 12))

    by : (b : Bool) → IsBytes (cond b (take 8 fields ++ no_instructions ++ drop 22 fields) fields)
    by true = IsBytes-append (take 8 fields ++ no_instructions) (drop 22 fields) (IsBytes-append (take 8 fields) no_instructions (IsBytes-take 8 fields h) none) (IsBytes-drop 22 fields h)
    by false = h

profile_of : (o : Option (List ℕ)) → Holds o → Holds (option_map without_instructions o)
unfolding Holds
profile_of None h found e = absurd cc
profile_of (Some maxp) h found e =
    let b = h maxp refl in
    subst IsBytes (just_is (without_instructions maxp) found e) (IsBytes-append (take 6 maxp) (bare_fields (drop 6 maxp)) (IsBytes-take 6 maxp b) (fields_bytes (drop 6 maxp) (IsBytes-drop 6 maxp b)))

by_hinting_bytes : (b : Bool) (tag : List ℕ) (o : Option (List ℕ)) → Holds o → Holds (by_hinting b tag o)
by_hinting_bytes true tag o h = h
by_hinting_bytes false tag o h = left_out (is_hinting_table tag) (cond (bytes_eq tag (codes "maxp")) (option_map without_instructions o) o) (by (bytes_eq tag (codes "maxp")))
  where
    by : (b : Bool) → Holds (cond b (option_map without_instructions o) o)
    by true = profile_of o h
    by false = h

header_bytes : (bytes : List ℕ) → IsBytes bytes → IsBytes (without_glyph_names bytes)
header_bytes bytes h = by (nat_le 32 (length bytes))
  where
    by : (b : Bool) → IsBytes (cond b (to_be_bytes w32 0x00030000 ++ take 28 (drop 4 bytes)) bytes)
    by true = IsBytes-cons 0 (3 ∷ 0 ∷ 0 ∷ take 28 (drop 4 bytes)) (omega arith) (IsBytes-cons 3 (0 ∷ 0 ∷ take 28 (drop 4 bytes)) (omega arith) (IsBytes-cons 0 (0 ∷ take 28 (drop 4 bytes)) (omega arith)
        (IsBytes-cons 0 (take 28 (drop 4 bytes)) (omega arith) (IsBytes-take 28 (drop 4 bytes) (IsBytes-drop 4 bytes h)))))
    by false = h

header_of : (o : Option (List ℕ)) → Holds o → Holds (option_map without_glyph_names o)
unfolding Holds
header_of None h found e = absurd cc
header_of (Some bytes) h found e = subst IsBytes (just_is (without_glyph_names bytes) found e) (header_bytes bytes (h bytes refl))

by_glyph_names_bytes : (b : Bool) (tag : List ℕ) (o : Option (List ℕ)) → Holds o → Holds (by_glyph_names b tag o)
by_glyph_names_bytes true tag o h = h
by_glyph_names_bytes false tag o h = by (bytes_eq tag (codes "post"))
  where
    by : (b : Bool) → Holds (cond b (option_map without_glyph_names o) o)
    by true = header_of o h
    by false = h

pub table_bytes : (font : Font) (tag found : List ℕ) → IsBytes font.bytes → table font tag ≡ Some found → IsBytes found
unfolding Holds
table_bytes font tag found h e =
    let x = font.extras in
    by_glyph_names_bytes x.glyph_names tag (by_names x.names tag (by_hinting x.hinting tag (stored font tag)))
    (by_names_bytes x.names tag (by_hinting x.hinting tag (stored font tag)) (by_hinting_bytes x.hinting tag (stored font tag) (λ f k. stored_bytes font tag f h k))) found e
