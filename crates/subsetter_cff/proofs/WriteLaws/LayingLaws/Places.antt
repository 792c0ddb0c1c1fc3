-- Where the parts of a laid-out table are.
use Rattle.std.proofs.Common.{◌≡◌, ℕ, suc, ◌+◌, List, [], ◌∷◌, ◌++◌, length, refl, ap, arith, ◌∙◌, sym, append_assoc, length-append}
use Rattle.std.specs.Int.{bytes_high_first}
use Rattle.std.proofs.lemmas.List.{drop_at, append-nil}
use Rattle.std.proofs.lemmas.List.Concat.{flat_map-append}
use Rattle.subsetter_cffdata.specs.Bytes.{IsAt}
use Rattle.subsetter_cffdata.specs.Indexes.Index.{index, header as index_header, offset_size, numbers}
use Rattle.subsetter_cffdata.specs.Numerals.Numbers.{integer as written_integer}
use Rattle.subsetter_cffdata.specs.Dicts.Dict.{NewEntry, entry_bytes, dict}
use Rattle.subsetter_cff.specs.Read.Entries.Operators.{copyright_operator, notice_operator, font_name_operator, font_matrix_operator, font_box_operator}
use Rattle.subsetter_cff.specs.Write.Laying.Layout.{Parts, Offsets, strings, string_entries, registry_entry, placed_entries, top_entries, top_entries_by, front, nowhere, table_offsets, charset_of, privates, select_of, font_dicts_of, charset_offset, privates_offset, fd_select_offset, fd_array_offset, char_strings_offset, cff_table}
use Rattle.subsetter_cffdata.specs.Dicts.Plain.{plain_entry}

-- ---- the length of the front doesn't depend on the places
same_header : (d e : List ℕ) → length d ≡ length e → index_header (d ∷ []) ≡ index_header (e ∷ [])
unfolding index_header
same_header d e h =
    let made : ℕ → ℕ → List ℕ = λ total n. bytes_high_first 2 1 ++ (offset_size (total + 1) ∷ numbers (offset_size (total + 1)) (1 ∷ (1 + n) ∷ [])) in
    let total : length (d ++ []) ≡ length (e ++ []) = ap length (append-nil d) ∙ h ∙ sym (ap length (append-nil e)) in
    ap (λ (k : ℕ). made k (length d)) total ∙ ap (made (length (e ++ []))) h

same_length : (d e : List ℕ) → length d ≡ length e → length (index (d ∷ [])) ≡ length (index (e ∷ []))
unfolding index
same_length d e h =
    omega (arith, ap length (same_header d e h), h, length-append (index_header (d ∷ [])) (d ++ []), length-append (index_header (e ∷ [])) (e ++ []), length-append d [], length-append e [])

same_after : (xs ys zs : List NewEntry) → length (dict ys) ≡ length (dict zs) → length (dict (xs ++ ys)) ≡ length (dict (xs ++ zs))
same_after xs ys zs e =
    omega (arith, e, ap length (flat_map-append entry_bytes xs ys), ap length (flat_map-append entry_bytes xs zs), length-append (dict xs) (dict ys), length-append (dict xs) (dict zs))

pub length-placed : (o : Offsets) → length (dict (placed_entries o)) ≡ 33
unfolding written_integer
length-placed o = refl

length-top : (p : Parts) (o : Offsets) → length (dict (top_entries p o)) ≡ length (dict (top_entries p nowhere))
unfolding top_entries_by
length-top p o =
    let t1 : Offsets → List NewEntry = λ q. plain_entry font_matrix_operator p.matrix ∷ plain_entry font_box_operator p.box ∷ placed_entries q in
    let t2 : Offsets → List NewEntry = λ q. string_entries (strings p) font_name_operator p.font_name ++ t1 q in
    let t3 : Offsets → List NewEntry = λ q. string_entries (strings p) notice_operator p.notice ++ t2 q in
    let t4 : Offsets → List NewEntry = λ q. string_entries (strings p) copyright_operator p.copyright ++ t3 q in
    same_after (registry_entry ∷ []) (t4 o) (t4 nowhere)
    (same_after (string_entries (strings p) copyright_operator p.copyright) (t3 o) (t3 nowhere)
    (same_after (string_entries (strings p) notice_operator p.notice) (t2 o) (t2 nowhere)
    (same_after (string_entries (strings p) font_name_operator p.font_name) (t1 o) (t1 nowhere)
    (same_after (plain_entry font_matrix_operator p.matrix ∷ plain_entry font_box_operator p.box ∷ []) (placed_entries o) (placed_entries nowhere) (length-placed o ∙ sym (length-placed nowhere))))))

between : (a x y b : List ℕ) → length x ≡ length y → length (a ++ (x ++ b)) ≡ length (a ++ (y ++ b))
between a x y b h = omega (arith, h, length-append a (x ++ b), length-append a (y ++ b), length-append x b, length-append y b)

pub length-front : (p : Parts) (o : Offsets) → length (front p o) ≡ length (front p nowhere)
unfolding front
length-front p o =
    let top = same_length (dict (top_entries p o)) (dict (top_entries p nowhere)) (length-top p o) in
    ap (λ (n : ℕ). suc (suc (suc (suc n)))) (between p.names (index (dict (top_entries p o) ∷ [])) (index (dict (top_entries p nowhere) ∷ [])) (index (strings p) ++ index []) top)

-- ---- the parts
stands_after : (table before piece after : List ℕ) (n : ℕ) → table ≡ before ++ (piece ++ after) → n ≡ length before → IsAt table n piece
stands_after table before piece after n e at = (after, rw (e, at) (drop_at before (piece ++ after) (length before) refl))

pub charset_stands : (p : Parts) → IsAt (cff_table p) (charset_offset p) (charset_of p)
unfolding cff_table
charset_stands p = stands_after _ (front p (table_offsets p)) (charset_of p) _ (charset_offset p) refl (sym (length-front p (table_offsets p)))

-- what comes before the private dicts
abbrev pub before_privates : Parts → List ℕ
before_privates p = front p (table_offsets p) ++ charset_of p

pub length-before_privates : (p : Parts) → length (before_privates p) ≡ privates_offset p
length-before_privates p = omega (arith, length-front p (table_offsets p), length-append (front p (table_offsets p)) (charset_of p))

pub privates_in_table : (p : Parts) → cff_table p ≡ before_privates p ++ (privates p.font_dicts ++ (select_of p ++ (font_dicts_of p ++ index p.char_strings)))
unfolding cff_table
privates_in_table p = sym (append_assoc (front p (table_offsets p)) (charset_of p) (privates p.font_dicts ++ (select_of p ++ (font_dicts_of p ++ index p.char_strings))))

pub select_stands : (p : Parts) → IsAt (cff_table p) (fd_select_offset p) (select_of p)
select_stands p =
    let before = before_privates p ++ privates p.font_dicts in
    let after = font_dicts_of p ++ index p.char_strings in
    stands_after _ before (select_of p) after (fd_select_offset p) (privates_in_table p ∙ sym (append_assoc (before_privates p) (privates p.font_dicts) (select_of p ++ after)))
    (omega (arith, length-before_privates p, length-append (before_privates p) (privates p.font_dicts)))

pub font_dicts_stand : (p : Parts) → IsAt (cff_table p) (fd_array_offset p) (font_dicts_of p)
font_dicts_stand p =
    let first = before_privates p ++ privates p.font_dicts in
    let before = first ++ select_of p in
    let after = font_dicts_of p ++ index p.char_strings in
    let whole : cff_table p ≡ before ++ after =
    privates_in_table p ∙ sym (append_assoc (before_privates p) (privates p.font_dicts) (select_of p ++ after)) ∙ sym (append_assoc first (select_of p) after) in
    stands_after _ before (font_dicts_of p) (index p.char_strings) (fd_array_offset p) whole
    (omega (arith, length-before_privates p, length-append (before_privates p) (privates p.font_dicts), length-append first (select_of p)))

pub char_strings_stand : (p : Parts) → IsAt (cff_table p) (char_strings_offset p) (index p.char_strings)
char_strings_stand p =
    let first = before_privates p ++ privates p.font_dicts in
    let second = first ++ select_of p in
    let before = second ++ font_dicts_of p in
    let chars = index p.char_strings in
    let after = font_dicts_of p ++ chars in
    let whole : cff_table p ≡ before ++ (chars ++ []) =
    privates_in_table p ∙ sym (append_assoc (before_privates p) (privates p.font_dicts) (select_of p ++ after)) ∙ sym (append_assoc first (select_of p) after)
    ∙ sym (append_assoc second (font_dicts_of p) chars) ∙ ap (λ (l : List ℕ). before ++ l) (sym (append-nil chars)) in
    stands_after _ before chars [] (char_strings_offset p) whole
    (omega (arith, length-before_privates p, length-append (before_privates p) (privates p.font_dicts), length-append first (select_of p), length-append second (font_dicts_of p)))
