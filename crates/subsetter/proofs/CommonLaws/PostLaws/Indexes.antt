-- Names and indexes of `post`.
use Rattle.std.proofs.Common.{◌≡◌, ℕ, zero, suc, ◌+◌, ◌-◌, ◌≤◌, Bool, true, false, cond, leb, ltb, List, [], ◌∷◌, ◌++◌, length, get_or, take, drop, Ok, Err, refl, sym, ap, ◌∙◌, append_assoc, arith}
use Rattle.std.specs.Prelude.{map, flat_map}
use Rattle.std.specs.Int.{w16, to_be_bytes}
use Rattle.std.proofs.lemmas.List.{length-drop, length-map, take_rest}
use Rattle.std.proofs.lemmas.List.Concat.{flat_map-cons}
use Rattle.std.proofs.lemmas.Bool.{le-leb}
use Rattle.subsetter_base.specs.declared.error.Error.TheVariants.{OverflowError}
use Rattle.subsetter.specs.Common.Post.Read.{GlyphName, Standard, Custom, PostTable, pascal_strings, names_in, name_of_index, pascal_bytes, index_bytes, entry_bytes, post_bytes}
use Rattle.subsetter.specs.Common.Post.Plain.{custom_count, new_indexes, entry_of, post_of_indexes}

-- the own names in order
abbrev pub customs : List GlyphName → List (List ℕ)
customs [] = []
customs (Standard j ∷ ns) = customs ns
customs (Custom s ∷ ns) = s ∷ customs ns

-- how many names are looked for doesn't matter once there are as many as bytes
pub enough : (n m : ℕ) (bytes : List ℕ) → length bytes ≤ n → length bytes ≤ m → pascal_strings n bytes ≡ pascal_strings m bytes
enough zero zero bytes h k = refl
enough zero (suc m) [] h k = refl
enough zero (suc m) (x ∷ bytes) h k = absurd (omega arith)
enough (suc n) zero [] h k = refl
enough (suc n) zero (x ∷ bytes) h k = absurd (omega arith)
enough (suc n) (suc m) [] h k = refl
enough (suc n) (suc m) (x ∷ bytes) h k = ap (λ (l : List (List ℕ)). cond (leb x (length bytes)) (take x bytes ∷ l) []) (enough n m (drop x bytes) (omega (arith, length-drop x bytes)) (omega (arith, length-drop x bytes)))

-- a name that is there, and those after it
pub first_name : (bytes rest : List ℕ) (len : ℕ) → bytes ≡ len ∷ rest → len ≤ length rest → names_in bytes ≡ take len rest ∷ names_in (take (length rest - len) (drop len rest))
first_name bytes rest len is le =
    ap names_in is ∙ ap (λ b. cond b (take len rest ∷ pascal_strings (length rest) (drop len rest)) []) (le-leb _ _ le)
    ∙ ap (λ (l : List (List ℕ)). take len rest ∷ l) (enough (length rest) (length (drop len rest)) (drop len rest) (omega (arith, length-drop len rest)) (omega arith) ∙ ap names_in (sym (take_rest rest len)))

-- ---- a table is written from indexes

pub indexes_written : (names : List (List ℕ)) (k : ℕ) (is : List ℕ) → new_indexes k is ≡ index_bytes k (map (name_of_index names) is)
indexes_written names k [] = refl
indexes_written names k (i ∷ is) = by (ltb i 258) (indexes_written names k is) (indexes_written names (k + 1) is)
  where
    by : (b : Bool) → new_indexes k is ≡ index_bytes k (map (name_of_index names) is) → new_indexes (k + 1) is ≡ index_bytes (k + 1) (map (name_of_index names) is)
        → cond b (to_be_bytes w16 i ++ new_indexes k is) (to_be_bytes w16 (258 + k) ++ new_indexes (k + 1) is) ≡ index_bytes k (cond b (Standard i) (Custom (get_or names (i - 258) [])) ∷ map (name_of_index names) is)
    by true same more = ap (λ (l : List ℕ). to_be_bytes w16 i ++ l) same
    by false same more = ap (λ (l : List ℕ). to_be_bytes w16 (258 + k) ++ l) more

pub entries_written : (names : List (List ℕ)) (is : List ℕ) → flat_map (entry_of names) is ≡ flat_map entry_bytes (map (name_of_index names) is)
entries_written names [] = refl
entries_written names (i ∷ is) =
    flat_map-cons (entry_of names) i is ∙ by (ltb i 258) (entries_written names is) ∙ sym (flat_map-cons entry_bytes (name_of_index names i) (map (name_of_index names) is))
  where
    by : (b : Bool) → flat_map (entry_of names) is ≡ flat_map entry_bytes (map (name_of_index names) is)
        → cond b [] (pascal_bytes (get_or names (i - 258) [])) ++ flat_map (entry_of names) is ≡ entry_bytes (cond b (Standard i) (Custom (get_or names (i - 258) []))) ++ flat_map entry_bytes (map (name_of_index names) is)
    by true same = same
    by false same = ap (λ (l : List ℕ). pascal_bytes (get_or names (i - 258) []) ++ l) same

pub written : (t : PostTable) (names : List (List ℕ)) (is : List ℕ) (count : ℕ) (w1 w2 w3 w4 out : List ℕ) → names ≡ names_in t.names_data → count ≡ length is → custom_count is ≤ 65278
    → w1 ≡ t.header → w2 ≡ w1 ++ to_be_bytes w16 count → w3 ≡ w2 ++ new_indexes 0 is → w4 ≡ w3 ++ flat_map (entry_of names) is → out ≡ w4 → post_of_indexes t is ≡ Ok out
unfolding post_of_indexes post_bytes
written t names is count w1 w2 w3 w4 out n c few h1 h2 h3 h4 h5 =
    let ns = map (name_of_index (names_in t.names_data)) is in
    let len : to_be_bytes w16 count ≡ to_be_bytes w16 (length ns) = ap (to_be_bytes w16) (c ∙ sym (length-map is (name_of_index (names_in t.names_data)))) in
    let entries : flat_map (entry_of names) is ≡ flat_map entry_bytes ns = ap (λ (l : List (List ℕ)). flat_map (entry_of l) is) n ∙ entries_written (names_in t.names_data) is in
    ap (λ b. cond b (Ok (t.header ++ to_be_bytes w16 (length ns) ++ index_bytes 0 ns ++ flat_map entry_bytes ns)) (Err OverflowError)) (le-leb _ _ few)
    ∙ ap Ok (sym (h5 ∙ four t.header (to_be_bytes w16 (length ns)) (index_bytes 0 ns) (flat_map entry_bytes ns) w1 w2 w3 w4 h1 (h2 ∙ ap (λ (l : List ℕ). w1 ++ l) len) (h3 ∙ ap (λ (l : List ℕ). w2 ++ l) (indexes_written (names_in t.names_data) 0 is)) (h4 ∙ ap (λ (l : List ℕ). w3 ++ l) entries)))
  where
    four : (a b c d w1 w2 w3 w4 : List ℕ) → w1 ≡ a → w2 ≡ w1 ++ b → w3 ≡ w2 ++ c → w4 ≡ w3 ++ d → w4 ≡ a ++ b ++ c ++ d
    four a b c d w1 w2 w3 w4 h1 h2 h3 h4 = rw (h4, h3, h2, h1) (simp append_assoc)
