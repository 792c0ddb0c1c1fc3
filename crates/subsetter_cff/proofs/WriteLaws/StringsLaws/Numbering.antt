-- The strings of a new table and their numbers.
use Rattle.std.proofs.Common.{◌≡◌, ℕ, ◌+◌, ◌≤◌, Bool, true, false, cond, List, [], ◌∷◌, ◌++◌, length, map, Option, Some, None, refl, ap, arith, ◌∙◌, sym, length-append}
use Rattle.std.specs.Prelude.{unwrap_or, is_some, codes}
use Rattle.std.specs.Option.{option_map}
use Rattle.std.specs.Str.{bytes_eq}
use Rattle.subsetter_base.specs.Remap.{with_value, index_by}
use Rattle.std.specs.List.{flat_map}
use Rattle.subsetter_cff.specs.declared.write.laying.table.FontDictParts.{FontDictParts}
use Rattle.subsetter_cff.specs.declared.write.laying.table.TableParts.{TableParts}
use Rattle.subsetter_cff.specs.Write.Laying.Layout.{FontDict, Parts, custom_string, named_strings, with_strings, strings}
use Rattle.subsetter_cff.specs.Write.Laying.PartsView.{string_view, font_dict_view, dict_texts, parts_view}
use Rattle.subsetter_cff.specs.Read.Strings.{standard_strings}

numbered : (o : Option ℕ) → unwrap_or (option_map (λ i. standard_strings + i) o) standard_strings ≡ standard_strings + unwrap_or o 0
numbered None = refl
numbered (Some i) = refl

pub number_is : (texts : List (List ℕ)) (s : List ℕ) → unwrap_or (option_map (λ i. standard_strings + i) (index_by bytes_eq texts s)) standard_strings ≡ standard_strings + unwrap_or (index_by bytes_eq texts s) 0
number_is texts s = numbered (index_by bytes_eq texts s)

pub past_strings : (found xs ys : List (List ℕ)) → with_strings found (xs ++ ys) ≡ with_strings (with_strings found xs) ys
past_strings found [] ys = refl
past_strings found (x ∷ xs) ys = past_strings (with_value bytes_eq found x) xs ys

longer : (b : Bool) (xs : List (List ℕ)) (x : List ℕ) → length (cond b xs (xs ++ x ∷ [])) ≤ length xs + 1
longer true xs x = omega arith
longer false xs x = omega (arith, length-append xs (x ∷ []))

pub longer_by_one : (xs : List (List ℕ)) (x : List ℕ) → length (with_value bytes_eq xs x) ≤ length xs + 1
longer_by_one xs x = longer (is_some (index_by bytes_eq xs x)) xs x

-- five strings and those of the font dicts
pub all_numbered : (p : Parts) (t0 t1 t2 t3 t4 t5 t6 a b c d : List (List ℕ)) → t0 ≡ [] → t1 ≡ with_strings t0 (codes "Adobe" ∷ []) → t2 ≡ with_strings t1 (codes "Identity" ∷ []) → t3 ≡ with_strings t2 a → t4 ≡ with_strings t3 b
    → t5 ≡ with_strings t4 c → t6 ≡ with_strings t5 d → named_strings p ≡ codes "Adobe" ∷ codes "Identity" ∷ (a ++ (b ++ (c ++ d))) → t6 ≡ strings p
unfolding strings
all_numbered p t0 t1 t2 t3 t4 t5 t6 a b c d e0 e1 e2 e3 e4 e5 e6 is =
    let first = with_strings [] (codes "Adobe" ∷ codes "Identity" ∷ []) in
    let whole : with_strings [] (codes "Adobe" ∷ codes "Identity" ∷ (a ++ (b ++ (c ++ d)))) ≡ with_strings (with_strings (with_strings (with_strings first a) b) c) d =
    past_strings first a (b ++ (c ++ d)) ∙ past_strings (with_strings first a) b (c ++ d) ∙ past_strings (with_strings (with_strings first a) b) c d in
    rw (e6, e5, e4, e3, e2, e1, e0, is) (sym whole)

dicts_same : (fs : List FontDictParts) → flat_map (λ (f : FontDict). custom_string f.name) (map font_dict_view fs) ≡ dict_texts fs
dicts_same [] = refl
dicts_same (f ∷ fs) = ap (λ (l : List (List ℕ)). custom_string (string_view f.name) ++ l) (dicts_same fs)

pub table_names : (t : TableParts) → named_strings (parts_view t [])
    ≡ codes "Adobe" ∷ codes "Identity" ∷ (custom_string (string_view t.copyright) ++ (custom_string (string_view t.font_name) ++ (custom_string (string_view t.notice) ++ dict_texts t.font_dicts.items)))
table_names t =
    ap (λ (l : List (List ℕ)). codes "Adobe" ∷ codes "Identity" ∷ (custom_string (string_view t.copyright) ++ (custom_string (string_view t.font_name) ++ (custom_string (string_view t.notice) ++ l)))) (dicts_same t.font_dicts.items)
