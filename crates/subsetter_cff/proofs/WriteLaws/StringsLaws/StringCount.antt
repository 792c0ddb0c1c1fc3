-- A subset has few strings: two of its own, three of the top dict, and one for each font dict.
use Rattle.std.proofs.Common.{ℕ, suc, ◌+◌, ◌≤◌, Bool, true, false, cond, List, [], ◌∷◌, ◌++◌, length, Option, Some, None, arith, length-append}
use Rattle.std.specs.Prelude.{is_some}
use Rattle.std.specs.List.{flat_map}
use Rattle.std.specs.Str.{bytes_eq}
use Rattle.subsetter_base.specs.Remap.{with_value, index_by}
use Rattle.subsetter_cff.specs.Read.Strings.{FontString, Standard, Custom}
use Rattle.subsetter_cff.specs.Write.Laying.Layout.{FontDict, Parts, custom_string, named_strings, with_strings, strings}

one_more : (b : Bool) (xs : List (List ℕ)) (x : List ℕ) → length (cond b xs (xs ++ x ∷ [])) ≤ suc (length xs)
one_more true xs x = omega arith
one_more false xs x = omega (arith, length-append xs (x ∷ []))

with_all : (found more : List (List ℕ)) → length (with_strings found more) ≤ length found + length more
with_all found [] = omega arith
with_all found (s ∷ more) = omega (arith, with_all (with_value bytes_eq found s) more, one_more (is_some (index_by bytes_eq found s)) found s)

custom_one : (o : Option FontString) → length (custom_string o) ≤ 1
custom_one None = omega arith
custom_one (Some (Standard n)) = omega arith
custom_one (Some (Custom s)) = omega arith

dict_names : (fs : List FontDict) → length (flat_map (λ (f : FontDict). custom_string f.name) fs) ≤ length fs
dict_names [] = omega arith
dict_names (f ∷ fs) = omega (arith, custom_one f.name, dict_names fs, length-append (custom_string f.name) (flat_map (λ (g : FontDict). custom_string g.name) fs))

pub few_strings : (p : Parts) → length (strings p) ≤ 5 + length p.font_dicts
unfolding strings
few_strings p =
    let names = flat_map (λ (f : FontDict). custom_string f.name) p.font_dicts in
    omega (
      arith,
      with_all [] (named_strings p),
      custom_one p.copyright,
      custom_one p.font_name,
      custom_one p.notice,
      dict_names p.font_dicts,
      length-append (custom_string p.copyright) (custom_string p.font_name ++ (custom_string p.notice ++ names)),
      length-append (custom_string p.font_name) (custom_string p.notice ++ names),
      length-append (custom_string p.notice) names,
    )
