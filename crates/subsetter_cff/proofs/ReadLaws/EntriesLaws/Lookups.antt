-- Entries of dicts that were written, by their operator.
use Rattle.std.proofs.Common.{◌≡◌, ℕ, true, false, List, [], ◌∷◌, ◌++◌, map, Option, Some, None, refl, ◌∙◌}
use Rattle.std.specs.Str.{bytes_eq}
use Rattle.subsetter_cffdata.specs.Numerals.Numbers.{Number}
use Rattle.subsetter_cffdata.specs.Dicts.Dict.{NewEntry, meaning}
use Rattle.subsetter_cff.specs.Read.Entries.Lookup.{last_after}
use Rattle.subsetter_cff.specs.Read.Entries.Operators.{copyright_operator, notice_operator, font_name_operator}
use Rattle.subsetter_cff.specs.Read.Strings.{FontString}
use Rattle.subsetter_cff.specs.Write.Laying.Layout.{number_of, integer, string_entries}

-- an entry of another operator is passed over
pub passed : (found : Option (List Number)) (a b : List ℕ) (ss : List (List ℕ)) (o : Option FontString) (ls : List NewEntry) → bytes_eq b a ≡ false
    → last_after found a (map meaning (string_entries ss b o ++ ls)) ≡ last_after found a (map meaning ls)
passed found a b ss None ls e = refl
passed found a b ss (Some s) ls e = rw e refl

abbrev pub number_if : List (List ℕ) → Option FontString → Option (List Number)
number_if ss None = None
number_if ss (Some s) = Some (integer (number_of ss s) ∷ [])

pub met : (a b : List ℕ) (ss : List (List ℕ)) (o : Option FontString) (ls : List NewEntry) → bytes_eq b a ≡ true
    → last_after None a (map meaning (string_entries ss b o ++ ls)) ≡ last_after (number_if ss o) a (map meaning ls)
met a b ss None ls e = refl
met a b ss (Some s) ls e = rw e refl

pub passed_all : (found : Option (List Number)) (a : List ℕ) (ss : List (List ℕ)) (x y z : Option FontString) (ls : List NewEntry)
    → bytes_eq copyright_operator a ≡ false → bytes_eq notice_operator a ≡ false → bytes_eq font_name_operator a ≡ false
    → last_after found a (map meaning (string_entries ss copyright_operator x ++ (string_entries ss notice_operator y ++ (string_entries ss font_name_operator z ++ ls)))) ≡ last_after found a (map meaning ls)
passed_all found a ss x y z ls e f g = passed found a copyright_operator ss x _ e ∙ passed found a notice_operator ss y _ f ∙ passed found a font_name_operator ss z ls g
