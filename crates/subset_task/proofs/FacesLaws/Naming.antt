-- A name is compared with a text character by character.
use Rattle.std.proofs.Common.{◌≡◌, ℕ, List, [], ◌∷◌, ◌++◌, ◌+◌, ◌*◌, Bool, true, false, ◌&&◌, if◌then◌else◌, ◌==◌, Option, Some, None, ◌-◌, ◌<◌, ◌≤◌, length, take, drop, get_or, refl, sym, ap, subst, ◌∙◌, arith}
use Rattle.std.specs.Char.{to_ascii_lowercase, encode_utf8}
use Rattle.std.specs.Option.{option_map_or, option_eq}
use Rattle.std.specs.Prelude.{nat_eq}
use Rattle.std.proofs.lemmas.Bool.{eqb-true}
use Rattle.std.proofs.lemmas.List.{drop_more, take_rest}
use Rattle.subsetter_base.specs.Bytes.{number}
use Rattle.subset_lines.specs.Faces.Names.{text_of_units, character_of, name_of}
use Rattle.subset_task.specs.Faces.Named.{is_same_name, after_same, is_name_of, has_name}

step : (same rest : Bool) (text : List ℕ) (left : Option (List ℕ)) → rest ≡ option_map_or (is_same_name text) left false → (same && rest) ≡ option_map_or (is_same_name text) (if same then left else None) false
step true rest text left h = h
step false rest text left h = refl

-- nothing is left of a name after which more of the text is
pub same_cut : (text rest : List ℕ) (i : ℕ) (total : Option (List ℕ)) → i < length text → length rest < 1 → after_same (drop i text) rest ≡ total → None ≡ total
same_cut text [] i total lt none h = ap (λ (l : List ℕ). after_same l []) (sym (drop_more text i 0 lt)) ∙ h
same_cut text (b ∷ rest) i total lt none h = absurd (omega arith)

-- the same name, after the same front
same_after : (front text name : List ℕ) → is_same_name (front ++ text) name ≡ option_map_or (is_same_name text) (after_same front name) false
same_after [] text name = refl
same_after (a ∷ front) text [] = refl
same_after (a ∷ front) text (b ∷ name) = step (to_ascii_lowercase a == to_ascii_lowercase b) (is_same_name (front ++ text) name) text (after_same front name) (same_after front text name)

compared : (high low : ℕ) (more front left : List ℕ) → front ≡ encode_utf8 (character_of (high * 256 + low)) → is_same_name (text_of_units (high ∷ low ∷ more)) left ≡ option_map_or (is_same_name (text_of_units more)) (after_same front left) false
compared high low more front left f =
    ap (λ (l : List ℕ). is_same_name (l ++ text_of_units more) left) (sym f) ∙ same_after front (text_of_units more) left

-- as a loop goes on after the first of its characters
pub same_later : (rest front left following : List ℕ) (other : ℕ) (total : Bool) → 2 ≤ length rest → front ≡ encode_utf8 (character_of (get_or rest 0 other * 256 + get_or rest 1 other)) → after_same front left ≡ Some following → is_same_name (text_of_units rest) left ≡ total → is_same_name (text_of_units (take (length rest - 2) (drop 2 rest))) following ≡ total
same_later [] front left following other total two f h t = absurd (omega arith)
same_later (high ∷ []) front left following other total two f h t = absurd (omega arith)
same_later (high ∷ low ∷ more) front left following other total two f h t =
    let later : is_same_name (text_of_units more) following ≡ total = sym (ap (λ (o : Option (List ℕ)). option_map_or (is_same_name (text_of_units more)) o false) h) ∙ (sym (compared high low more front left f) ∙ t) in
    subst (λ (l : List ℕ). is_same_name (text_of_units l) following ≡ total) (sym (take_rest (high ∷ low ∷ more) 2)) later

pub same_not : (rest front left : List ℕ) (other : ℕ) (total : Bool) → 2 ≤ length rest → front ≡ encode_utf8 (character_of (get_or rest 0 other * 256 + get_or rest 1 other)) → after_same front left ≡ None → is_same_name (text_of_units rest) left ≡ total → false ≡ total
same_not [] front left other total two f h t = absurd (omega arith)
same_not (high ∷ []) front left other total two f h t = absurd (omega arith)
same_not (high ∷ low ∷ more) front left other total two f h t =
    sym (ap (λ (o : Option (List ℕ)). option_map_or (is_same_name (text_of_units more)) o false) h) ∙ (sym (compared high low more front left f) ∙ t)

same_number : (one other : Option ℕ) → option_eq nat_eq one other ≡ true → one ≡ other
same_number None None h = refl
same_number None (Some n) h = absurd (let both : false ≡ true = h in cc)
same_number (Some m) None h = absurd (let both : false ≡ true = h in cc)
same_number (Some m) (Some n) h = ap (λ (k : ℕ). Some k) (eqb-true m n h)

-- the name of a number is known to be another
pub known_other : (names name bytes : List ℕ) (id other : Option ℕ) (same : Bool) → id ≡ number bytes 0 2 → same ≡ option_eq nat_eq id other → same ≡ true → is_name_of name (name_of names other) ≡ false → false ≡ has_name names name bytes
known_other names name bytes id other same read is true_is not =
    let equal : number bytes 0 2 ≡ other = sym read ∙ same_number id other (sym is ∙ true_is) in
    sym (ap (λ (n : Option ℕ). is_name_of name (name_of names n)) equal ∙ not)
