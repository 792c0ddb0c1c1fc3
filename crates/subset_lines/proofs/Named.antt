-- Objects of glyphs that are written one after another, with the names from an index on.
use Rattle.std.proofs.Common.{◌≡◌, ℕ, zero, suc, ◌+◌, ◌<◌, List, [], ◌∷◌, ◌++◌, length, drop, get_or, Option, refl, sym, subst, ◌∙◌}
use Rattle.std.specs.Prelude.{codes}
use Rattle.std.specs.Io.KnownBytes.{Appends}
use Rattle.std.proofs.lemmas.List.{drop-drop, drop_more}
use Rattle.subsetter_base.specs.Indexes.{index_of}
use Rattle.subset_lines.specs.Objects.Json.{object_of, objects}
use Rattle.subset_lines.specs.Text.{first_character, first_name}
use Rattle.plain_text.proofs.Written.{Reaches, after_part}

first_at : (names : List (List ℕ)) (i : ℕ) → first_name (drop i names) ≡ get_or names i []
first_at [] zero = refl
first_at [] (suc i) = refl
first_at (name ∷ names) zero = refl
first_at (name ∷ names) (suc i) = first_at names i

step : (old now new : Option (List ℕ)) (before order : List ℕ) (characters : List (Option ℕ)) (names : List (List ℕ)) (glyphs : List ℕ) (i : ℕ) (all : List ℕ) → i < length glyphs → Reaches old now (objects before order characters (drop i names) (drop i glyphs)) all → Appends now new (before ++ object_of (first_character characters) (first_name (drop i names)) (get_or glyphs i 0) (index_of order (get_or glyphs i 0))) → Reaches old new (objects (codes ",") order (drop 1 characters) (drop (i + 1) names) (drop (i + 1) glyphs)) all
step old now new before order characters names glyphs i all lt h a =
    let line = before ++ object_of (first_character characters) (first_name (drop i names)) (get_or glyphs i 0) (index_of order (get_or glyphs i 0)) in
    let cut : drop i glyphs ≡ get_or glyphs i 0 ∷ drop (i + 1) glyphs = drop_more glyphs i 0 lt in
    let there = subst (λ (gs : List ℕ). Reaches old now (objects before order characters (drop i names) gs) all) cut h in
    let rest = after_part old now new line (objects (codes ",") order (drop 1 characters) (drop 1 (drop i names)) (drop (i + 1) glyphs)) all there a in
    subst (λ (ns : List (List ℕ)). Reaches old new (objects (codes ",") order (drop 1 characters) ns (drop (i + 1) glyphs)) all) (drop-drop 1 i names) rest

pub object_next : (old now new : Option (List ℕ)) (before after order : List ℕ) (characters others : List (Option ℕ)) (names : List (List ℕ)) (glyphs : List ℕ) (i : ℕ) (all : List ℕ) (character number : Option ℕ) (name : List ℕ) → i < length glyphs → Reaches old now (objects before order characters (drop i names) (drop i glyphs)) all → character ≡ first_character characters → others ≡ drop 1 characters → name ≡ get_or names i [] → number ≡ index_of order (get_or glyphs i 0) → after ≡ codes "," → Appends now new (before ++ object_of character name (get_or glyphs i 0) number) → Reaches old new (objects after order others (drop (i + 1) names) (drop (i + 1) glyphs)) all
object_next old now new before after order characters others names glyphs i all character number name lt h c o n m f a =
    let glyph = get_or glyphs i 0 in
    let one = subst (λ (x : Option ℕ). Appends now new (before ++ object_of x name glyph number)) c a in
    let two = subst (λ (x : List ℕ). Appends now new (before ++ object_of (first_character characters) x glyph number)) (n ∙ sym (first_at names i)) one in
    let three = subst (λ (x : Option ℕ). Appends now new (before ++ object_of (first_character characters) (first_name (drop i names)) glyph x)) m two in
    let next = step old now new before order characters names glyphs i all lt h three in
    subst (λ (cs : List (Option ℕ)). Reaches old new (objects after order cs (drop (i + 1) names) (drop (i + 1) glyphs)) all) (sym o) (subst (λ (b : List ℕ). Reaches old new (objects b order (drop 1 characters) (drop (i + 1) names) (drop (i + 1) glyphs)) all) (sym f) next)
