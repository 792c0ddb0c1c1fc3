-- Lists of tables, some of which may be missing.
use Rattle.std.proofs.Common.{◌≡◌, ℕ, ◌+◌, ◌<◌, ◌≤◌, Bool, true, false, List, [], ◌∷◌, ◌++◌, length, Option, Some, None, refl, sym, ap, ◌∙◌, arith}
use Rattle.std.specs.Prelude.{codes}
use Rattle.std.specs.List.{AllByRecursion}
use Rattle.std.specs.Str.{bytes_eq}
use Rattle.std.proofs.lemmas.Bool.{false≢true}
use Rattle.subsetter_base.specs.Bytes.{be}
use Rattle.subsetter_base.proofs.Lists.{bytes_eq_is, bytes_eq_self}
use Rattle.subsetter_sfnt.specs.Container.{AscendFrom}
use Rattle.subsetter_sfnt.specs.Laying.Written.{Table, IsTable}
use Rattle.subsetter_sfnt.specs.Laying.Rows.{opt, lookup, tags}

-- tags of different numbers are different
pub apart_by : (a b : List ℕ) → be a < be b → bytes_eq b a ≡ false
apart_by a b lt = by (bytes_eq b a) refl
  where
    by : (q : Bool) → bytes_eq b a ≡ q → bytes_eq b a ≡ false
    by true h = absurd (omega (arith, ap be (bytes_eq_is b a h)))
    by false h = h

-- ---- looking up

pub lookup_here : (tag bytes : List ℕ) (rest : List Table) → lookup tag (record { tag = tag; bytes = bytes } ∷ rest) ≡ Some bytes
lookup_here tag bytes rest = rw (bytes_eq_self tag) refl

pub lookup_other : (tag other bytes : List ℕ) (rest : List Table) → bytes_eq other tag ≡ false → lookup tag (record { tag = other; bytes = bytes } ∷ rest) ≡ lookup tag rest
lookup_other tag other bytes rest h = rw h refl

pub lookup_opt_other : (tag other : List ℕ) (o : Option (List ℕ)) (rest : List Table) → bytes_eq other tag ≡ false → lookup tag (opt other o ++ rest) ≡ lookup tag rest
lookup_opt_other tag other None rest h = refl
lookup_opt_other tag other (Some bytes) rest h = lookup_other tag other bytes rest h

-- past the place of a tag it isn't found
pub lookup_above : (tag : List ℕ) (low : ℕ) (rest : List Table) → be tag < low → AscendFrom low (tags rest) → lookup tag rest ≡ None
lookup_above tag low [] lt up = refl
lookup_above tag low (t ∷ rest) lt up =
    let before : be tag < be t.tag = omega (arith, up.0) in
    let above : be tag < be t.tag + 1 = omega arith in
    lookup_other tag t.tag t.bytes rest (apart_by tag t.tag before) ∙ lookup_above tag (be t.tag + 1) rest above up.1

-- a table that may be missing is found in its place
pub lookup_opt : (tag : List ℕ) (o : Option (List ℕ)) (rest : List Table) → AscendFrom (be tag + 1) (tags rest) → lookup tag (opt tag o ++ rest) ≡ o
lookup_opt tag None rest up = lookup_above tag (be tag + 1) rest (omega arith) up
lookup_opt tag (Some bytes) rest up = lookup_here tag bytes rest

-- ---- tags ascend

pub ascend_lower : (low high : ℕ) (rest : List Table) → low ≤ high → AscendFrom high (tags rest) → AscendFrom low (tags rest)
ascend_lower low high [] le up = tt
ascend_lower low high (t ∷ rest) le up = (omega (arith, up.0), up.1)

pub ascend_one : (low : ℕ) (tag bytes : List ℕ) (rest : List Table) → low ≤ be tag → AscendFrom (be tag + 1) (tags rest) → AscendFrom low (tags (record { tag = tag; bytes = bytes } ∷ rest))
ascend_one low tag bytes rest le up = (le, up)

pub ascend_opt : (low : ℕ) (tag : List ℕ) (o : Option (List ℕ)) (rest : List Table) → low ≤ be tag → AscendFrom (be tag + 1) (tags rest) → AscendFrom low (tags (opt tag o ++ rest))
ascend_opt low tag None rest le up = ascend_lower low (be tag + 1) rest (omega arith) up
ascend_opt low tag (Some bytes) rest le up = (le, up)

-- ---- each is a table

pub is_table : (tag bytes : List ℕ) → length tag ≡ 4 → bytes_eq tag (codes "head") ≡ false → IsTable (record { tag = tag; bytes = bytes })
is_table tag bytes len other = record { tag_len = len; room = λ h. absurd (false≢true (sym other ∙ h)) }

pub all_opt : (tag : List ℕ) (o : Option (List ℕ)) (rest : List Table) → length tag ≡ 4 → bytes_eq tag (codes "head") ≡ false → AllByRecursion IsTable rest → AllByRecursion IsTable (opt tag o ++ rest)
all_opt tag None rest len other all = all
all_opt tag (Some bytes) rest len other all = (is_table tag bytes len other, all)

pub length_opt : (tag : List ℕ) (o : Option (List ℕ)) (rest : List Table) (n : ℕ) → length rest ≤ n → length (opt tag o ++ rest) ≤ n + 1
length_opt tag None rest n le = omega arith
length_opt tag (Some bytes) rest n le = omega arith
