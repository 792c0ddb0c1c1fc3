-- `hhea` with fields that are written anew.
--   own_hhea                         with the extremes that it has
--   length-hhea                      how long it is
use Rattle.std.proofs.Common.{◌≡◌, ◌≤◌, ℕ, List, ◌++◌, length, take, drop, sym, ap, arith}
use Rattle.std.specs.Prelude.{slice_range}
use Rattle.std.specs.Int.{w16, to_be_bytes}
use Rattle.std.proofs.lemmas.List.{length-append, length-take, length-drop}
use Rattle.subsetter_sfnt.specs.Fields.Hhea.{hhea_with}
use Rattle.subsetter_sfnt.proofs.Laws.FieldsLaws.HeadLaws.{in_three}

pub own_hhea : (count : ℕ) (hhea : List ℕ) → hhea_with (slice_range hhea 10 18) count hhea ≡ take 34 hhea ++ to_be_bytes w16 count ++ drop 36 hhea
own_hhea count hhea = sym (ap (λ (l : List ℕ). l ++ to_be_bytes w16 count ++ drop 36 hhea) (in_three hhea 0 10 8 16))

pub length-hhea : (count : ℕ) (extremes hhea : List ℕ) → 36 ≤ length hhea → length extremes ≡ 8 → length (hhea_with extremes count hhea) ≡ length hhea
length-hhea count extremes hhea h eight =
    let a = take 10 hhea in
    let b = slice_range hhea 18 34 in
    let n = to_be_bytes w16 count in
    omega (arith, length-append (a ++ extremes ++ b ++ n) (drop 36 hhea), length-append (a ++ extremes ++ b) n, length-append (a ++ extremes) b, length-append a extremes, eight, length-take 10 hhea, length-take 16 (drop 18 hhea), length-drop 18 hhea, length-drop 36 hhea)
