-- `hmtx`, `hhea` and `maxp` that were written are read back.
use Rattle.std.proofs.Common.{◌≡◌, ℕ, zero, suc, ◌+◌, ◌*◌, ◌^◌, ◌<◌, ◌≤◌, Bool, true, List, [], ◌∷◌, ◌++◌, length, get_or, map, take, drop, Option, Some, None, refl, sym, ap, subst, ◌∙◌, append_assoc, cond, arith}
use Rattle.std.specs.Prelude.{slice_range}
use Rattle.std.specs.List.{flat_map}
use Rattle.std.specs.Int.{w16, w32, to_be_bytes, cast_unsigned}
use Rattle.std.proofs.lemmas.Bool.{lt-ltb}
use Rattle.std.proofs.lemmas.List.{length-append, length-map, length-take, length-take-le, length-drop, take_at, drop_at}
use Rattle.subsetter_base.specs.Bytes.{number}
use Rattle.subsetter_base.proofs.ByteLemmas.{be-u16, number_at}
use Rattle.subsetter_sfnt.specs.declared.fields.hmtx.LongHorMetric.{LongHorMetric}
use Rattle.subsetter_sfnt.specs.Fields.Hhea.{hhea_with}
use Rattle.subsetter_sfnt.specs.Fields.Hmtx.{metric_at, metric_in, metric_bytes}
use Rattle.subsetter_sfnt.proofs.Laws.FieldsLaws.HmtxLaws.{IsSmall, metric_in_pairs, all_pairs}
use Rattle.subsetter_instance.specs.Source.{Source, metric}
use Rattle.subsetter_instance.specs.declared.tables.extremes.Extents.{Extents}
use Rattle.subsetter_instance.specs.Glyphs.Drawn.{Drawn}
use Rattle.subsetter_instance.specs.Tables.Extremes.{all_extents, widest, side_bytes, extreme_bytes}
use Rattle.subsetter_instance.specs.Tables.Written.{drawn_metric, hmtx_of, most_points, most_contours, maxp_bytes}
use Rattle.subsetter_instance.proofs.FileLaws.Head.{slice_at}

-- ---- hmtx

-- the table of the metrics, one after another
pub flat_is : (all : List (Option Drawn)) → flat_map metric_bytes (map drawn_metric all) ≡ hmtx_of all
flat_is all = all_pairs (map drawn_metric all) (length all) (omega (arith, length-map all drawn_metric))

drawn_at : (all : List (Option Drawn)) (i : ℕ) (d : Drawn) (m : LongHorMetric) → get_or all i None ≡ Some d → get_or (map drawn_metric all) i m ≡ drawn_metric (Some d)
drawn_at [] i d m h = absurd cc
drawn_at (e ∷ all) zero d m h = ap drawn_metric h
drawn_at (e ∷ all) (suc i) d m h = drawn_at all i d m h

some_within : (all : List (Option Drawn)) (i : ℕ) (d : Drawn) → get_or all i None ≡ Some d → i < length all
some_within [] i d h = absurd cc
some_within (e ∷ all) zero d h = omega arith
some_within (e ∷ all) (suc i) d h = let rest = some_within all i d h in omega arith

first : (b : Bool) (x y z : Option LongHorMetric) → b ≡ true → x ≡ z → cond b x y ≡ z
first b x y z e is = ap (λ t. cond t x y) e ∙ is

-- the metric of a glyph that was asked for
pub metric_back : (t : Source) (all : List (Option Drawn)) (i : ℕ) (d : Drawn) → t.hmtx ≡ hmtx_of all → i < t.number_of_h_metrics → get_or all i None ≡ Some d → d.advance < 2 ^ 16 → cast_unsigned w16 d.bearing < 2 ^ 16 → metric t i ≡ Some (record { advance_width = d.advance; lsb = cast_unsigned w16 d.bearing })
unfolding metric metric_in
metric_back t all i d is lt at small_a small_b =
    let ms = map drawn_metric all in
    let m = drawn_metric (Some d) in
    let within : i < length all = some_within all i d at in
    let same : get_or ms i m ≡ m = drawn_at all i d m at in
    let small : IsSmall m = record { advance_width = small_a; lsb = small_b } in
    let found : metric_at (hmtx_of all) (4 * i) (4 * i + 2) ≡ Some m = metric_in_pairs ms (length all) i m (omega (arith, length-map all drawn_metric)) within (subst IsSmall (sym same) small) ∙ ap Some same in
    first _ _ _ _ (lt-ltb i t.number_of_h_metrics lt) (ap (λ (l : List ℕ). metric_at l (4 * i) (4 * i + 2)) is ∙ found)

-- ---- hhea

six_bytes : (e : Option Extents) → length (side_bytes e) ≡ 6
six_bytes None = refl
six_bytes (Some e) = refl

pub eight_bytes : (ds : List Drawn) → length (extreme_bytes ds) ≡ 8
eight_bytes ds = omega (arith, length-append (to_be_bytes w16 (widest ds)) (side_bytes (all_extents ds)), six_bytes (all_extents ds))

-- what comes before numberOfHMetrics
abbrev front_bytes : List ℕ → List ℕ → List ℕ
front_bytes extremes hhea = take 10 hhea ++ extremes ++ slice_range hhea 18 34

-- with extremes of whatever glyphs
module _ (n : ℕ) (extremes hhea : List ℕ) (eight : length extremes ≡ 8) (long : 36 ≤ length hhea) where
  abbrev front : List ℕ
  front = take 10 hhea

  abbrev middle : List ℕ
  middle = slice_range hhea 18 34

  abbrev following : List ℕ
  following = to_be_bytes w16 n ++ drop 36 hhea

  length-front : length front ≡ 10
  length-front = length-take-le 10 hhea (omega arith)

  length-middle : length middle ≡ 16
  length-middle = omega (arith, length-take 16 (drop 18 hhea), length-drop 18 hhea)

  length-before : length (front_bytes extremes hhea) ≡ 34
  length-before = omega (arith, length-append (front ++ extremes) middle, length-append front extremes, length-front, eight, length-middle)

  whole : hhea_with extremes n hhea ≡ front_bytes extremes hhea ++ following
  whole = append_assoc (front_bytes extremes hhea) (to_be_bytes w16 n) (drop 36 hhea)

  pub hhea_parts : hhea_with extremes n hhea ≡ front ++ (extremes ++ (middle ++ following))
  hhea_parts = whole ∙ append_assoc (front ++ extremes) middle following ∙ append_assoc front extremes (middle ++ following)

  pub pairs_back : n < 2 ^ 16 → number (hhea_with extremes n hhea) 34 2 ≡ Some n
  pairs_back small = number_at (hhea_with extremes n hhea) (front_bytes extremes hhea) (to_be_bytes w16 n) (drop 36 hhea) 34 2 n whole (sym length-before) refl (be-u16 n small)

  pub hhea_length : length (hhea_with extremes n hhea) ≡ length hhea
  hhea_length = omega (arith, length-append (front_bytes extremes hhea ++ to_be_bytes w16 n) (drop 36 hhea), length-append (front_bytes extremes hhea) (to_be_bytes w16 n), length-before, length-drop 36 hhea)

  pub hhea_front : take 10 (hhea_with extremes n hhea) ≡ take 10 hhea
  hhea_front = ap (take 10) hhea_parts ∙ take_at front (extremes ++ (middle ++ following)) 10 length-front

  pub hhea_extremes : slice_range (hhea_with extremes n hhea) 10 18 ≡ extremes
  hhea_extremes = slice_at _ front extremes (middle ++ following) 10 8 hhea_parts length-front eight

  pub hhea_middle : slice_range (hhea_with extremes n hhea) 18 34 ≡ slice_range hhea 18 34
  hhea_middle =
      slice_at _ (front ++ extremes) middle following 18 16 (hhea_parts ∙ sym (append_assoc front extremes (middle ++ following))) (omega (arith, length-append front extremes, length-front, eight)) length-middle

  pub hhea_end : drop 36 (hhea_with extremes n hhea) ≡ drop 36 hhea
  hhea_end = drop_at (front_bytes extremes hhea ++ to_be_bytes w16 n) (drop 36 hhea) 36 (omega (arith, length-append (front_bytes extremes hhea) (to_be_bytes w16 n), length-before))

-- ---- maxp

pub count_back : (n : ℕ) (ds : List Drawn) → n < 2 ^ 16 → number (maxp_bytes n ds) 4 2 ≡ Some n
count_back n ds small =
    let rest : List ℕ = most_points ds ∷ most_contours ds ∷ 0 ∷ 0 ∷ 1 ∷ 0 ∷ 0 ∷ 0 ∷ 0 ∷ 0 ∷ 0 ∷ 0 ∷ 1 ∷ [] in
    number_at (maxp_bytes n ds) (to_be_bytes w32 0x00010000) (to_be_bytes w16 n) (flat_map (to_be_bytes w16) rest) 4 2 n refl refl refl (be-u16 n small)
