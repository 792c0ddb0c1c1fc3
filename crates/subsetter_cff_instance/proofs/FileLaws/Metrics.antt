-- The metrics of the glyphs that were asked for, glyph by glyph, and of each other one.
--   is_asked                        each glyph that was asked for has a metric at the location
--   not_among                       no other one has
--   length-by_glyph, at_glyph       of all glyphs
--   advance_asked                   the advance of a glyph that was asked for
--   varied_small, drawn_small       their numbers have 16 bits
--   drawn_is, metric_back           with the bearings of boxes, and read back
--   eight_bytes                     the extremes of hhea
use Rattle.std.proofs.Common.{◌≡◌, ℕ, zero, suc, ◌<◌, ◌^◌, Bool, true, false, cond, ltb, List, [], ◌∷◌, length, get_or, Option, Some, None, Ok, Err, ℤ, pos, negsuc, FitsSigned, refl, sym, ap, subst, ◌∙◌, arith}
use Rattle.std.specs.Prelude.{Contains, slice_get}
use Rattle.std.specs.Int.{w16, cast_unsigned, to_be_bytes}
use Rattle.std.specs.Option.{ok_or, option_and_then, option_map, unwrap_or}
use Rattle.std.proofs.lemmas.Bool.{ltb-true}
use Rattle.std.proofs.lemmas.List.{length-append, length-map}
use Rattle.std.proofs.lemmas.List.FromFn.{get_or-map-range_with_len, length-map-range_with_len}
use Rattle.std.proofs.lemmas.Option.{slice_get-map, slice_get-get_or, get_or_from_slice_get}
use Rattle.subsetter_base.specs.Bytes.{IsBytes, ◌>>=◌}
use Rattle.subsetter_base.specs.Indexes.{index_of}
use Rattle.subsetter_base.specs.declared.error.Error.TheVariants.{MalformedFont}
use Rattle.subsetter_base.proofs.GlyphLemmas.{Contains-index}
use Rattle.subsetter_base.proofs.Options.{just_is, some_of}
use Rattle.subsetter_base.proofs.Results.{done_is, bind_ok, named_ok}
use Rattle.subsetter_sfnt.specs.declared.fields.hmtx.LongHorMetric.{LongHorMetric}
use Rattle.subsetter_sfnt.specs.Fields.Hmtx.{metric_in, hmtx_bytes}
use Rattle.subsetter_sfnt.proofs.Laws.FieldsLaws.HmtxLaws as written
use Rattle.subsetter_sfnt.proofs.Laws.FieldsLaws.HmtxLaws.{IsSmall, metric_small}
use Rattle.subsetter_cff.proofs.ReadLaws.Results.{number_there}
use Rattle.subsetter_instance.proofs.FileLaws.Among.{not_placed}
use Rattle.subsetter_instance.proofs.FileLaws.Fitting.{small_width}
use Rattle.subsetter_cff.specs.Read.Cff.{cff_parts, char_strings}
use Rattle.subsetter_boxes.specs.CharstringBox.{charstring_box}
use Rattle.subsetter_boxes.proofs.Fitting.{Fits, charstring_fits}
use Rattle.subsetter_points.specs.declared.bounds.Bounds.{Bounds}
use Rattle.subsetter_cff_at.specs.Boxes.{boxes_in, entry_boxes, table_boxes}
use Rattle.subsetter_instance.specs.declared.tables.extremes.Extents.{Extents}
use Rattle.subsetter_instance.specs.Tables.Extremes.{side_bytes}
use Rattle.subsetter_cff_instance.specs.Boxes.{among, bearing, drawn_metric, drawn_metrics, with_bearing}
use Rattle.subsetter_cff_instance.specs.Metrics.{varied_advance, varied_metric, metric_if, varied_metrics, metric_among, metrics_by_glyph, advances, no_metric, filled, widest}
use Rattle.subsetter_cff_instance.specs.Source.{Source, metric}
use Rattle.subsetter_cff_instance.specs.Tables.{extreme_bytes, hmtx_of}

-- ---- one glyph

-- a glyph that has a metric is one of the font's
pub metric_one : (s : Source) (at : List ℤ) (g : ℕ) (m : LongHorMetric) → metric_if s at g ≡ Ok m → (g < s.count) × (varied_metric s at g ≡ Ok m)
metric_one s at g m h = by (ltb g s.count) refl h
  where
    by : (b : Bool) → ltb g s.count ≡ b → cond b (varied_metric s at g) (Err MalformedFont) ≡ Ok m → (g < s.count) × (varied_metric s at g ≡ Ok m)
    by true e k = (ltb-true g s.count e, k)
    by false e k = absurd cc

-- the metric of the first glyph, and those of the others
record Parts (s : Source) (at : List ℤ) (g : ℕ) (glyphs : List ℕ) (metrics : List LongHorMetric) : Type 0 where
  m : LongHorMetric
  rest : List LongHorMetric
  metric_is : metric_if s at g ≡ Ok m
  rest_is : varied_metrics s at glyphs ≡ Ok rest
  all : m ∷ rest ≡ metrics

parts : (s : Source) (at : List ℤ) (g : ℕ) (glyphs : List ℕ) (metrics : List LongHorMetric) → varied_metrics s at (g ∷ glyphs) ≡ Ok metrics → Parts s at g glyphs metrics
parts s at g glyphs metrics h =
    let a = bind_ok (metric_if s at g) (λ m. varied_metrics s at glyphs >>= λ rest. Ok (m ∷ rest)) metrics h in
    let b = bind_ok (varied_metrics s at glyphs) (λ rest. Ok (a.0 ∷ rest)) metrics a.2 in
    record { m = a.0; rest = b.0; metric_is = a.1; rest_is = b.1; all = done_is (a.0 ∷ b.0) metrics b.2 }

-- the metric at the place of a glyph
metric_placed : (s : Source) (at : List ℤ) (glyphs : List ℕ) (metrics : List LongHorMetric) (i g : ℕ) → varied_metrics s at glyphs ≡ Ok metrics → slice_get glyphs i ≡ Some g → (m : LongHorMetric) × (slice_get metrics i ≡ Some m) × (metric_if s at g ≡ Ok m)
metric_placed s at [] metrics i g h is = absurd cc
metric_placed s at (q ∷ glyphs) metrics zero g h is =
    let p = parts s at q glyphs metrics h in
    (p.m, ap (λ (l : List LongHorMetric). slice_get l 0) (sym p.all), ap (metric_if s at) (sym (just_is q g is)) ∙ p.metric_is)
metric_placed s at (q ∷ glyphs) metrics (suc i) g h is =
    let p = parts s at q glyphs metrics h in
    let later = metric_placed s at glyphs p.rest i g p.rest_is is in
    (later.0, ap (λ (l : List LongHorMetric). slice_get l (suc i)) (sym p.all) ∙ later.1, later.2)

-- each glyph that was asked for is one of the font's, and has a metric
pub record IsAsked (s : Source) (at : List ℤ) (glyphs : List ℕ) (metrics : List LongHorMetric) (g : ℕ) : Type 0 where
  pub it : LongHorMetric
  pub below : g < s.count
  pub varied_is : varied_metric s at g ≡ Ok it
  pub among : metric_among glyphs metrics g ≡ Some it

pub is_asked : (s : Source) (at : List ℤ) (glyphs : List ℕ) (metrics : List LongHorMetric) (g : ℕ) → varied_metrics s at glyphs ≡ Ok metrics → Contains glyphs g → IsAsked s at glyphs metrics g
is_asked s at glyphs metrics g h there =
    let place = some_of (index_of glyphs g) (Contains-index glyphs g there) in
    let m = metric_placed s at glyphs metrics place.0 g h (number_there glyphs g place.0 place.1) in
    let one = metric_one s at g m.0 m.2 in
    record { it = m.0; below = one.0; varied_is = one.1; among = ap (option_and_then (slice_get metrics)) place.1 ∙ m.1 }

pub not_among : (glyphs : List ℕ) (metrics : List LongHorMetric) (g : ℕ) → (Contains glyphs g → ⊥) → metric_among glyphs metrics g ≡ None
not_among glyphs metrics g none = ap (option_and_then (slice_get metrics)) (not_placed glyphs g none)

-- ---- of all glyphs

pub length-by_glyph : (glyphs : List ℕ) (metrics : List LongHorMetric) (n : ℕ) → length (metrics_by_glyph glyphs metrics n) ≡ n
length-by_glyph glyphs metrics n = length-map-range_with_len (metric_among glyphs metrics) 0 n

pub at_glyph : (glyphs : List ℕ) (metrics : List LongHorMetric) (n g : ℕ) → g < n → slice_get (metrics_by_glyph glyphs metrics n) g ≡ Some (metric_among glyphs metrics g)
at_glyph glyphs metrics n g lt =
    let all = metrics_by_glyph glyphs metrics n in
    slice_get-get_or all g None (omega (arith, lt, length-by_glyph glyphs metrics n)) ∙ ap (λ (m : Option LongHorMetric). Some m) (get_or-map-range_with_len (metric_among glyphs metrics) 0 n g g None lt (omega arith))

-- the advance of a glyph that was asked for
pub advance_asked : (s : Source) (at : List ℤ) (glyphs : List ℕ) (metrics : List LongHorMetric) (g : ℕ) (m : LongHorMetric) → varied_metrics s at glyphs ≡ Ok metrics → Contains glyphs g → varied_metric s at g ≡ Ok m
    → slice_get (advances (metrics_by_glyph glyphs metrics s.count)) g ≡ Some (Some m.advance_width)
advance_asked s at glyphs metrics g m h there is =
    let a = is_asked s at glyphs metrics g h there in
    let width = λ (x : LongHorMetric). x.advance_width in
    slice_get-map (option_map width) (metrics_by_glyph glyphs metrics s.count) g
    ∙ ap (option_map (option_map width)) (at_glyph glyphs metrics s.count g a.below ∙ ap (λ (o : Option LongHorMetric). Some o) a.among)
    ∙ ap (λ (x : LongHorMetric). Some (Some x.advance_width)) (done_is a.it m (sym a.varied_is ∙ is))

-- ---- hmtx

small_advance : (hvar : Option (List ℕ)) (at : List ℤ) (g before n : ℕ) → before < 2 ^ 16 → varied_advance hvar at g before ≡ Ok n → n < 2 ^ 16
small_advance None at g before n small h = omega (arith, small, done_is before n h)
small_advance (Some hvar) at g before n small h = small_width (Some hvar) at g before (pos 0) n h

abbrev with_width : LongHorMetric → ℕ → LongHorMetric
with_width m width = record { advance_width = width; lsb = m.lsb }

pub varied_small : (s : Source) (at : List ℤ) (g : ℕ) (m : LongHorMetric) → IsBytes s.hmtx → varied_metric s at g ≡ Ok m → IsSmall m
unfolding varied_metric metric
varied_small s at g m bytes h =
    let a = bind_ok (ok_or (metric s g) MalformedFont) (λ x. varied_advance s.hvar at g x.advance_width >>= λ width. Ok (with_width x width)) m h in
    let b = bind_ok (varied_advance s.hvar at g a.0.advance_width) (λ width. Ok (with_width a.0 width)) m a.2 in
    let before = metric_small s.hmtx s.number_of_h_metrics g a.0 bytes (named_ok (metric s g) MalformedFont a.0 a.1) in
    subst IsSmall (done_is (with_width a.0 b.0) m b.2) (record { advance_width = small_advance s.hvar at g a.0.advance_width b.0 before.advance_width b.1; lsb = before.lsb })

pub no_metric_small : IsSmall no_metric
no_metric_small = record { advance_width = omega arith; lsb = omega arith }

-- a bearing has 16 bits, as the edges of boxes do
small_word : (z : ℤ) → FitsSigned w16 z → cast_unsigned w16 z < 2 ^ 16
small_word (pos n) f = omega (arith, f.sfits)
small_word (negsuc n) f = omega arith

bearing_small : (b : Option Bounds) → Fits b → cast_unsigned w16 (bearing b) < 2 ^ 16
bearing_small None f = omega arith
bearing_small (Some b) f = small_word b.x_min f.x_min

entry_fits : (entry : Option (List ℕ)) → Fits (option_and_then charstring_box entry)
entry_fits None = tt
entry_fits (Some charstring) = charstring_fits charstring

among_fits : (entries : List (Option (List ℕ))) (g : ℕ) → Fits (among (entry_boxes entries) g)
among_fits [] g = tt
among_fits (entry ∷ entries) zero = entry_fits entry
among_fits (entry ∷ entries) (suc g) = among_fits entries g

read_fits : (entries : Option (List (Option (List ℕ)))) (g : ℕ) → Fits (among (boxes_in entries) g)
read_fits None g = tt
read_fits (Some entries) g = among_fits entries g

pub box_fits : (table : List ℕ) (g : ℕ) → Fits (among (table_boxes table) g)
unfolding table_boxes
box_fits table g = read_fits (option_and_then char_strings (cff_parts table)) g

pub drawn_small : (s : Source) (at : List ℤ) (g : ℕ) (b : Option Bounds) (m : LongHorMetric) → IsBytes s.hmtx → varied_metric s at g ≡ Ok m → Fits b → IsSmall (with_bearing b m)
drawn_small s at g b m bytes h fits = record { advance_width = (varied_small s at g m bytes h).advance_width; lsb = bearing_small b fits }

-- ---- what is drawn
pub among_all : (glyphs : List ℕ) (metrics : List LongHorMetric) (n g : ℕ) → g < n → among (metrics_by_glyph glyphs metrics n) g ≡ metric_among glyphs metrics g
among_all glyphs metrics n g lt = ap (option_and_then (λ one. one)) (at_glyph glyphs metrics n g lt)

-- the metric of a glyph in the new table
pub drawn_is : (glyphs : List ℕ) (metrics : List LongHorMetric) (boxes : List (Option Bounds)) (n g : ℕ) (o : Option LongHorMetric) → g < n → metric_among glyphs metrics g ≡ o → drawn_metric (metrics_by_glyph glyphs metrics n) boxes g ≡ option_map (with_bearing (among boxes g)) o
drawn_is glyphs metrics boxes n g o lt is = ap (option_map (with_bearing (among boxes g))) (among_all glyphs metrics n g lt ∙ is)

-- a metric that was written
pub metric_back : (out : Source) (all : List (Option LongHorMetric)) (boxes : List (Option Bounds)) (n g : ℕ) (m : LongHorMetric) → out.hmtx ≡ hmtx_of (drawn_metrics all boxes) → out.number_of_h_metrics ≡ n → length all ≡ n → g < n
    → unwrap_or (drawn_metric all boxes g) no_metric ≡ m → IsSmall m → metric out g ≡ Some m
unfolding metric
metric_back out all boxes n g m table pairs many lt is small =
    let drawn = drawn_metrics all boxes in
    let ms = filled drawn in
    let or_none = λ (o : Option LongHorMetric). unwrap_or o no_metric in
    let count : length drawn ≡ n = length-map-range_with_len (drawn_metric all boxes) 0 (length all) ∙ many in
    let one : slice_get drawn g ≡ Some (drawn_metric all boxes g) =
    slice_get-get_or drawn g None (omega (arith, lt, count)) ∙ ap (λ (o : Option LongHorMetric). Some o) (get_or-map-range_with_len (drawn_metric all boxes) 0 (length all) g g None (omega (arith, lt, many)) (omega arith)) in
    let there : slice_get ms g ≡ Some m = slice_get-map or_none drawn g ∙ ap (option_map or_none) one ∙ ap (λ (x : LongHorMetric). Some x) is in
    let here : get_or ms g no_metric ≡ m = get_or_from_slice_get ms g m no_metric there in
    let long : length ms ≡ n = length-map drawn or_none ∙ count in
    let read : metric_in (hmtx_bytes n ms) n g ≡ Some (get_or ms g no_metric) = written.metric_back ms n g no_metric (omega (arith, lt)) (omega (arith, long)) (omega (arith, lt, long)) (subst IsSmall (sym here) small) (λ le. absurd (omega (arith, le, lt))) in
    ap (λ (l : List ℕ). metric_in l out.number_of_h_metrics g) table ∙ ap (λ (k : ℕ). metric_in (hmtx_of drawn) k g) pairs ∙ ap (λ (k : ℕ). metric_in (hmtx_bytes k ms) n g) count ∙ read ∙ ap (λ (x : LongHorMetric). Some x) here

-- ---- hhea
six_bytes : (e : Option Extents) → length (side_bytes e) ≡ 6
six_bytes None = refl
six_bytes (Some e) = refl

pub eight_bytes : (metrics : List LongHorMetric) (e : Option Extents) → length (extreme_bytes metrics e) ≡ 8
eight_bytes metrics e = omega (arith, length-append (to_be_bytes w16 (widest metrics)) (side_bytes e), six_bytes e)
