-- What the reading of a subset gives: the widths of the source's glyphs, or what the source lacks.
use Rattle.std.proofs.Common.{◌≡◌, ℕ, zero, suc, ◌+◌, ◌-◌, ◌*◌, ◌<◌, min, leb, eqb, Bool, true, false, cond, List, [], ◌∷◌, length, map, take, drop, Option, Some, None, Result, Ok, Err, refl, sym, ap, subst, ◌∙◌, inl, inr, arith}
use Rattle.std.specs.Prelude.{codes, slice_index, slice_range}
use Rattle.std.specs.Option.{ok_or, option_and_then, option_map}
use Rattle.std.proofs.lemmas.Bool.{lt-ltb, le-ltb, ne_eqb, cases_lt}
use Rattle.std.proofs.lemmas.List.{get_or_append_left, length-append, take-take, drop-take, drop-drop}
use Rattle.std.proofs.Math.Nat.{min-eq_left, min-eq_right}
use Rattle.subsetter_base.specs.Bytes.{be, number, ◌>>=◌}
use Rattle.subsetter_base.specs.declared.error.Error.{Error}
use Rattle.subsetter_base.specs.declared.error.Error.TheVariants.{MalformedFont}
use Rattle.subsetter_base.proofs.ByteLemmas.{number-short}
use Rattle.subsetter_base.proofs.Options.{just_is, is_some_of, some_not_none}
use Rattle.subsetter_sfnt.specs.declared.fields.hmtx.LongHorMetric.{LongHorMetric}
use Rattle.subsetter_sfnt.specs.Read.{Font, as_font, table}
use Rattle.subsetter_sfnt.specs.Laying.Rows.{tags_of}
use Rattle.subsetter.specs.Glyf.Fault.{short_head}
use Rattle.subsetter.specs.Common.Head.Read.{KeepsHead}
use Rattle.subsetter.specs.Common.Hmtx.Read.{metric_of, KeepsMetrics}
use Rattle.subsetter_sfnt.specs.Fields.Hmtx.{metric_at, metric_in, advance_in}
use Rattle.subsetter_sfnt.specs.Fields.Hhea.{number_of_h_metrics}
use Rattle.subsetter.specs.Fault.{HasFault, in_outlines}
use Rattle.subsetter.specs.Subset.{IsSubset}
use Rattle.cid_embed.specs.Afresh.{Measures, table_of, measures_of, widths_from, widths_of}
use Rattle.cid_embed.specs.Width.{units_per_em, thousandths, width, HasWidthFault, no_hmtx, no_head, no_units}
use Rattle.subsetter_sfnt.specs.Fields.Head.{units_per_em as units_in}
use Rattle.cid_embed.proofs.Tables.{table_of_is, no_hmtx_again, no_head_again}

-- ---- the advance of a metric

abbrev metric_by : Option ℕ → Option ℕ → Option LongHorMetric
metric_by a b = option_and_then (λ advance. option_and_then (λ bearing. Some (record { advance_width = advance; lsb = bearing })) b) a

advance_by : (a b : Option ℕ) (m : LongHorMetric) → metric_by a b ≡ Some m → a ≡ Some m.advance_width
advance_by None b m h = absurd cc
advance_by (Some a) None m h = absurd cc
advance_by (Some a) (Some b) m h = ap (λ (x : LongHorMetric). Some x.advance_width) (just_is (record { advance_width = a; lsb = b }) m h)

advance_there : (hmtx : List ℕ) (p q : ℕ) (m : LongHorMetric) → metric_at hmtx p q ≡ Some m → number hmtx p 2 ≡ Some m.advance_width
advance_there hmtx p q m h = advance_by (number hmtx p 2) (number hmtx q 2) m h

pub advance_of : (hmtx : List ℕ) (pairs g : ℕ) (m : LongHorMetric) → metric_in hmtx pairs g ≡ Some m → advance_in hmtx pairs g ≡ Some m.advance_width
unfolding metric_in
advance_of hmtx pairs g m h = elim (cases_lt g pairs) [
  | inl less ↦
      let here : metric_at hmtx (4 * g) (4 * g + 2) ≡ Some m = ap (λ b. cond b (metric_at hmtx (4 * g) (4 * g + 2)) (past (eqb pairs 0))) (sym (lt-ltb g pairs less)) ∙ h in
      let own : min g (pairs - 1) ≡ g = min-eq_left (omega arith) in
      ap (λ k. number hmtx (4 * k) 2) own ∙ advance_there hmtx (4 * g) (4 * g + 2) m here
  | inr ge ↦
      let here : past (eqb pairs 0) ≡ Some m = ap (λ b. cond b (metric_at hmtx (4 * g) (4 * g + 2)) (past (eqb pairs 0))) (sym (le-ltb g pairs ge)) ∙ h in
      let last : min g (pairs - 1) ≡ pairs - 1 = min-eq_right (omega arith) in
      ap (λ k. number hmtx (4 * k) 2) last ∙ by (eqb pairs 0) here
]
  where
    past : Bool → Option LongHorMetric
    past b = cond b None (metric_at hmtx (4 * (pairs - 1)) (4 * pairs + 2 * (g - pairs)))

    by : (b : Bool) → past b ≡ Some m → number hmtx (4 * (pairs - 1)) 2 ≡ Some m.advance_width
    by true k = absurd cc
    by false k = advance_there hmtx (4 * (pairs - 1)) (4 * pairs + 2 * (g - pairs)) m k

-- ---- widths, where each metric is there

-- a glyph's metric is in a source, and in a table under a number
pub record HasMetric (font : Font) (m : Measures) (g i : ℕ) : Type 0 where
  pub metric : LongHorMetric
  pub source : metric_of (table font) g ≡ Some metric
  pub copy : metric_in m.hmtx m.number_of_h_metrics i ≡ Some metric

width_is : (font : Font) (g units : ℕ) (m : LongHorMetric) → metric_of (table font) g ≡ Some m → units_per_em font ≡ Some units → width font g ≡ Some (thousandths m.advance_width units)
width_is font g units m h u =
    ap (option_and_then (λ (x : LongHorMetric). option_and_then (λ n. Some (thousandths x.advance_width n)) (units_per_em font))) h ∙ ap (option_and_then (λ n. Some (thousandths m.advance_width n))) u

one_width : (m : Measures) (g n a : ℕ) (ws : List ℕ) → advance_in m.hmtx m.number_of_h_metrics g ≡ Some a → widths_from m (g + 1) n ≡ Ok ws → widths_from m g (suc n) ≡ Ok (thousandths a m.units ∷ ws)
one_width m g n a ws h k =
    ap (λ o. ok_or o MalformedFont >>= λ advance. widths_from m (g + 1) n >>= λ widths. Ok (thousandths advance m.units ∷ widths)) h ∙ ap (λ (r : Result (List ℕ) Error). r >>= λ widths. Ok (thousandths a m.units ∷ widths)) k

-- the widths that are read, of these glyphs
pub record AreWidths (font : Font) (m : Measures) (g : ℕ) (glyphs : List ℕ) : Type 0 where
  pub widths : List ℕ
  pub read : widths_from m g (length glyphs) ≡ Ok widths
  pub are : map Some widths ≡ map (width font) glyphs

pub all_widths : (font : Font) (m : Measures) (glyphs : List ℕ) (g : ℕ) → units_per_em font ≡ Some m.units → ((i : ℕ) → i < length glyphs → HasMetric font m (slice_index glyphs i) (g + i)) → AreWidths font m g glyphs
all_widths font m [] g u h = record { widths = []; read = refl; are = refl }
all_widths font m (x ∷ glyphs) g u h =
    let first = h 0 (omega arith) in
    let here : metric_in m.hmtx m.number_of_h_metrics g ≡ Some first.metric = ap (metric_in m.hmtx m.number_of_h_metrics) (omega arith) ∙ first.copy in
    let later : (i : ℕ) → i < length glyphs → HasMetric font m (slice_index glyphs i) (g + 1 + i) = λ i lt. subst (HasMetric font m (slice_index glyphs i)) (omega arith) (h (suc i) (omega arith)) in
    let rest = all_widths font m glyphs (g + 1) u later in
    record {
      widths = thousandths first.metric.advance_width m.units ∷ rest.widths;
      read = one_width m g (length glyphs) first.metric.advance_width rest.widths (advance_of m.hmtx m.number_of_h_metrics g first.metric here) rest.read;
      are = ap (λ o. o ∷ map Some rest.widths) (sym (width_is font x m.units first.metric first.source u)) ∙ ap (λ (l : List (Option ℕ)). width font x ∷ l) rest.are;
    }

-- ---- what is read step by step

module _ (find : List ℕ → Option (List ℕ)) (n : ℕ) where
  no_hmtx_read : find (codes "hmtx") ≡ None → widths_of find n ≡ Err MalformedFont
  unfolding widths_of measures_of
  no_hmtx_read h = rw h refl

  module _ (hmtx : List ℕ) (h : find (codes "hmtx") ≡ Some hmtx) where
    no_head_read : find (codes "head") ≡ None → widths_of find n ≡ Err MalformedFont
    unfolding widths_of measures_of
    no_head_read k = rw (h, k) refl

    no_units_read : (head : List ℕ) → find (codes "head") ≡ Some head → number head 18 2 ≡ Some 0 → widths_of find n ≡ Err MalformedFont
    unfolding widths_of measures_of
    no_units_read head k u = rw (h, k, u) refl

    all_read : (head hhea : List ℕ) (units pairs : ℕ) → find (codes "head") ≡ Some head → number head 18 2 ≡ Some (suc units) → find (codes "hhea") ≡ Some hhea → number_of_h_metrics hhea ≡ Some pairs → widths_of find n ≡ widths_from (record { hmtx = hmtx; number_of_h_metrics = pairs; units = suc units }) 0 n
    unfolding widths_of measures_of
    all_read head hhea units pairs k u a b = rw (h, k, u, ne_eqb (suc units) 0 (λ e. omega arith), a, b) refl

-- ---- unitsPerEm is kept

units_within : (xs : List ℕ) → take 2 (drop 18 xs) ≡ take 2 (drop 6 (slice_range xs 12 50))
units_within xs = sym (ap (take 2) (drop-take 6 32 (drop 12 xs)) ∙ take-take 2 32 (drop 6 (drop 12 xs)) (omega arith) ∙ ap (take 2) (drop-drop 6 12 xs))

same_units : (a b : List ℕ) → length a ≡ length b → slice_range a 12 50 ≡ slice_range b 12 50 → number a 18 2 ≡ number b 18 2
same_units a b len mid =
    let t : take 2 (drop 18 a) ≡ take 2 (drop 18 b) = units_within a ∙ ap (λ (l : List ℕ). take 2 (drop 6 l)) mid ∙ sym (units_within b) in
    ap (λ (n : ℕ). option_map be (cond (leb 20 n) (Some (take 2 (drop 18 a))) None)) len ∙ ap (λ (l : List ℕ). option_map be (cond (leb 20 (length b)) (Some l) None)) t

-- ---- a subset that was answered

metric_read : (find : List ℕ → Option (List ℕ)) (hhea hmtx : List ℕ) (count g : ℕ) → find (codes "hhea") ≡ Some hhea → find (codes "hmtx") ≡ Some hmtx → number_of_h_metrics hhea ≡ Some count → metric_of find g ≡ metric_in hmtx count g
unfolding metric_of
metric_read find hhea hmtx count g a b c = rw (a, b, c) refl

-- what a reading gives: the widths of the glyphs where the font has no fault in them, else such a fault
abbrev pub IsReading : Font → List ℕ → Result (List ℕ) Error → Type 0
IsReading font glyphs (Ok widths) = (map Some widths ≡ map (width font) glyphs) × ((e : Error) → HasWidthFault font e → ⊥)
IsReading font glyphs (Err e) = HasWidthFault font e

module _ (tokens depth : ℕ) (font : Font) (glyphs out : List ℕ) (s : IsSubset tokens depth font glyphs out) (clean : (e : Error) → HasFault tokens depth font glyphs s.keeps.order e → ⊥) where
  abbrev there : List ℕ → Option (List ℕ)
  there tag = table font tag

  abbrev find : List ℕ → Option (List ℕ)
  find tag = table_of out tag

  abbrev reading : Result (List ℕ) Error
  reading = widths_of find (length glyphs)

  finds : (tag : List ℕ) → find tag ≡ table (as_font out) tag
  finds tag = table_of_is s.keeps.kind (tags_of s.keeps.kind (table font)) out tag s.keeps.container

  refused : HasWidthFault font MalformedFont → reading ≡ Err MalformedFont → IsReading font glyphs reading
  refused fault h = subst (IsReading font glyphs) (sym h) fault

  answered : (widths : List ℕ) → reading ≡ Ok widths → map Some widths ≡ map (width font) glyphs → ((e : Error) → HasWidthFault font e → ⊥) → IsReading font glyphs reading
  answered widths h are none = subst (IsReading font glyphs) (sym h) (are, none)

  no_fault : (hmtx head : List ℕ) (units : ℕ) → there (codes "hmtx") ≡ Some hmtx → there (codes "head") ≡ Some head → units_per_em font ≡ Some (suc units) → (e : Error) → HasWidthFault font e → ⊥
  no_fault hmtx head units h k u e (no_hmtx a) = some_not_none (there (codes "hmtx")) hmtx h a
  no_fault hmtx head units h k u e (no_head a) = some_not_none (there (codes "head")) head k a
  no_fault hmtx head units h k u e (no_units a) = let same : suc units ≡ 0 = just_is (suc units) 0 (sym u ∙ a) in absurd (omega arith)

  module _ (hmtx : List ℕ) (h : there (codes "hmtx") ≡ Some hmtx) where
    kept : KeepsMetrics (table font) s.keeps.order (table (as_font out))
    kept = s.keeps.shared.metrics (is_some_of (there (codes "hmtx")) hmtx h)

    begins : (i : ℕ) → i < length glyphs → slice_index s.keeps.order i ≡ slice_index glyphs i
    begins i lt = ap (λ (l : List ℕ). slice_index l i) s.keeps.is_order.begins ∙ get_or_append_left glyphs s.keeps.is_order.others 0 i lt

    has_metric : (units i : ℕ) → i < length glyphs → HasMetric font (record { hmtx = kept.hmtx; number_of_h_metrics = kept.count; units = units }) (slice_index glyphs i) (0 + i)
    has_metric units i lt =
        let within : i < length s.keeps.order = omega (arith, ap length s.keeps.is_order.begins, length-append glyphs s.keeps.is_order.others) in
        let same = kept.metrics i within in
        record {
          metric = same.metric;
          source = ap (metric_of (table font)) (sym (begins i lt)) ∙ same.source;
          copy = ap (metric_in kept.hmtx kept.count) (omega arith) ∙ sym (metric_read (table (as_font out)) kept.hhea kept.hmtx kept.count i kept.hhea_is kept.hmtx_is kept.count_is) ∙ same.copy;
        }

    by_units : (head : List ℕ) (k : there (codes "head") ≡ Some head) (units : Option ℕ) → number head 18 2 ≡ units → IsReading font glyphs reading
    by_units head k None u = absurd (clean MalformedFont (in_outlines (short_head head k (let short = number-short head 18 2 u in omega arith))))
    by_units head k (Some units) u = by units u
      where
        header : KeepsHead font (as_font out)
        header = s.keeps.shared.head (is_some_of (there (codes "head")) head k)

        copied : number header.copy 18 2 ≡ number head 18 2
        copied = same_units header.copy header.source header.same_length header.middle ∙ ap (λ (l : List ℕ). number l 18 2) (just_is header.source head (sym header.source_is ∙ k))

        by : (units : ℕ) → number head 18 2 ≡ Some units → IsReading font glyphs reading
        by zero u = refused (no_units (ap (option_and_then units_in) k ∙ u)) (no_units_read find (length glyphs) kept.hmtx (finds (codes "hmtx") ∙ kept.hmtx_is) header.copy (finds (codes "head") ∙ header.copy_is) (copied ∙ u))
        by (suc units) u =
            let em : units_per_em font ≡ Some (suc units) = ap (option_and_then units_in) k ∙ u in
            let all = all_widths font (record { hmtx = kept.hmtx; number_of_h_metrics = kept.count; units = suc units }) glyphs 0 em (has_metric (suc units)) in
            answered all.widths
            (all_read find (length glyphs) kept.hmtx (finds (codes "hmtx") ∙ kept.hmtx_is) header.copy kept.hhea units kept.count (finds (codes "head") ∙ header.copy_is) (copied ∙ u) (finds (codes "hhea") ∙ kept.hhea_is) kept.count_is ∙ all.read)
            all.are
            (no_fault hmtx head units h k em)

    by_head : (head : Option (List ℕ)) → there (codes "head") ≡ head → IsReading font glyphs reading
    by_head None k = refused (no_head k) (no_head_read find (length glyphs) kept.hmtx (finds (codes "hmtx") ∙ kept.hmtx_is) (finds (codes "head") ∙ no_head_again font s.keeps.kind out s.keeps.container k))
    by_head (Some head) k = by_units head k (number head 18 2) refl

  by_hmtx : (hmtx : Option (List ℕ)) → there (codes "hmtx") ≡ hmtx → IsReading font glyphs reading
  by_hmtx None h = refused (no_hmtx h) (no_hmtx_read find (length glyphs) (finds (codes "hmtx") ∙ no_hmtx_again font s.keeps.kind out s.keeps.container h))
  by_hmtx (Some hmtx) h = by_head hmtx h (there (codes "head")) refl

  -- the widths of a subset are those of the source's glyphs
  pub is_reading : IsReading font glyphs reading
  is_reading = by_hmtx (there (codes "hmtx")) refl
