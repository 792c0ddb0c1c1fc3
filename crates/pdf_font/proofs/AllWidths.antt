-- The widths of all glyphs of a new font are those of their sources.
use Rattle.std.proofs.Common.{◌≡◌, ℕ, zero, suc, ◌+◌, ◌-◌, ◌*◌, ◌<◌, min, leb, eqb, Bool, true, false, cond, List, [], ◌∷◌, length, map, take, drop, Option, Some, None, Result, Ok, refl, sym, ap, subst, ◌∙◌, inl, inr, arith}
use Rattle.std.specs.Prelude.{codes, slice_index, slice_range}
use Rattle.std.specs.Option.{ok_or, option_and_then, option_map}
use Rattle.std.proofs.lemmas.Bool.{lt-ltb, le-ltb, ne_eqb, cases_lt}
use Rattle.std.proofs.lemmas.List.{take-take, drop-take, drop-drop}
use Rattle.std.proofs.Math.Nat.{min-eq_left, min-eq_right}
use Rattle.subsetter_base.specs.Bytes.{be, number, ◌>>=◌}
use Rattle.subsetter_base.specs.declared.error.Error.{Error}
use Rattle.subsetter_base.specs.declared.error.Error.TheVariants.{MalformedFont}
use Rattle.subsetter_base.proofs.ByteLemmas.{number-short}
use Rattle.subsetter_base.proofs.Options.{just_is, is_some_of}
use Rattle.subsetter_sfnt.specs.declared.fields.hmtx.LongHorMetric.{LongHorMetric}
use Rattle.subsetter_sfnt.specs.Read.{Font, as_font, table}
use Rattle.subsetter.specs.Glyf.Fault.{short_head}
use Rattle.subsetter.specs.Common.Head.Read.{KeepsHead}
use Rattle.subsetter.specs.Common.Hmtx.Read.{metric_of, KeepsMetrics}
use Rattle.subsetter_sfnt.specs.Fields.Hmtx.{metric_at, metric_in, advance_in}
use Rattle.subsetter_sfnt.specs.Fields.Hhea.{number_of_h_metrics}
use Rattle.subsetter.specs.Fault.{HasFault, in_outlines}
use Rattle.subsetter.specs.Subset.{IsSubset}
use Rattle.cid_embed.specs.Afresh.{Measures, measures_of, widths_from, widths_of}
use Rattle.cid_embed.specs.Width.{units_per_em, thousandths, width, HasWidthFault, no_hmtx, no_head, no_units}
use Rattle.subsetter_sfnt.specs.Fields.Head.{units_per_em as units_in}
use Rattle.pdf_source.specs.Exact.{Exact, advances_from, exact_of}
use Rattle.pdf_font.specs.PdfFont.{exact_width}

-- ---- the advance of a metric

abbrev metric_by : Option ℕ → Option ℕ → Option LongHorMetric
metric_by a b = option_and_then (λ advance. option_and_then (λ bearing. Some (record { advance_width = advance; lsb = bearing })) b) a

advance_by : (a b : Option ℕ) (m : LongHorMetric) → metric_by a b ≡ Some m → a ≡ Some m.advance_width
advance_by None b m h = absurd cc
advance_by (Some a) None m h = absurd cc
advance_by (Some a) (Some b) m h = ap (λ (x : LongHorMetric). Some x.advance_width) (just_is (record { advance_width = a; lsb = b }) m h)

advance_there : (hmtx : List ℕ) (p q : ℕ) (m : LongHorMetric) → metric_at hmtx p q ≡ Some m → number hmtx p 2 ≡ Some m.advance_width
advance_there hmtx p q m h = advance_by (number hmtx p 2) (number hmtx q 2) m h

pub advance_of : (hmtx : List ℕ) (pairs g : ℕ) (m : LongHorMetric) → metric_in hmtx pairs g ≡ Some m → advance_in hmtx pairs g ≡ Some m.advance_width
unfolding metric_in
advance_of hmtx pairs g m h = elim (cases_lt g pairs) [
  | inl less ↦
      let here : metric_at hmtx (4 * g) (4 * g + 2) ≡ Some m = ap (λ b. cond b (metric_at hmtx (4 * g) (4 * g + 2)) (past (eqb pairs 0))) (sym (lt-ltb g pairs less)) ∙ h in
      let own : min g (pairs - 1) ≡ g = min-eq_left (omega arith) in
      ap (λ k. number hmtx (4 * k) 2) own ∙ advance_there hmtx (4 * g) (4 * g + 2) m here
  | inr ge ↦
      let here : past (eqb pairs 0) ≡ Some m = ap (λ b. cond b (metric_at hmtx (4 * g) (4 * g + 2)) (past (eqb pairs 0))) (sym (le-ltb g pairs ge)) ∙ h in
      let last : min g (pairs - 1) ≡ pairs - 1 = min-eq_right (omega arith) in
      ap (λ k. number hmtx (4 * k) 2) last ∙ by (eqb pairs 0) here
]
  where
    past : Bool → Option LongHorMetric
    past b = cond b None (metric_at hmtx (4 * (pairs - 1)) (4 * pairs + 2 * (g - pairs)))

    by : (b : Bool) → past b ≡ Some m → number hmtx (4 * (pairs - 1)) 2 ≡ Some m.advance_width
    by true k = absurd cc
    by false k = advance_there hmtx (4 * (pairs - 1)) (4 * pairs + 2 * (g - pairs)) m k

-- ---- widths, where each metric is there

-- a glyph's metric is in a source, and in a table under a number
pub record HasMetric (font : Font) (m : Measures) (g i : ℕ) : Type 0 where
  pub metric : LongHorMetric
  pub source : metric_of (table font) g ≡ Some metric
  pub copy : metric_in m.hmtx m.number_of_h_metrics i ≡ Some metric

width_is : (font : Font) (g units : ℕ) (m : LongHorMetric) → metric_of (table font) g ≡ Some m → units_per_em font ≡ Some units → width font g ≡ Some (thousandths m.advance_width units)
width_is font g units m h u =
    ap (option_and_then (λ (x : LongHorMetric). option_and_then (λ n. Some (thousandths x.advance_width n)) (units_per_em font))) h ∙ ap (option_and_then (λ n. Some (thousandths m.advance_width n))) u

one_width : (m : Measures) (g n a : ℕ) (ws : List ℕ) → advance_in m.hmtx m.number_of_h_metrics g ≡ Some a → widths_from m (g + 1) n ≡ Ok ws → widths_from m g (suc n) ≡ Ok (thousandths a m.units ∷ ws)
one_width m g n a ws h k =
    ap (λ o. ok_or o MalformedFont >>= λ advance. widths_from m (g + 1) n >>= λ widths. Ok (thousandths advance m.units ∷ widths)) h ∙ ap (λ (r : Result (List ℕ) Error). r >>= λ widths. Ok (thousandths a m.units ∷ widths)) k

one_advance : (m : Measures) (g n a : ℕ) (ws : List ℕ) → advance_in m.hmtx m.number_of_h_metrics g ≡ Some a → advances_from m (g + 1) n ≡ Ok ws → advances_from m g (suc n) ≡ Ok (a ∷ ws)
one_advance m g n a ws h k =
    ap (λ o. ok_or o MalformedFont >>= λ advance. advances_from m (g + 1) n >>= λ others. Ok (advance ∷ others)) h ∙ ap (λ (r : Result (List ℕ) Error). r >>= λ others. Ok (a ∷ others)) k

-- the widths that are read, of these glyphs
pub record AreWidths (font : Font) (m : Measures) (g : ℕ) (glyphs : List ℕ) : Type 0 where
  pub widths : List ℕ
  pub read : widths_from m g (length glyphs) ≡ Ok widths
  pub are : map Some widths ≡ map (width font) glyphs
  pub exact : List ℕ
  pub exact_read : advances_from m g (length glyphs) ≡ Ok exact
  pub exact_are : map Some exact ≡ map (exact_width font) glyphs

pub all_widths : (font : Font) (m : Measures) (glyphs : List ℕ) (g : ℕ) → units_per_em font ≡ Some m.units → ((i : ℕ) → i < length glyphs → HasMetric font m (slice_index glyphs i) (g + i)) → AreWidths font m g glyphs
all_widths font m [] g u h = record { widths = []; read = refl; are = refl; exact = []; exact_read = refl; exact_are = refl }
all_widths font m (x ∷ glyphs) g u h =
    let first = h 0 (omega arith) in
    let here : metric_in m.hmtx m.number_of_h_metrics g ≡ Some first.metric = ap (metric_in m.hmtx m.number_of_h_metrics) (omega arith) ∙ first.copy in
    let later : (i : ℕ) → i < length glyphs → HasMetric font m (slice_index glyphs i) (g + 1 + i) = λ i lt. subst (HasMetric font m (slice_index glyphs i)) (omega arith) (h (suc i) (omega arith)) in
    let rest = all_widths font m glyphs (g + 1) u later in
    let advance = advance_of m.hmtx m.number_of_h_metrics g first.metric here in
    record {
      widths = thousandths first.metric.advance_width m.units ∷ rest.widths;
      read = one_width m g (length glyphs) first.metric.advance_width rest.widths advance rest.read;
      are = ap (λ o. o ∷ map Some rest.widths) (sym (width_is font x m.units first.metric first.source u)) ∙ ap (λ (l : List (Option ℕ)). width font x ∷ l) rest.are;
      exact = first.metric.advance_width ∷ rest.exact;
      exact_read = one_advance m g (length glyphs) first.metric.advance_width rest.exact advance rest.exact_read;
      exact_are = ap (λ o. o ∷ map Some rest.exact) (sym (ap (option_map (λ (it : LongHorMetric). it.advance_width)) first.source)) ∙ ap (λ (l : List (Option ℕ)). exact_width font x ∷ l) rest.exact_are;
    }

-- ---- what is read step by step

all_read : (find : List ℕ → Option (List ℕ)) (n : ℕ) (hmtx head hhea : List ℕ) (units pairs : ℕ) → find (codes "hmtx") ≡ Some hmtx → find (codes "head") ≡ Some head → number head 18 2 ≡ Some (suc units) → find (codes "hhea") ≡ Some hhea → number_of_h_metrics hhea ≡ Some pairs → widths_of find n ≡ widths_from (record { hmtx = hmtx; number_of_h_metrics = pairs; units = suc units }) 0 n
unfolding widths_of measures_of
all_read find n hmtx head hhea units pairs h k u a b = rw (h, k, u, ne_eqb (suc units) 0 (λ e. omega arith), a, b) refl

exact_all_read : (find : List ℕ → Option (List ℕ)) (n : ℕ) (hmtx head hhea : List ℕ) (units pairs : ℕ) → find (codes "hmtx") ≡ Some hmtx → find (codes "head") ≡ Some head → number head 18 2 ≡ Some (suc units) → find (codes "hhea") ≡ Some hhea → number_of_h_metrics hhea ≡ Some pairs → exact_of find n ≡ (advances_from (record { hmtx = hmtx; number_of_h_metrics = pairs; units = suc units }) 0 n >>= λ widths. Ok (record { units_per_em = suc units; widths = widths }))
unfolding exact_of measures_of
exact_all_read find n hmtx head hhea units pairs h k u a b = rw (h, k, u, ne_eqb (suc units) 0 (λ e. omega arith), a, b) refl

-- ---- unitsPerEm is kept

units_within : (xs : List ℕ) → take 2 (drop 18 xs) ≡ take 2 (drop 6 (slice_range xs 12 50))
units_within xs = sym (ap (take 2) (drop-take 6 32 (drop 12 xs)) ∙ take-take 2 32 (drop 6 (drop 12 xs)) (omega arith) ∙ ap (take 2) (drop-drop 6 12 xs))

same_units : (a b : List ℕ) → length a ≡ length b → slice_range a 12 50 ≡ slice_range b 12 50 → number a 18 2 ≡ number b 18 2
same_units a b len mid =
    let t : take 2 (drop 18 a) ≡ take 2 (drop 18 b) = units_within a ∙ ap (λ (l : List ℕ). take 2 (drop 6 l)) mid ∙ sym (units_within b) in
    ap (λ (n : ℕ). option_map be (cond (leb 20 n) (Some (take 2 (drop 18 a))) None)) len ∙ ap (λ (l : List ℕ). option_map be (cond (leb 20 (length b)) (Some l) None)) t

metric_read : (find : List ℕ → Option (List ℕ)) (hhea hmtx : List ℕ) (count g : ℕ) → find (codes "hhea") ≡ Some hhea → find (codes "hmtx") ≡ Some hmtx → number_of_h_metrics hhea ≡ Some count → metric_of find g ≡ metric_in hmtx count g
unfolding metric_of
metric_read find hhea hmtx count g a b c = rw (a, b, c) refl

-- ---- the widths of all glyphs of a new font

-- each is that of its source
pub record AreAllWidths (font : Font) (order out : List ℕ) : Type 0 where
  pub widths : List ℕ
  pub read : widths_of (table (as_font out)) (length order) ≡ Ok widths
  pub are : map Some widths ≡ map (width font) order
  pub exact : Exact
  pub exact_read : exact_of (table (as_font out)) (length order) ≡ Ok exact
  pub exact_are : map Some exact.widths ≡ map (exact_width font) order
  pub units_are : units_per_em font ≡ Some exact.units_per_em

module _ (tokens depth : ℕ) (font : Font) (glyphs out : List ℕ) (s : IsSubset tokens depth font glyphs out) (clean : (e : Error) → HasFault tokens depth font glyphs s.keeps.order e → ⊥) (sound : (e : Error) → HasWidthFault font e → ⊥) where
  abbrev there : List ℕ → Option (List ℕ)
  there tag = table font tag

  module _ (hmtx head : List ℕ) (h : there (codes "hmtx") ≡ Some hmtx) (k : there (codes "head") ≡ Some head) where
    kept : KeepsMetrics (table font) s.keeps.order (table (as_font out))
    kept = s.keeps.shared.metrics (is_some_of (there (codes "hmtx")) hmtx h)

    header : KeepsHead font (as_font out)
    header = s.keeps.shared.head (is_some_of (there (codes "head")) head k)

    copied : number header.copy 18 2 ≡ number head 18 2
    copied = same_units header.copy header.source header.same_length header.middle ∙ ap (λ (l : List ℕ). number l 18 2) (just_is header.source head (sym header.source_is ∙ k))

    has_metric : (units i : ℕ) → i < length s.keeps.order → HasMetric font (record { hmtx = kept.hmtx; number_of_h_metrics = kept.count; units = units }) (slice_index s.keeps.order i) (0 + i)
    has_metric units i lt =
        let same = kept.metrics i lt in
        record {
          metric = same.metric;
          source = same.source;
          copy = ap (metric_in kept.hmtx kept.count) (omega arith) ∙ sym (metric_read (table (as_font out)) kept.hhea kept.hmtx kept.count i kept.hhea_is kept.hmtx_is kept.count_is) ∙ same.copy;
        }

    by : (units : Option ℕ) → number head 18 2 ≡ units → AreAllWidths font s.keeps.order out
    by None u = absurd (clean MalformedFont (in_outlines (short_head head k (let short = number-short head 18 2 u in omega arith))))
    by (Some zero) u = absurd (sound MalformedFont (no_units (ap (option_and_then units_in) k ∙ u)))
    by (Some (suc units)) u =
        let em : units_per_em font ≡ Some (suc units) = ap (option_and_then units_in) k ∙ u in
        let all = all_widths font (record { hmtx = kept.hmtx; number_of_h_metrics = kept.count; units = suc units }) s.keeps.order 0 em (has_metric (suc units)) in
        record {
          widths = all.widths;
          read = all_read (table (as_font out)) (length s.keeps.order) kept.hmtx header.copy kept.hhea units kept.count kept.hmtx_is header.copy_is (copied ∙ u) kept.hhea_is kept.count_is ∙ all.read;
          are = all.are;
          exact = record { units_per_em = suc units; widths = all.exact };
          exact_read = exact_all_read (table (as_font out)) (length s.keeps.order) kept.hmtx header.copy kept.hhea units kept.count kept.hmtx_is header.copy_is (copied ∙ u) kept.hhea_is kept.count_is
              ∙ ap (λ (r : Result (List ℕ) Error). r >>= λ widths. let x : Exact = record { units_per_em = suc units; widths = widths } in Ok x) all.exact_read;
          exact_are = all.exact_are;
          units_are = em;
        }

  by_head : (hmtx : List ℕ) → there (codes "hmtx") ≡ Some hmtx → (head : Option (List ℕ)) → there (codes "head") ≡ head → AreAllWidths font s.keeps.order out
  by_head hmtx h None k = absurd (sound MalformedFont (no_head k))
  by_head hmtx h (Some head) k = by hmtx head h k (number head 18 2) refl

  by_hmtx : (hmtx : Option (List ℕ)) → there (codes "hmtx") ≡ hmtx → AreAllWidths font s.keeps.order out
  by_hmtx None h = absurd (sound MalformedFont (no_hmtx h))
  by_hmtx (Some hmtx) h = by_head hmtx h (there (codes "head")) refl

  pub are_all_widths : AreAllWidths font s.keeps.order out
  are_all_widths = by_hmtx (there (codes "hmtx")) refl
