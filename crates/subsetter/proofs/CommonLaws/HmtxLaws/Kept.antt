-- The plain way to `hhea` and `hmtx` keeps the metrics; what it refuses has a fault, and what it makes has none.
use Rattle.std.proofs.Common.{◌≡◌, ℕ, zero, suc, ◌+◌, ◌-◌, ◌*◌, ◌^◌, ◌<◌, ◌≤◌, Bool, true, false, cond, List, length, get_or, Option, Some, None, Result, Ok, Err, refl, sym, ap, subst, ◌∙◌, ◌⊎◌, inl, inr, arith}
use Rattle.std.specs.Prelude.{codes, Contains, IsSome, slice_index, ◌==◌}
use Rattle.std.specs.Option.{ok_or}
use Rattle.std.proofs.lemmas.Bool.{eqb-true, eqb-false, lt-ltb, le-ltb}
use Rattle.std.proofs.lemmas.List.{get_or_default}
use Rattle.subsetter_base.specs.Bytes.{number, IsBytes, ◌>>=◌}
use Rattle.subsetter_base.specs.declared.error.Error.{Error}
use Rattle.subsetter_base.specs.declared.error.Error.TheVariants.{MalformedFont, OverflowError}
use Rattle.subsetter_base.proofs.ByteLemmas.{number-fits, number-short}
use Rattle.subsetter_base.proofs.Results.{done, done_is, failed_is, bind_ok, bind_err, named_ok, named_err}
use Rattle.subsetter_base.proofs.Options.{some_not_none, just_is, is_some_of}
use Rattle.subsetter_sfnt.specs.declared.fields.hmtx.LongHorMetric.{LongHorMetric}
use Rattle.subsetter.specs.Common.Hmtx.Read.{metric_of, KeepsMetrics, HasMetricsFault, no_hhea, short_hhea, no_pairs, last_advance_outside, metric_outside}
use Rattle.subsetter_sfnt.specs.Fields.Hmtx.{metric_at, metric_in, hmtx_bytes}
use Rattle.subsetter_sfnt.specs.Fields.Hhea.{number_of_h_metrics}
use Rattle.subsetter_sfnt.proofs.Laws.FieldsLaws.HmtxLaws.{metric_small, metric_back, length-hmtx, metric_by}
use Rattle.subsetter.specs.Common.Hmtx.Written.{MetricBytes, least_count, hhea_bytes, if_pairs, metrics_all, source_count, tables_of, metrics_in, metrics_of}
use Rattle.subsetter.proofs.CommonLaws.HmtxLaws.Written.{length-hhea, metrics-length, metrics_at, metrics_missing, least_count-le, least_count_pos, advances_agree, least_count_least}
use Rattle.subsetter.proofs.CommonLaws.HmtxLaws.Back.{count_back, header_before, header_after}

-- ---- the steps of what was answered

pairs_ok : (n c : ℕ) → if_pairs n ≡ Ok c → (n ≡ c) × (0 < n)
pairs_ok n c h = by (n == 0) refl h
  where
    by : (b : Bool) → (n == 0) ≡ b → cond b (Err OverflowError) (Ok n) ≡ Ok c → (n ≡ c) × (0 < n)
    by true t k = absurd cc
    by false t k = (done_is n c k, let not_zero = eqb-false n 0 t in omega arith)

pairs_err : (n : ℕ) (e : Error) → if_pairs n ≡ Err e → (n ≡ 0) × (OverflowError ≡ e)
pairs_err n e h = by (n == 0) refl h
  where
    by : (b : Bool) → (n == 0) ≡ b → cond b (Err OverflowError) (Ok n) ≡ Err e → (n ≡ 0) × (OverflowError ≡ e)
    by true t k = (eqb-true n 0 t, failed_is {A = ℕ} OverflowError e k)
    by false t k = absurd cc

abbrev last_pair : List ℕ → ℕ → Result ℕ Error
last_pair hmtx count = ok_or (number hmtx (4 * (count - 1)) 2) MalformedFont >>= λ advance. Ok count

-- the source's number of pairs, of which the last has its advance
pub record HasPairs (hhea hmtx : List ℕ) (count : ℕ) : Type 0 where
  pub count_is : number_of_h_metrics hhea ≡ Some count
  pub positive : 0 < count
  pub advance_width : ℕ
  pub last : number hmtx (4 * (count - 1)) 2 ≡ Some advance_width

has_pairs : (hhea hmtx : List ℕ) (count : ℕ) → source_count hhea hmtx ≡ Ok count → HasPairs hhea hmtx count
unfolding source_count
has_pairs hhea hmtx count h =
    let a = bind_ok (ok_or (number_of_h_metrics hhea) MalformedFont) (λ found. if_pairs found >>= λ c. last_pair hmtx c) count h in
    let b = bind_ok (if_pairs a.0) (λ c. last_pair hmtx c) count a.2 in
    let c = bind_ok (ok_or (number hmtx (4 * (b.0 - 1)) 2) MalformedFont) (λ advance. Ok b.0) count b.2 in
    let p = pairs_ok a.0 b.0 b.1 in
    let same : b.0 ≡ count = done_is b.0 count c.2 in
    record {
      count_is = named_ok (number_of_h_metrics hhea) MalformedFont a.0 a.1 ∙ ap Some (p.0 ∙ same);
      positive = omega (arith, p.0, p.1, same);
      advance_width = c.0;
      last = ap (λ k. number hmtx (4 * (k - 1)) 2) (sym same) ∙ named_ok (number hmtx (4 * (b.0 - 1)) 2) MalformedFont c.0 c.1;
    }

pub record Steps (find : List ℕ → Option (List ℕ)) (order : List ℕ) (t : MetricBytes) : Type 0 where
  pub hmtx : List ℕ
  pub hmtx_is : find (codes "hmtx") ≡ Some hmtx
  pub hhea : List ℕ
  pub hhea_is : find (codes "hhea") ≡ Some hhea
  pub count : ℕ
  pub number_of_h_metrics : HasPairs hhea hmtx count
  pub metrics : List LongHorMetric
  pub all : metrics_all hmtx count order ≡ Ok metrics
  pub tables : t ≡ record { hhea = hhea_bytes (least_count metrics) hhea; hmtx = hmtx_bytes (least_count metrics) metrics }

abbrev laid : List ℕ → List LongHorMetric → Result MetricBytes Error
laid header ms = let n = least_count ms in Ok (record { hhea = hhea_bytes n header; hmtx = hmtx_bytes n ms })

steps_in : (find : List ℕ → Option (List ℕ)) (order hmtx : List ℕ) (t : MetricBytes) → find (codes "hmtx") ≡ Some hmtx → tables_of (find (codes "hhea")) hmtx order ≡ Ok t → Steps find order t
unfolding tables_of
steps_in find order hmtx t at h =
    let a = bind_ok (ok_or (find (codes "hhea")) MalformedFont) (λ header. source_count header hmtx >>= λ count. metrics_all hmtx count order >>= λ ms. laid header ms) t h in
    let b = bind_ok (source_count a.0 hmtx) (λ count. metrics_all hmtx count order >>= λ ms. laid a.0 ms) t a.2 in
    let c = bind_ok (metrics_all hmtx b.0 order) (λ ms. laid a.0 ms) t b.2 in
    record {
      hmtx = hmtx;
      hmtx_is = at;
      hhea = a.0;
      hhea_is = named_ok (find (codes "hhea")) MalformedFont a.0 a.1;
      count = b.0;
      number_of_h_metrics = has_pairs a.0 hmtx b.0 b.1;
      metrics = c.0;
      all = c.1;
      tables = sym (done_is (record { hhea = hhea_bytes (least_count c.0) a.0; hmtx = hmtx_bytes (least_count c.0) c.0 }) t c.2);
    }

pub steps : (find : List ℕ → Option (List ℕ)) (order : List ℕ) (t : MetricBytes) → metrics_of find order ≡ Ok (Some t) → Steps find order t
unfolding metrics_in
steps find order t h = by (find (codes "hmtx")) refl h
  where
    by : (o : Option (List ℕ)) → find (codes "hmtx") ≡ o → metrics_in (find (codes "hhea")) o order ≡ Ok (Some t) → Steps find order t
    by None at k = absurd cc
    by (Some hmtx) at k =
        let a = bind_ok (tables_of (find (codes "hhea")) hmtx order) (λ tables. Ok (Some tables)) (Some t) k in
        steps_in find order hmtx t at (a.1 ∙ ap Ok (just_is a.0 t (done_is (Some a.0) (Some t) a.2)))

-- the tables are written exactly where the source has `hmtx`
pub no_metrics : (find : List ℕ → Option (List ℕ)) (order : List ℕ) → metrics_of find order ≡ Ok None → find (codes "hmtx") ≡ None
unfolding metrics_in
no_metrics find order h = by (find (codes "hmtx")) refl h
  where
    by : (o : Option (List ℕ)) → find (codes "hmtx") ≡ o → metrics_in (find (codes "hhea")) o order ≡ Ok None → find (codes "hmtx") ≡ None
    by None at k = at
    by (Some hmtx) at k =
        let a = bind_ok (tables_of (find (codes "hhea")) hmtx order) (λ tables. Ok (Some tables)) None k in
        let e = done_is (Some a.0) None a.2 in absurd cc

-- ---- advances of tables

advance_there : (hmtx : List ℕ) (p q : ℕ) (m : LongHorMetric) → metric_at hmtx p q ≡ Some m → number hmtx p 2 ≡ Some m.advance_width
advance_there hmtx p q m h = by (number hmtx p 2) (number hmtx q 2) h
  where
    by : (a b : Option ℕ) → metric_by a b ≡ Some m → a ≡ Some m.advance_width
    by None b k = absurd cc
    by (Some a) None k = absurd cc
    by (Some a) (Some b) k = ap (λ (x : LongHorMetric). Some x.advance_width) (just_is (record { advance_width = a; lsb = b }) m k)

-- a pair has its own advance
own_advance : (hmtx : List ℕ) (count g : ℕ) (m : LongHorMetric) → metric_in hmtx count g ≡ Some m → g < count → number hmtx (4 * g) 2 ≡ Some m.advance_width
unfolding metric_in
own_advance hmtx count g m h lt =
    advance_there hmtx (4 * g) (4 * g + 2) m (sym (ap (λ b. cond b (metric_at hmtx (4 * g) (4 * g + 2)) (cond (count == 0) None (metric_at hmtx (4 * (count - 1)) (4 * count + 2 * (g - count))))) (lt-ltb g count lt)) ∙ h)

-- and what comes after the pairs has the last one's
shared_advance : (hmtx : List ℕ) (count g : ℕ) (m : LongHorMetric) → metric_in hmtx count g ≡ Some m → count ≤ g → number hmtx (4 * (count - 1)) 2 ≡ Some m.advance_width
unfolding metric_in
shared_advance hmtx count g m h le =
    by (count == 0) (sym (ap (λ b. cond b (metric_at hmtx (4 * g) (4 * g + 2)) (cond (count == 0) None (metric_at hmtx (4 * (count - 1)) (4 * count + 2 * (g - count))))) (le-ltb g count le)) ∙ h)
  where
    by : (b : Bool) → cond b None (metric_at hmtx (4 * (count - 1)) (4 * count + 2 * (g - count))) ≡ Some m → number hmtx (4 * (count - 1)) 2 ≡ Some m.advance_width
    by true k = absurd cc
    by false k = advance_there hmtx (4 * (count - 1)) (4 * count + 2 * (g - count)) m k

no_pairs_no_metric : (hmtx : List ℕ) (g : ℕ) → metric_in hmtx 0 g ≡ None
unfolding metric_in
no_pairs_no_metric hmtx g = ap (λ b. cond b (metric_at hmtx (4 * g) (4 * g + 2)) None) (le-ltb g 0 (omega arith))

abbrev zeros : LongHorMetric
zeros = record { advance_width = 0; lsb = 0 }

-- tables with these metrics have at least the least number of pairs
no_fewer : (ms : List LongHorMetric) (bytes : List ℕ) (c : ℕ) → 0 < length ms → ((i : ℕ) → i < length ms → metric_in bytes c i ≡ Some (get_or ms i zeros)) → least_count ms ≤ c
no_fewer ms bytes zero some h = absurd (some_not_none (metric_in bytes 0 0) (get_or ms 0 zeros) (h 0 some) (no_pairs_no_metric bytes 0))
no_fewer ms bytes (suc k) some h = least_count_least ms k zeros agree
  where
    agree : (i : ℕ) → suc k ≤ i → i < length ms → (get_or ms i zeros).advance_width ≡ (get_or ms k zeros).advance_width
    agree i le lt =
        let a = shared_advance bytes (suc k) i (get_or ms i zeros) (h i lt) le in
        let b = own_advance bytes (suc k) k (get_or ms k zeros) (h k (omega arith)) (omega arith) in
        let place : 4 * (suc k - 1) ≡ 4 * k = omega arith in
        just_is (get_or ms i zeros).advance_width (get_or ms k zeros).advance_width (sym a ∙ ap (λ p. number bytes p 2) place ∙ b)

-- ---- what is answered

module _ (find out : List ℕ → Option (List ℕ)) (order : List ℕ) (t : MetricBytes) (s : Steps find order t) where
  -- the source's metric of a glyph of the order
  source_metric : (i : ℕ) → i < length order → metric_of find (slice_index order i) ≡ Some (get_or s.metrics i zeros)
  unfolding metric_of
  source_metric i lt = rw (s.hhea_is, s.hmtx_is, s.number_of_h_metrics.count_is) (metrics_at s.hmtx s.count order s.metrics i zeros s.all lt)

  copy_metric : (n : ℕ) → n ≡ least_count s.metrics → n < 2 ^ 16 → 36 ≤ length s.hhea → IsBytes s.hmtx → out (codes "hhea") ≡ Some (hhea_bytes n s.hhea) → out (codes "hmtx") ≡ Some (hmtx_bytes n s.metrics) → (i : ℕ) → i < length order
      → metric_of out i ≡ Some (get_or s.metrics i zeros)
  unfolding metric_of
  copy_metric n is small long all_bytes a b i lt =
      let len = metrics-length s.hmtx s.count order s.metrics s.all in
      let within : i < length s.metrics = omega (arith, len) in
      let pos : 1 ≤ n = omega (arith, is, least_count_pos s.metrics (omega arith)) in
      let few : n ≤ length s.metrics = omega (arith, is, least_count-le s.metrics) in
      let fits = metric_small s.hmtx s.count (slice_index order i) (get_or s.metrics i zeros) all_bytes (metrics_at s.hmtx s.count order s.metrics i zeros s.all lt) in
      let agree : n ≤ i → (get_or s.metrics i zeros).advance_width ≡ (get_or s.metrics (n - 1) zeros).advance_width = λ le. advances_agree s.metrics (n - 1) i zeros (omega (arith, is, pos)) (omega (arith, pos, le)) within in
      rw (a, b, count_back n s.hhea small long) (metric_back s.metrics n i zeros pos few within fits agree)

  keeps : ((hmtx : List ℕ) → find (codes "hmtx") ≡ Some hmtx → IsBytes hmtx) → 0 < length order → length order < 2 ^ 16 → out (codes "hhea") ≡ Some t.hhea → out (codes "hmtx") ≡ Some t.hmtx → KeepsMetrics find order out
  keeps all_bytes some few a b =
      let n = least_count s.metrics in
      let len = metrics-length s.hmtx s.count order s.metrics s.all in
      let small : n < 2 ^ 16 = omega (arith, len, least_count-le s.metrics) in
      let long = number-fits s.hhea 34 2 s.count s.number_of_h_metrics.count_is in
      let hhea_at : out (codes "hhea") ≡ Some (hhea_bytes n s.hhea) = a ∙ ap (λ (x : MetricBytes). Some x.hhea) s.tables in
      let hmtx_at : out (codes "hmtx") ≡ Some (hmtx_bytes n s.metrics) = b ∙ ap (λ (x : MetricBytes). Some x.hmtx) s.tables in
      record {
        metrics = λ i lt. record { metric = get_or s.metrics i zeros; source = source_metric i lt; copy = copy_metric n refl small long (all_bytes s.hmtx s.hmtx_is) hhea_at hmtx_at i lt };
        header = s.hhea;
        header_is = s.hhea_is;
        hhea = hhea_bytes n s.hhea;
        hhea_is = hhea_at;
        hmtx = hmtx_bytes n s.metrics;
        hmtx_is = hmtx_at;
        count = n;
        count_is = count_back n s.hhea small long;
        at_least = least_count_pos s.metrics (omega (arith, len));
        at_most = omega (arith, len, least_count-le s.metrics);
        least = λ bytes c same. no_fewer s.metrics bytes c (omega (arith, len)) (λ i lt. same i (omega (arith, len)) ∙ source_metric i (omega (arith, len)));
        size = length-hmtx s.metrics n (least_count-le s.metrics) ∙ ap (λ k. 4 * n + 2 * (k - n)) len;
        same_length = length-hhea n s.hhea long;
        before = header_before n s.hhea long;
        after = header_after n s.hhea long;
      }

-- the tables that are answered keep the metrics of the glyphs in their order
pub keeps_metrics : (find out : List ℕ → Option (List ℕ)) (order : List ℕ) (t : MetricBytes) → ((hmtx : List ℕ) → find (codes "hmtx") ≡ Some hmtx → IsBytes hmtx) → 0 < length order → length order < 2 ^ 16 → metrics_of find order ≡ Ok (Some t)
    → out (codes "hhea") ≡ Some t.hhea → out (codes "hmtx") ≡ Some t.hmtx → KeepsMetrics find order out
keeps_metrics find out order t all_bytes some few h a b = keeps find out order t (steps find order t h) all_bytes some few a b

-- ---- what is refused

module _ (find : List ℕ → Option (List ℕ)) (order hmtx : List ℕ) (at : find (codes "hmtx") ≡ Some hmtx) where
  count_fault : (hhea : List ℕ) (e : Error) → find (codes "hhea") ≡ Some hhea → source_count hhea hmtx ≡ Err e → HasMetricsFault find (Contains order) e
  unfolding source_count
  count_fault hhea e is h =
      elim (bind_err (ok_or (number_of_h_metrics hhea) MalformedFont) (λ found. if_pairs found >>= λ c. last_pair hmtx c) e h) [
        | inl k ↦ let n = named_err (number_of_h_metrics hhea) MalformedFont e k in subst (HasMetricsFault find (Contains order)) n.1 (short_hhea hhea (is_some_of (find (codes "hmtx")) hmtx at) is (number-short hhea 34 2 n.0))
        | inr k ↦ second k.0 (named_ok (number_of_h_metrics hhea) MalformedFont k.0 k.1) (bind_err (if_pairs k.0) (λ c. last_pair hmtx c) e k.2)
      ]
    where
      third : (n c : ℕ) → number_of_h_metrics hhea ≡ Some n → (n ≡ c) × (0 < n) → (ok_or (number hmtx (4 * (c - 1)) 2) MalformedFont ≡ Err e) ⊎ ((x : ℕ) × (ok_or (number hmtx (4 * (c - 1)) 2) MalformedFont ≡ Ok x) × (done c ≡ Err e)) → HasMetricsFault find (Contains order) e
      third n c seen p (inl k) =
          let m = named_err (number hmtx (4 * (c - 1)) 2) MalformedFont e k in
          subst (HasMetricsFault find (Contains order)) m.1 (last_advance_outside hhea hmtx c at is (seen ∙ ap Some p.0) (omega (arith, p.0, p.1)) m.0)
      third n c seen p (inr k) = absurd cc

      second : (n : ℕ) → number_of_h_metrics hhea ≡ Some n → (if_pairs n ≡ Err e) ⊎ ((c : ℕ) × (if_pairs n ≡ Ok c) × (last_pair hmtx c ≡ Err e)) → HasMetricsFault find (Contains order) e
      second n seen (inl k) = let z = pairs_err n e k in subst (HasMetricsFault find (Contains order)) z.1 (no_pairs hhea (is_some_of (find (codes "hmtx")) hmtx at) is (seen ∙ ap Some z.0))
      second n seen (inr k) = third n k.0 seen (pairs_ok n k.0 k.1) (bind_err (ok_or (number hmtx (4 * (k.0 - 1)) 2) MalformedFont) (λ advance. Ok k.0) e k.2)

  tables_fault : (e : Error) → tables_of (find (codes "hhea")) hmtx order ≡ Err e → HasMetricsFault find (Contains order) e
  unfolding tables_of
  tables_fault e h =
      elim (bind_err (ok_or (find (codes "hhea")) MalformedFont) (λ header. source_count header hmtx >>= λ count. metrics_all hmtx count order >>= λ ms. laid header ms) e h) [
        | inl k ↦ let n = named_err (find (codes "hhea")) MalformedFont e k in subst (HasMetricsFault find (Contains order)) n.1 (no_hhea (is_some_of (find (codes "hmtx")) hmtx at) n.0)
        | inr k ↦ second k.0 (named_ok (find (codes "hhea")) MalformedFont k.0 k.1) (bind_err (source_count k.0 hmtx) (λ count. metrics_all hmtx count order >>= λ ms. laid k.0 ms) e k.2)
      ]
    where
      third : (hhea : List ℕ) (count : ℕ) → find (codes "hhea") ≡ Some hhea → HasPairs hhea hmtx count → (metrics_all hmtx count order ≡ Err e) ⊎ ((ms : List LongHorMetric) × (metrics_all hmtx count order ≡ Ok ms) × (laid hhea ms ≡ Err e)) → HasMetricsFault find (Contains order) e
      third hhea count is p (inl k) =
          let m = metrics_missing hmtx count order e k in
          subst (HasMetricsFault find (Contains order)) m.0 (metric_outside m.1.0 hhea hmtx count m.1.1 at is p.count_is p.positive m.1.2)
      third hhea count is p (inr k) = absurd cc

      second : (hhea : List ℕ) → find (codes "hhea") ≡ Some hhea → (source_count hhea hmtx ≡ Err e) ⊎ ((count : ℕ) × (source_count hhea hmtx ≡ Ok count) × ((metrics_all hmtx count order >>= λ ms. laid hhea ms) ≡ Err e)) → HasMetricsFault find (Contains order) e
      second hhea is (inl k) = count_fault hhea e is k
      second hhea is (inr k) = third hhea k.0 is (has_pairs hhea hmtx k.0 k.1) (bind_err (metrics_all hmtx k.0 order) (λ ms. laid hhea ms) e k.2)

-- an error is that of a fault
pub metrics_refused : (find : List ℕ → Option (List ℕ)) (order : List ℕ) (e : Error) → metrics_of find order ≡ Err e → HasMetricsFault find (Contains order) e
unfolding metrics_in
metrics_refused find order e h = by (find (codes "hmtx")) refl h
  where
    by : (o : Option (List ℕ)) → find (codes "hmtx") ≡ o → metrics_in (find (codes "hhea")) o order ≡ Err e → HasMetricsFault find (Contains order) e
    by None at k = absurd cc
    by (Some hmtx) at k = elim (bind_err (tables_of (find (codes "hhea")) hmtx order) (λ tables. Ok (Some tables)) e k) [
      | inl j ↦ tables_fault find order hmtx at e j
      | inr j ↦ absurd cc
    ]

-- ---- what is answered has no fault

no_table : {A : Type 0} (o : Option A) → o ≡ None → IsSome o → ⊥
no_table None h k = absurd cc
no_table (Some x) h k = absurd cc

module _ (find : List ℕ → Option (List ℕ)) (order : List ℕ) where
  none_clean : (e : Error) → find (codes "hmtx") ≡ None → HasMetricsFault find (Contains order) e → ⊥
  none_clean e at (no_hhea a b) = no_table (find (codes "hmtx")) at a
  none_clean e at (short_hhea hhea a b c) = no_table (find (codes "hmtx")) at a
  none_clean e at (no_pairs hhea a b c) = no_table (find (codes "hmtx")) at a
  none_clean e at (last_advance_outside hhea hmtx count a b c d f) = some_not_none (find (codes "hmtx")) hmtx a at
  none_clean e at (metric_outside g hhea hmtx count r a b c d f) = some_not_none (find (codes "hmtx")) hmtx a at

  -- the header and the count of a fault are those that were found
  same_header : (t : MetricBytes) (s : Steps find order t) (hhea : List ℕ) → find (codes "hhea") ≡ Some hhea → s.hhea ≡ hhea
  same_header t s hhea h = just_is s.hhea hhea (sym s.hhea_is ∙ h)

  same_hmtx : (t : MetricBytes) (s : Steps find order t) (hmtx : List ℕ) → find (codes "hmtx") ≡ Some hmtx → s.hmtx ≡ hmtx
  same_hmtx t s hmtx h = just_is s.hmtx hmtx (sym s.hmtx_is ∙ h)

  same_count : (t : MetricBytes) (s : Steps find order t) (hhea : List ℕ) (count : ℕ) → find (codes "hhea") ≡ Some hhea → number_of_h_metrics hhea ≡ Some count → s.count ≡ count
  same_count t s hhea count h k = just_is s.count count (sym s.number_of_h_metrics.count_is ∙ ap number_of_h_metrics (same_header t s hhea h) ∙ k)

  some_clean : (t : MetricBytes) (e : Error) → Steps find order t → HasMetricsFault find (Contains order) e → ⊥
  some_clean t e s (no_hhea a b) = some_not_none (find (codes "hhea")) s.hhea s.hhea_is b
  some_clean t e s (short_hhea hhea a b c) = omega (arith, ap length (same_header t s hhea b), number-fits s.hhea 34 2 s.count s.number_of_h_metrics.count_is, c)
  some_clean t e s (no_pairs hhea a b c) = omega (arith, same_count t s hhea 0 b c, s.number_of_h_metrics.positive)
  some_clean t e s (last_advance_outside hhea hmtx count a b c d f) =
      some_not_none (number s.hmtx (4 * (s.count - 1)) 2) s.number_of_h_metrics.advance_width s.number_of_h_metrics.last (ap (λ k. number s.hmtx (4 * (k - 1)) 2) (same_count t s hhea count b c) ∙ ap (λ (l : List ℕ). number l (4 * (count - 1)) 2) (same_hmtx t s hmtx a) ∙ f)
  some_clean t e s (metric_outside g hhea hmtx count r a b c d f) =
      let is_g : slice_index order r.0 ≡ g = get_or_default order r.0 0 g r.1 ∙ r.2 in
      let found = metrics_at s.hmtx s.count order s.metrics r.0 zeros s.all r.1 in
      let lost : metric_in s.hmtx s.count (slice_index order r.0) ≡ None = ap (λ k. metric_in s.hmtx s.count k) is_g ∙ ap (λ k. metric_in s.hmtx k g) (same_count t s hhea count b c) ∙ ap (λ (l : List ℕ). metric_in l count g) (same_hmtx t s hmtx a) ∙ f in
      some_not_none (metric_in s.hmtx s.count (slice_index order r.0)) (get_or s.metrics r.0 zeros) found lost

pub metrics_clean : (find : List ℕ → Option (List ℕ)) (order : List ℕ) (x : Option MetricBytes) (e : Error) → metrics_of find order ≡ Ok x → HasMetricsFault find (Contains order) e → ⊥
metrics_clean find order None e h fault = none_clean find order e (no_metrics find order h) fault
metrics_clean find order (Some t) e h fault = some_clean find order t e (steps find order t h) fault

-- a fault at one kind of reached glyphs is one at each wider kind
pub metrics_fault_among : (find : List ℕ → Option (List ℕ)) (near far : ℕ → Type 0) (e : Error) → ((g : ℕ) → near g → far g) → HasMetricsFault find near e → HasMetricsFault find far e
metrics_fault_among find near far e h (no_hhea a b) = no_hhea a b
metrics_fault_among find near far e h (short_hhea hhea a b c) = short_hhea hhea a b c
metrics_fault_among find near far e h (no_pairs hhea a b c) = no_pairs hhea a b c
metrics_fault_among find near far e h (last_advance_outside hhea hmtx count a b c d f) = last_advance_outside hhea hmtx count a b c d f
metrics_fault_among find near far e h (metric_outside g hhea hmtx count r a b c d f) = metric_outside g hhea hmtx count (h g r) a b c d f
