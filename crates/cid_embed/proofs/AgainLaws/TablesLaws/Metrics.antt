-- `hhea` and `hmtx` of a subset are answered as those of the first font, with the least number of pairs.
use Rattle.std.proofs.Common.{◌≡◌, ℕ, suc, ◌+◌, ◌-◌, ◌*◌, ◌^◌, ◌<◌, ◌≤◌, true, cond, List, [], ◌∷◌, ◌++◌, length, get_or, take, drop, Option, Some, None, Result, Ok, Err, refl, sym, ap, ◌∙◌, arith}
use Rattle.std.specs.Prelude.{codes, map, is_some}
use Rattle.std.specs.Option.{option_map, ok_or}
use Rattle.std.specs.Int.{w16, to_be_bytes}
use Rattle.std.proofs.lemmas.Bool.{ne_eqb}
use Rattle.std.proofs.lemmas.List.{length-map, get_or-map}
use Rattle.subsetter_base.specs.Bytes.{be, number, IsBytes, ◌>>=◌}
use Rattle.subsetter_base.specs.declared.error.Error.{Error}
use Rattle.subsetter_base.specs.declared.error.Error.TheVariants.{MalformedFont, OverflowError}
use Rattle.subsetter_base.proofs.ByteLemmas.{range-take_drop, number-fits}
use Rattle.subsetter_base.proofs.Options.{just}
use Rattle.subsetter_sfnt.specs.declared.fields.hmtx.LongHorMetric.{LongHorMetric}
use Rattle.subsetter_sfnt.specs.Fields.Hmtx.{metric_in, hmtx_bytes}
use Rattle.subsetter_sfnt.specs.Fields.Hhea.{number_of_h_metrics}
use Rattle.subsetter_sfnt.proofs.Laws.FieldsLaws.HheaLaws.{own_hhea}
use Rattle.subsetter_sfnt.proofs.Laws.FieldsLaws.HmtxLaws.{metric_small, metric_back, length-hmtx}
use Rattle.subsetter.specs.Common.Hmtx.Written.{MetricBytes, least_count, hhea_bytes, if_pairs, metrics_all, source_count, tables_of, metrics_in, metrics_of}
use Rattle.subsetter.proofs.CommonLaws.HmtxLaws.Back.{count_back, header_before, header_after}
use Rattle.subsetter.proofs.CommonLaws.HmtxLaws.Kept.{Steps, steps, no_metrics}
use Rattle.subsetter.proofs.CommonLaws.HmtxLaws.Written.{metrics-length, metrics_at, least_count-le, least_count_pos, advances_agree}
use Rattle.cid_embed.proofs.AgainLaws.OrderLaws.Places.{AreAt}

abbrev zeros : LongHorMetric
zeros = record { advance_width = 0; lsb = 0 }

-- metrics, one by one
all_metrics : (hmtx : List ℕ) (count : ℕ) (gs : List ℕ) (ms : List LongHorMetric) → length ms ≡ length gs → ((i : ℕ) → i < length gs → metric_in hmtx count (get_or gs i 0) ≡ Some (get_or ms i zeros)) → metrics_all hmtx count gs ≡ Ok ms
all_metrics hmtx count [] [] len h = refl
all_metrics hmtx count [] (m ∷ ms) len h = absurd (omega (arith, len))
all_metrics hmtx count (g ∷ gs) [] len h = absurd (omega (arith, len))
all_metrics hmtx count (g ∷ gs) (m ∷ ms) len h =
    ap (λ o. ok_or o MalformedFont >>= λ first. metrics_all hmtx count gs >>= λ rest. Ok (first ∷ rest)) (h 0 (omega arith))
    ∙ ap (λ r. r >>= λ rest. Ok (m ∷ rest)) (all_metrics hmtx count gs ms (omega (arith, len)) (λ i lt. h (suc i) (omega arith)))

number_there : (bytes : List ℕ) (at size : ℕ) → at + size ≤ length bytes → (n : ℕ) × (number bytes at size ≡ Some n)
number_there bytes at size le = (be (take size (drop at bytes)), ap (option_map be) (range-take_drop bytes at size le))

header_whole : (n : ℕ) (copy hhea : List ℕ) → take 34 copy ≡ take 34 hhea → drop 36 copy ≡ drop 36 hhea → hhea_bytes n copy ≡ hhea_bytes n hhea
unfolding hhea_bytes
header_whole n copy hhea a b =
    own_hhea n copy
    ∙ ap (λ (l : List ℕ). l ++ to_be_bytes w16 n ++ drop 36 copy) a
    ∙ ap (λ (l : List ℕ). take 34 hhea ++ to_be_bytes w16 n ++ l) b
    ∙ sym (own_hhea n hhea)

-- the number of pairs that hhea was given doesn't count
header_twice : (k n : ℕ) (hhea : List ℕ) → 36 ≤ length hhea → hhea_bytes k (hhea_bytes n hhea) ≡ hhea_bytes k hhea
header_twice k n hhea le = header_whole k (hhea_bytes n hhea) hhea (header_before n hhea le) (header_after n hhea le)

-- a count of pairs that are there
count_there : (hhea hmtx : List ℕ) (count advance : ℕ) → number_of_h_metrics hhea ≡ Some count → 1 ≤ count → number hmtx (4 * (count - 1)) 2 ≡ Some advance → source_count hhea hmtx ≡ Ok count
unfolding source_count
count_there hhea hmtx count advance is positive last =
    ap (λ o. ok_or o MalformedFont >>= λ found. if_pairs found >>= λ n. ok_or (number hmtx (4 * (n - 1)) 2) MalformedFont >>= λ a. Ok n) is
    ∙ ap (λ b. cond b (Err OverflowError) (Ok count) >>= λ n. ok_or (number hmtx (4 * (n - 1)) 2) MalformedFont >>= λ a. Ok n) (ne_eqb count 0 (λ e. omega (arith, e, positive)))
    ∙ ap (λ o. ok_or o MalformedFont >>= λ a. Ok count) last

module _ (find : List ℕ → Option (List ℕ)) (L M order : List ℕ) (t : MetricBytes) (s : Steps find L t) (fit : IsBytes s.hmtx) (some : 0 < length L) (few : length L < 2 ^ 16) (at : AreAt L M order) where
  abbrev n : ℕ
  n = least_count s.metrics

  abbrev hhea : List ℕ
  hhea = hhea_bytes n s.hhea

  abbrev hmtx : List ℕ
  hmtx = hmtx_bytes n s.metrics

  as_many : length s.metrics ≡ length L
  as_many = metrics-length s.hmtx s.count L s.metrics s.all

  positive : 1 ≤ n
  positive = least_count_pos s.metrics (omega (arith, as_many, some))

  at_most : n ≤ length s.metrics
  at_most = least_count-le s.metrics

  long : 36 ≤ length s.hhea
  long = number-fits s.hhea 34 2 s.count s.number_of_h_metrics.count_is

  -- the metric at a place of the table that was written
  metric_at_place : (i : ℕ) → i < length L → metric_in hmtx n i ≡ Some (get_or s.metrics i zeros)
  metric_at_place i lt =
      let within : i < length s.metrics = omega (arith, lt, as_many) in
      let fits = metric_small s.hmtx s.count (get_or L i 0) (get_or s.metrics i zeros) fit (metrics_at s.hmtx s.count L s.metrics i zeros s.all lt) in
      let agree : n ≤ i → (get_or s.metrics i zeros).advance_width ≡ (get_or s.metrics (n - 1) zeros).advance_width = λ le. advances_agree s.metrics (n - 1) i zeros (omega (arith, positive)) (omega (arith, positive, le)) within in
      metric_back s.metrics n i zeros positive at_most within fits agree

  -- the metrics of the glyphs, either way
  abbrev ms : List LongHorMetric
  ms = map (λ i. get_or s.metrics i zeros) M

  abbrev whole : List ℕ → List LongHorMetric → Result MetricBytes Error
  whole header found = let k = least_count found in Ok (record { hhea = hhea_bytes k header; hmtx = hmtx_bytes k found })

  nth_metric : (i : ℕ) → i < length M → get_or ms i zeros ≡ get_or s.metrics (get_or M i 0) zeros
  nth_metric i lt = get_or-map (λ k. get_or s.metrics k zeros) M i 0 zeros lt

  by_subset : metrics_all hmtx n M ≡ Ok ms
  by_subset = all_metrics hmtx n M ms (length-map M (λ i. get_or s.metrics i zeros)) (λ i lt. metric_at_place (get_or M i 0) (at.within i lt) ∙ ap just (sym (nth_metric i lt)))

  by_first : metrics_all s.hmtx s.count order ≡ Ok ms
  by_first =
      let len : length ms ≡ length order = omega (arith, length-map M (λ i. get_or s.metrics i zeros), at.size) in
      all_metrics s.hmtx s.count order ms len
      (λ i lt. let less : i < length M = omega (arith, lt, at.size) in ap (metric_in s.hmtx s.count) (at.nth i less) ∙ metrics_at s.hmtx s.count L s.metrics (get_or M i 0) zeros s.all (at.within i less) ∙ ap just (sym (nth_metric i less)))

  tables_again : tables_of (Some hhea) hmtx M ≡ tables_of (Some s.hhea) s.hmtx order
  unfolding tables_of
  tables_again =
      let last = number_there hmtx (4 * (n - 1)) 2 (omega (arith, length-hmtx s.metrics n at_most, positive, at_most)) in
      let count = count_there hhea hmtx n last.0 (count_back n s.hhea (omega (arith, at_most, as_many, few)) long) positive last.1 in
      let source = count_there s.hhea s.hmtx s.count s.number_of_h_metrics.advance_width s.number_of_h_metrics.count_is (omega (arith, s.number_of_h_metrics.positive)) s.number_of_h_metrics.last in
      let k = least_count ms in
      ap (λ r. r >>= λ c. metrics_all hmtx c M >>= whole hhea) count
      ∙ ap (λ r. r >>= whole hhea) by_subset
      ∙ ap (λ (h : List ℕ). Ok (record { hhea = h; hmtx = hmtx_bytes k ms })) (header_twice k n s.hhea long)
      ∙ sym (ap (λ r. r >>= λ c. metrics_all s.hmtx c order >>= whole s.hhea) source ∙ ap (λ r. r >>= whole s.hhea) by_first)

pub metrics_again : (find back : List ℕ → Option (List ℕ)) (L M order : List ℕ) (middle : Option MetricBytes) → ((hmtx : List ℕ) → find (codes "hmtx") ≡ Some hmtx → IsBytes hmtx) → (is_some middle ≡ true → 0 < length L) → length L < 2 ^ 16 → AreAt L M order → metrics_of find L ≡ Ok middle
    → back (codes "hhea") ≡ option_map (λ (x : MetricBytes). x.hhea) middle → back (codes "hmtx") ≡ option_map (λ (x : MetricBytes). x.hmtx) middle → metrics_of back M ≡ metrics_of find order
unfolding metrics_in
metrics_again find back L M order None fit some few at h a b = ap (λ (o : Option (List ℕ)). metrics_in (back (codes "hhea")) o M) b ∙ sym (ap (λ (o : Option (List ℕ)). metrics_in (find (codes "hhea")) o order) (no_metrics find L h))
metrics_again find back L M order (Some t) fit some few at h a b =
    let s = steps find L t h in
    let n = least_count s.metrics in
    let ha : back (codes "hhea") ≡ Some (hhea_bytes n s.hhea) = a ∙ ap (λ (x : MetricBytes). Some x.hhea) s.tables in
    let hb : back (codes "hmtx") ≡ Some (hmtx_bytes n s.metrics) = b ∙ ap (λ (x : MetricBytes). Some x.hmtx) s.tables in
    ap (λ (o : Option (List ℕ)). metrics_in o (back (codes "hmtx")) M) ha ∙ ap (λ (o : Option (List ℕ)). metrics_in (Some (hhea_bytes n s.hhea)) o M) hb
    ∙ ap (λ r. r >>= λ tables. Ok (Some tables)) (tables_again find L M order t s (fit s.hmtx s.hmtx_is) (some refl) few at)
    ∙ sym (ap (λ (o : Option (List ℕ)). metrics_in o (find (codes "hmtx")) order) s.hhea_is ∙ ap (λ (o : Option (List ℕ)). metrics_in (Some s.hhea) o order) s.hmtx_is)
