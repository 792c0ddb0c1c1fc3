-- Metrics of `hmtx` that was written are read back.
--   kept_metric                  that of a glyph that was there
--   added_metric                 that of one that was added
use Rattle.std.proofs.Common.{◌≡◌, ℕ, zero, suc, ◌+◌, ◌<◌, List, [], ◌∷◌, length, get_or, map, Some, sym, ap, subst, ◌∙◌, zero-add, arith}
use Rattle.std.specs.List.{AllByRecursion}
use Rattle.std.proofs.lemmas.List.{length-append, length-map, get_or-map, get_or_append_left, get_or-append-add}
use Rattle.subsetter_base.specs.Bytes.{IsBytes}
use Rattle.subsetter_sfnt.specs.Fields.Hmtx.{hmtx_bytes, metric_in}
use Rattle.subsetter_sfnt.specs.declared.fields.hmtx.LongHorMetric.{LongHorMetric}
use Rattle.subsetter_sfnt.proofs.Laws.FieldsLaws.HmtxLaws.{IsSmall, metric_back, metric_small}
use Rattle.own_glyphs.specs.Source.{AreMetrics, Source}
use Rattle.own_glyphs.specs.Written.{Further, metrics_with}
use Rattle.own_glyphs.proofs.Outlines.{IsFurther, nothing}
use Rattle.own_glyphs.proofs.Values.{from_at}

further_at : (more : List Further) (i : ℕ) → AllByRecursion IsFurther more → i < length more → IsFurther (get_or more i nothing)
further_at [] i all lt = absurd (omega arith)
further_at (f ∷ more) zero all lt = all.0
further_at (f ∷ more) (suc i) all lt = further_at more i all.1 (omega arith)

module _ (s : Source) (metrics : List LongHorMetric) (are : AreMetrics s metrics) (bytes : IsBytes s.hmtx) (more : List Further) (all : AllByRecursion IsFurther more) (n : ℕ) (n_is : n ≡ s.count + length more) where
  abbrev new : List LongHorMetric
  new = metrics_with metrics more

  abbrev added : List LongHorMetric
  added = map (λ (f : Further). f.metric) more

  abbrev none : LongHorMetric
  none = nothing.metric

  length-new : length new ≡ n
  length-new = omega (arith, length-append metrics added, length-map more (λ (f : Further). f.metric), are.count, n_is)

  by_metric : (g : ℕ) → g < n → IsSmall (get_or new g none) → metric_in (hmtx_bytes n new) n g ≡ Some (get_or new g none)
  by_metric g lt small = metric_back new n g none (omega arith) (omega (arith, length-new)) (omega (arith, length-new)) small (λ le. absurd (omega arith))

  pub kept_metric : (g : ℕ) → g < s.count → metric_in (hmtx_bytes n new) n g ≡ metric_in s.hmtx s.pairs g
  kept_metric g lt =
      let m = get_or metrics g none in
      let same : get_or new g none ≡ m = get_or_append_left metrics added none g (omega (arith, are.count)) in
      let was : metric_in s.hmtx s.pairs g ≡ Some m = ap (metric_in s.hmtx s.pairs) (sym (zero-add g)) ∙ from_at (metric_in s.hmtx s.pairs) 0 g metrics none are.each (omega (arith, are.count)) in
      by_metric g (omega (arith, n_is)) (subst IsSmall (sym same) (metric_small s.hmtx s.pairs g m bytes was)) ∙ ap Some same ∙ sym was

  pub added_metric : (i : ℕ) → i < length more → metric_in (hmtx_bytes n new) n (s.count + i) ≡ Some (get_or more i nothing).metric
  added_metric i lt =
      let place : s.count + i ≡ length metrics + i = omega (arith, are.count) in
      let same : get_or new (s.count + i) none ≡ (get_or more i nothing).metric = ap (λ k. get_or new k none) place ∙ get_or-append-add metrics added i none ∙ get_or-map (λ (f : Further). f.metric) more i nothing none lt in
      by_metric (s.count + i) (omega (arith, n_is)) (subst IsSmall (sym same) (further_at more i all lt).small) ∙ ap Some same
