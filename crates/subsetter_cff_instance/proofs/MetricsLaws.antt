-- Metrics of glyphs, one after another.
use Rattle.std.proofs.Common.{◌≡◌, ◌<◌, ℕ, ◌+◌, List, [], ◌∷◌, ◌++◌, length, get_or, map, Option, Some, None, Result, Ok, Err, ℤ, refl, sym, ap, ◌∙◌, append_assoc, arith}
use Rattle.std.specs.Prelude.{IfSome}
use Rattle.std.specs.List.{fold, range_with_len}
use Rattle.std.proofs.lemmas.List.{append-nil, get_or-map, length-map}
use Rattle.std.proofs.lemmas.List.FromFn.{map-range_with_len_more}
use Rattle.std.proofs.lemmas.List.Sums.{fold-append}
use Rattle.subsetter_base.specs.Bytes.{◌>>=◌}
use Rattle.subsetter_base.specs.Gives.{Fails}
use Rattle.subsetter_base.specs.declared.error.Error.{Error}
use Rattle.subsetter_base.proofs.Results.{with_front}
use Rattle.subsetter_sfnt.specs.declared.fields.hmtx.LongHorMetric.{LongHorMetric}
use Rattle.subsetter_variation.specs.Items.Advances.{advance_or_fault}
use Rattle.subsetter_instance.specs.Glyphs.Known.{AreKnown, IsKnown}
use Rattle.subsetter_instance.proofs.GlyphsLaws.Points.{fails}
use Rattle.subsetter_cff_instance.specs.Metrics.{metric_if, varied_metrics}
use Rattle.subsetter_cff_instance.specs.Source.{Source}

-- ---- of the glyphs that are asked for

abbrev onto : LongHorMetric → Result (List LongHorMetric) Error → Result (List LongHorMetric) Error
onto m r = r >>= λ rest. Ok (m ∷ rest)

push_front : (front : List LongHorMetric) (m : LongHorMetric) (r : Result (List LongHorMetric) Error) → with_front front (onto m r) ≡ with_front (front ++ m ∷ []) r
push_front front m (Ok rest) = ap (λ l. Ok l) (sym (append_assoc front (m ∷ []) rest))
push_front front m (Err e) = refl

-- the others follow the first one
abbrev after_first : List LongHorMetric → Result (List LongHorMetric) Error → Result LongHorMetric Error → Result (List LongHorMetric) Error
after_first front others first = with_front front (first >>= λ m. onto m others)

pub metrics_start : (r : Result (List LongHorMetric) Error) → with_front [] r ≡ r
metrics_start (Ok rest) = refl
metrics_start (Err e) = refl

pub metrics_step : (s : Source) (at : List ℤ) (front : List LongHorMetric) (g : ℕ) (all rest : List ℕ) (m : LongHorMetric) → all ≡ g ∷ rest → metric_if s at g ≡ Ok m → with_front front (varied_metrics s at all) ≡ with_front (front ++ m ∷ []) (varied_metrics s at rest)
metrics_step s at front g all rest m e h = ap (λ l. with_front front (varied_metrics s at l)) e ∙ ap (after_first front (varied_metrics s at rest)) h ∙ push_front front m (varied_metrics s at rest)

-- where the first one fails, all do
pub metrics_cut : (s : Source) (at : List ℤ) (front : List LongHorMetric) (g : ℕ) (all rest : List ℕ) (whole : Result (List LongHorMetric) Error) (e : Error) → all ≡ g ∷ rest → with_front front (varied_metrics s at all) ≡ whole → metric_if s at g ≡ Err e → Fails e whole
metrics_cut s at front g all rest whole e h same f = fails e whole (sym same ∙ ap (λ l. with_front front (varied_metrics s at l)) h ∙ ap (after_first front (varied_metrics s at rest)) f)

pub metrics_end : (s : Source) (at : List ℤ) (front : List LongHorMetric) (all : List ℕ) → all ≡ [] → with_front front (varied_metrics s at all) ≡ Ok front
metrics_end s at front all e = ap (λ l. with_front front (varied_metrics s at l)) e ∙ ap (λ l. Ok l) (append-nil front)

-- what is known of a glyph of the list
pub known_is : (hvar : Option (List ℕ)) (at : List ℤ) (glyphs : List ℕ) (known : List (Result ℤ Error)) (k : ℕ) (o : Option (Result ℤ Error)) → AreKnown hvar at glyphs known → IfSome o (λ d. (k < length known) × (get_or known k d ≡ d)) → IsKnown hvar at (get_or glyphs k 0) o
known_is None at glyphs known k o a h = tt
known_is (Some hvar) at glyphs known k None a h = tt
known_is (Some hvar) at glyphs known k (Some d) a h =
    let n : length known ≡ length glyphs = ap length a ∙ length-map glyphs (advance_or_fault hvar at) in
    sym h.1 ∙ ap (λ l. get_or l k d) a ∙ get_or-map (advance_or_fault hvar at) glyphs k 0 d (omega (arith, n, h.0))

-- ---- of all glyphs

-- one more of a list that is found by a function of places
pub mapped_more : {A : Type 0} (h : ℕ → A) (all more : List A) (k : ℕ) (one : A) → all ≡ map h (range_with_len 0 k) → one ≡ h k → more ≡ all ++ one ∷ [] → more ≡ map h (range_with_len 0 (k + 1))
mapped_more {A} h all more k one e is pushed =
    pushed ∙ ap (λ (l : List A). l ++ one ∷ []) e ∙ ap (λ (y : A). map h (range_with_len 0 k) ++ y ∷ []) is ∙ sym (map-range_with_len_more h 0 k k (omega arith))

-- what is folded so far, with one more
pub folded_more : {A B : Type 0} (f : B → A → B) (first : B) (h : ℕ → A) (k : ℕ) → fold f first (map h (range_with_len 0 (k + 1))) ≡ f (fold f first (map h (range_with_len 0 k))) (h k)
folded_more f first h k = ap (fold f first) (map-range_with_len_more h 0 k k (omega arith)) ∙ fold-append f first (map h (range_with_len 0 k)) (h k ∷ [])
