-- Metrics of a list of glyphs: read in turn, and the least number of pairs.
use Rattle.std.proofs.Common.{◌≡◌, ℕ, zero, suc, ◌+◌, ◌<◌, ◌≤◌, Bool, true, false, cond, List, [], ◌∷◌, length, get_or, drop, Some, None, Result, Ok, Err, refl, sym, ap, ◌∙◌, inl, inr, ◌⊎◌, arith}
use Rattle.std.specs.Prelude.{Contains, slice_range, ◌==◌}
use Rattle.std.specs.Option.{ok_or}
use Rattle.std.proofs.lemmas.List.{length-take, length-drop}
use Rattle.subsetter_base.specs.Bytes.{◌>>=◌}
use Rattle.subsetter_base.specs.declared.error.Error.{Error}
use Rattle.subsetter_base.specs.declared.error.Error.TheVariants.{MalformedFont}
use Rattle.subsetter_base.proofs.Results.{done_is, bind_ok, bind_err, named_ok, named_err}
use Rattle.subsetter_base.proofs.Lists.{and_parts}
use Rattle.subsetter_sfnt.specs.declared.fields.hmtx.LongHorMetric.{LongHorMetric}
use Rattle.subsetter_sfnt.specs.Fields.Hmtx.{metric_in}
use Rattle.subsetter_sfnt.proofs.Laws.FieldsLaws.HheaLaws.{length-hhea as length-with}
use Rattle.subsetter.specs.Common.Hmtx.Written.{hhea_bytes, all_advance, least_count, metrics_all}

-- how long `hhea` is
pub length-hhea : (count : ℕ) (hhea : List ℕ) → 36 ≤ length hhea → length (hhea_bytes count hhea) ≡ length hhea
unfolding hhea_bytes
length-hhea count hhea h = length-with count (slice_range hhea 10 18) hhea h (omega (arith, length-take 8 (drop 10 hhea), length-drop 10 hhea))

-- ---- steps that answer, and the one that failed

-- ---- each glyph's metric

abbrev more : LongHorMetric → List LongHorMetric → Result (List LongHorMetric) Error
more m ms = Ok (m ∷ ms)

pub metrics-length : (hmtx : List ℕ) (count : ℕ) (gs : List ℕ) (ms : List LongHorMetric) → metrics_all hmtx count gs ≡ Ok ms → length ms ≡ length gs
metrics-length hmtx count [] ms h = ap length (sym (done_is [] ms h))
metrics-length hmtx count (g ∷ gs) ms h =
    let a = bind_ok (ok_or (metric_in hmtx count g) MalformedFont) (λ m. metrics_all hmtx count gs >>= λ xs. Ok (m ∷ xs)) ms h in
    let b = bind_ok (metrics_all hmtx count gs) (more a.0) ms a.2 in
    ap length (sym (done_is (a.0 ∷ b.0) ms b.2)) ∙ ap suc (metrics-length hmtx count gs b.0 b.1)

pub metrics_at : (hmtx : List ℕ) (count : ℕ) (gs : List ℕ) (ms : List LongHorMetric) (i : ℕ) (d : LongHorMetric) → metrics_all hmtx count gs ≡ Ok ms → i < length gs → metric_in hmtx count (get_or gs i 0) ≡ Some (get_or ms i d)
metrics_at hmtx count [] ms i d h lt = absurd (omega arith)
metrics_at hmtx count (g ∷ gs) ms zero d h lt =
    let a = bind_ok (ok_or (metric_in hmtx count g) MalformedFont) (λ m. metrics_all hmtx count gs >>= λ xs. Ok (m ∷ xs)) ms h in
    let b = bind_ok (metrics_all hmtx count gs) (more a.0) ms a.2 in
    named_ok (metric_in hmtx count g) MalformedFont a.0 a.1 ∙ ap (λ (l : List LongHorMetric). Some (get_or l 0 d)) (done_is (a.0 ∷ b.0) ms b.2)
metrics_at hmtx count (g ∷ gs) ms (suc i) d h lt =
    let a = bind_ok (ok_or (metric_in hmtx count g) MalformedFont) (λ m. metrics_all hmtx count gs >>= λ xs. Ok (m ∷ xs)) ms h in
    let b = bind_ok (metrics_all hmtx count gs) (more a.0) ms a.2 in
    metrics_at hmtx count gs b.0 i d b.1 (omega arith) ∙ ap (λ (l : List LongHorMetric). Some (get_or l (suc i) d)) (done_is (a.0 ∷ b.0) ms b.2)

-- the glyph whose metric isn't there
pub metrics_missing : (hmtx : List ℕ) (count : ℕ) (gs : List ℕ) (e : Error) → metrics_all hmtx count gs ≡ Err e → (MalformedFont ≡ e) × ((g : ℕ) × Contains gs g × (metric_in hmtx count g ≡ None))
metrics_missing hmtx count [] e h = absurd cc
metrics_missing hmtx count (g ∷ gs) e h =
    elim (bind_err (ok_or (metric_in hmtx count g) MalformedFont) (λ m. metrics_all hmtx count gs >>= λ xs. Ok (m ∷ xs)) e h) [
      | inl k ↦ let n = named_err (metric_in hmtx count g) MalformedFont e k in (n.1, (g, (0, omega arith, refl), n.0))
      | inr k ↦ later (λ x. metrics_missing hmtx count gs e x) k.0 (bind_err (metrics_all hmtx count gs) (more k.0) e k.2)
    ]
  where
    later : (metrics_all hmtx count gs ≡ Err e → (MalformedFont ≡ e) × ((q : ℕ) × Contains gs q × (metric_in hmtx count q ≡ None))) → (m : LongHorMetric) → (metrics_all hmtx count gs ≡ Err e) ⊎ ((x : List LongHorMetric) × (metrics_all hmtx count gs ≡ Ok x) × (more m x ≡ Err e))
        → (MalformedFont ≡ e) × ((q : ℕ) × Contains (g ∷ gs) q × (metric_in hmtx count q ≡ None))
    later rest m (inl k) = let n = rest k in (n.0, (n.1.0, (suc n.1.1.0, omega (arith, n.1.1.1), n.1.1.2), n.1.2))
    later rest m (inr k) = absurd cc

-- ---- the least number of pairs

-- each has the advance
pub all_advance_at : (a : ℕ) (ms : List LongHorMetric) (i : ℕ) (d : LongHorMetric) → all_advance a ms ≡ true → i < length ms → (get_or ms i d).advance_width ≡ a
all_advance_at a [] i d h lt = absurd (omega arith)
all_advance_at a (m ∷ ms) zero d h lt = let t = (and_parts (m.advance_width == a) (all_advance a ms) h).0 in grind arith
all_advance_at a (m ∷ ms) (suc i) d h lt = all_advance_at a ms i d (and_parts (m.advance_width == a) (all_advance a ms) h).1 (omega arith)

pub all_advance_from : (a : ℕ) (ms : List LongHorMetric) (d : LongHorMetric) → ((i : ℕ) → i < length ms → (get_or ms i d).advance_width ≡ a) → all_advance a ms ≡ true
all_advance_from a [] d h = refl
all_advance_from a (m ∷ ms) d h =
    let first : m.advance_width ≡ a = h 0 (omega arith) in
    let rest : all_advance a ms ≡ true = all_advance_from a ms d (λ i lt. h (suc i) (omega arith)) in
    grind arith

pub least_count-le : (ms : List LongHorMetric) → least_count ms ≤ length ms
least_count-le [] = omega arith
least_count-le (m ∷ ms) = by (all_advance m.advance_width ms) (least_count-le ms)
  where
    by : (b : Bool) → least_count ms ≤ length ms → cond b 1 (1 + least_count ms) ≤ length (m ∷ ms)
    by true h = omega arith
    by false h = omega arith

pub least_count_pos : (ms : List LongHorMetric) → 0 < length ms → 1 ≤ least_count ms
least_count_pos [] lt = absurd (omega arith)
least_count_pos (m ∷ ms) lt = by (all_advance m.advance_width ms)
  where
    by : (b : Bool) → 1 ≤ cond b 1 (1 + least_count ms)
    by true = omega arith
    by false = omega arith

-- from there on all share the last pair's advance
pub advances_agree : (ms : List LongHorMetric) (k i : ℕ) (d : LongHorMetric) → least_count ms ≡ suc k → suc k ≤ i → i < length ms → (get_or ms i d).advance_width ≡ (get_or ms k d).advance_width
advances_agree [] k i d h le lt = absurd (omega arith)
advances_agree (m ∷ ms) k zero d h le lt = absurd (omega arith)
advances_agree (m ∷ ms) k (suc i) d h le lt = by (λ k h le. advances_agree ms k i d h le (omega arith)) (all_advance m.advance_width ms) k refl h le
  where
    by : ((k : ℕ) → least_count ms ≡ suc k → suc k ≤ i → (get_or ms i d).advance_width ≡ (get_or ms k d).advance_width) → (b : Bool) (k : ℕ) → all_advance m.advance_width ms ≡ b → cond b 1 (1 + least_count ms) ≡ suc k → suc k ≤ suc i → (get_or ms i d).advance_width ≡ (get_or (m ∷ ms) k d).advance_width
    by rest true zero t e le = all_advance_at m.advance_width ms i d t (omega arith)
    by rest true (suc k) t e le = absurd (omega arith)
    by rest false zero t e le = absurd (omega (arith, least_count_pos ms (omega arith)))
    by rest false (suc k) t e le = rest k (omega arith) (omega arith)

-- a lesser number would not do
pub least_count_least : (ms : List LongHorMetric) (k : ℕ) (d : LongHorMetric) → ((i : ℕ) → suc k ≤ i → i < length ms → (get_or ms i d).advance_width ≡ (get_or ms k d).advance_width) → least_count ms ≤ suc k
least_count_least [] k d h = omega arith
least_count_least (m ∷ ms) zero d h =
    let t : all_advance m.advance_width ms ≡ true = all_advance_from m.advance_width ms d (λ i lt. h (suc i) (omega arith) (omega arith)) in
    let n : least_count (m ∷ ms) ≡ 1 = ap (λ b. cond b 1 (1 + least_count ms)) t in
    omega arith
least_count_least (m ∷ ms) (suc k) d h = by (all_advance m.advance_width ms) (least_count_least ms k d (λ i le lt. h (suc i) (omega arith) (omega arith)))
  where
    by : (b : Bool) → least_count ms ≤ suc k → cond b 1 (1 + least_count ms) ≤ suc (suc k)
    by true h = omega arith
    by false h = omega arith
