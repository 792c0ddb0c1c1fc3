-- `hmtx` that was written: how long it is, and its metrics read back.
--   metric_small                     the numbers of a metric that was read fit two bytes
--   metric_in_pairs, metric_back     a metric that was written
--   length-metrics, length-bearings, length-hmtx   lengths
--   all_pairs                        a table in which each glyph has a pair
use Rattle.std.proofs.Common.{◌≡◌, ℕ, zero, suc, ◌+◌, ◌-◌, ◌*◌, ◌^◌, ◌<◌, ◌≤◌, ltb, Bool, true, false, cond, List, [], ◌∷◌, ◌++◌, length, get_or, take, drop, Option, Some, None, refl, sym, ap, subst, ◌∙◌, inl, inr, append_assoc, arith}
use Rattle.std.specs.Prelude.{◌==◌}
use Rattle.std.specs.Option.{option_and_then}
use Rattle.std.specs.List.{flat_map}
use Rattle.std.specs.Int.{w16, to_be_bytes}
use Rattle.std.proofs.lemmas.Bool.{lt-ltb, le-ltb, ne_eqb, cases_lt}
use Rattle.std.proofs.lemmas.List.{length-append, length-take-le, length-drop, append-nil, take_all, drop_all, get_or-take, get_or-drop}
use Rattle.subsetter_base.specs.Bytes.{number, IsBytes}
use Rattle.subsetter_base.proofs.ByteLemmas.{be-u16, number_at, number-small}
use Rattle.subsetter_base.proofs.Options.{just_is}
use Rattle.subsetter_sfnt.specs.declared.fields.hmtx.LongHorMetric.{LongHorMetric}
use Rattle.subsetter_sfnt.specs.Fields.Hmtx.{metric_at, metric_in, metric_bytes, bearing_bytes, hmtx_bytes}

-- ---- what bytes spell is small

-- both numbers fit their two bytes
pub record IsSmall (m : LongHorMetric) : Type 0 where
  pub advance_width : m.advance_width < 2 ^ 16
  pub lsb : m.lsb < 2 ^ 16

abbrev pub metric_by : Option ℕ → Option ℕ → Option LongHorMetric
metric_by a b = option_and_then (λ advance. option_and_then (λ bearing. Some (record { advance_width = advance; lsb = bearing })) b) a

at_small : (hmtx : List ℕ) (p q : ℕ) (m : LongHorMetric) → IsBytes hmtx → metric_at hmtx p q ≡ Some m → IsSmall m
at_small hmtx p q m h e = by (number hmtx p 2) (number hmtx q 2) refl refl e
  where
    by : (a b : Option ℕ) → number hmtx p 2 ≡ a → number hmtx q 2 ≡ b → metric_by a b ≡ Some m → IsSmall m
    by None b x y k = absurd cc
    by (Some a) None x y k = absurd cc
    by (Some a) (Some b) x y k =
        let both : IsSmall (record { advance_width = a; lsb = b }) = record { advance_width = number-small hmtx p a h x; lsb = number-small hmtx q b h y } in
        subst IsSmall (just_is (record { advance_width = a; lsb = b }) m k) both

pub metric_small : (hmtx : List ℕ) (count g : ℕ) (m : LongHorMetric) → IsBytes hmtx → metric_in hmtx count g ≡ Some m → IsSmall m
unfolding metric_in
metric_small hmtx count g m h e = by (ltb g count) (count == 0) e
  where
    by : (p q : Bool) → cond p (metric_at hmtx (4 * g) (4 * g + 2)) (cond q None (metric_at hmtx (4 * (count - 1)) (4 * count + 2 * (g - count)))) ≡ Some m → IsSmall m
    by true q k = at_small hmtx (4 * g) (4 * g + 2) m h k
    by false true k = absurd cc
    by false false k = at_small hmtx (4 * (count - 1)) (4 * count + 2 * (g - count)) m h k

-- ---- numbers of `hmtx`

pub length-metrics : (ms : List LongHorMetric) → length (flat_map metric_bytes ms) ≡ 4 * length ms
length-metrics [] = refl
length-metrics (m ∷ ms) = omega (arith, length-append (metric_bytes m) (flat_map metric_bytes ms), length-metrics ms)

pub length-bearings : (ms : List LongHorMetric) → length (flat_map bearing_bytes ms) ≡ 2 * length ms
length-bearings [] = refl
length-bearings (m ∷ ms) = omega (arith, length-append (bearing_bytes m) (flat_map bearing_bytes ms), length-bearings ms)

-- the advance of a pair
pair_advance : (ms : List LongHorMetric) (i : ℕ) (pre post bytes : List ℕ) (p : ℕ) (d : LongHorMetric) → i < length ms → (get_or ms i d).advance_width < 2 ^ 16 → bytes ≡ pre ++ (flat_map metric_bytes ms ++ post) → p ≡ length pre + 4 * i → number bytes p 2 ≡ Some (get_or ms i d).advance_width
pair_advance [] i pre post bytes p d lt small is at_p = absurd (omega arith)
pair_advance (m ∷ ms) zero pre post bytes p d lt small is at_p =
    let a = to_be_bytes w16 m.advance_width in
    let b = to_be_bytes w16 m.lsb in
    let rest = flat_map metric_bytes ms in
    number_at bytes pre a (b ++ (rest ++ post)) p 2 m.advance_width is (omega arith) refl (be-u16 m.advance_width small)
pair_advance (m ∷ ms) (suc i) pre post bytes p d lt small is at_p =
    let regrouped : bytes ≡ (pre ++ metric_bytes m) ++ (flat_map metric_bytes ms ++ post) = is ∙ sym (append_assoc pre (metric_bytes m) (flat_map metric_bytes ms ++ post)) in
    pair_advance ms i (pre ++ metric_bytes m) post bytes p d (omega arith) small regrouped (omega (arith, length-append pre (metric_bytes m)))

-- the bearing of a pair
pair_bearing : (ms : List LongHorMetric) (i : ℕ) (pre post bytes : List ℕ) (p : ℕ) (d : LongHorMetric) → i < length ms → (get_or ms i d).lsb < 2 ^ 16 → bytes ≡ pre ++ (flat_map metric_bytes ms ++ post) → p ≡ length pre + 4 * i + 2 → number bytes p 2 ≡ Some (get_or ms i d).lsb
pair_bearing [] i pre post bytes p d lt small is at_p = absurd (omega arith)
pair_bearing (m ∷ ms) zero pre post bytes p d lt small is at_p =
    let a = to_be_bytes w16 m.advance_width in
    let b = to_be_bytes w16 m.lsb in
    let rest = flat_map metric_bytes ms in
    let regrouped : bytes ≡ (pre ++ a) ++ (b ++ (rest ++ post)) = is ∙ sym (append_assoc pre a (b ++ (rest ++ post))) in
    number_at bytes (pre ++ a) b (rest ++ post) p 2 m.lsb regrouped (omega (arith, length-append pre a)) refl (be-u16 m.lsb small)
pair_bearing (m ∷ ms) (suc i) pre post bytes p d lt small is at_p =
    let regrouped : bytes ≡ (pre ++ metric_bytes m) ++ (flat_map metric_bytes ms ++ post) = is ∙ sym (append_assoc pre (metric_bytes m) (flat_map metric_bytes ms ++ post)) in
    pair_bearing ms i (pre ++ metric_bytes m) post bytes p d (omega arith) small regrouped (omega (arith, length-append pre (metric_bytes m)))

-- a bearing alone
lone_bearing : (ms : List LongHorMetric) (i : ℕ) (pre bytes : List ℕ) (p : ℕ) (d : LongHorMetric) → i < length ms → (get_or ms i d).lsb < 2 ^ 16 → bytes ≡ pre ++ flat_map bearing_bytes ms → p ≡ length pre + 2 * i → number bytes p 2 ≡ Some (get_or ms i d).lsb
lone_bearing [] i pre bytes p d lt small is at_p = absurd (omega arith)
lone_bearing (m ∷ ms) zero pre bytes p d lt small is at_p =
    number_at bytes pre (to_be_bytes w16 m.lsb) (flat_map bearing_bytes ms) p 2 m.lsb is (omega arith) refl (be-u16 m.lsb small)
lone_bearing (m ∷ ms) (suc i) pre bytes p d lt small is at_p =
    let regrouped : bytes ≡ (pre ++ bearing_bytes m) ++ flat_map bearing_bytes ms = is ∙ sym (append_assoc pre (bearing_bytes m) (flat_map bearing_bytes ms)) in
    lone_bearing ms i (pre ++ bearing_bytes m) bytes p d (omega arith) small regrouped (omega (arith, length-append pre (bearing_bytes m)))

-- ---- the metric of a glyph

two_numbers : (hmtx : List ℕ) (p q a b : ℕ) → number hmtx p 2 ≡ Some a → number hmtx q 2 ≡ Some b → metric_at hmtx p q ≡ Some (record { advance_width = a; lsb = b })
two_numbers hmtx p q a b x y = ap (λ o. metric_by o (number hmtx q 2)) x ∙ ap (λ o. metric_by (Some a) o) y

pub metric_in_pairs : (ms : List LongHorMetric) (n i : ℕ) (d : LongHorMetric) → n ≤ length ms → i < n → IsSmall (get_or ms i d) → metric_at (hmtx_bytes n ms) (4 * i) (4 * i + 2) ≡ Some (get_or ms i d)
unfolding hmtx_bytes
metric_in_pairs ms n i d few lt small =
    let bytes = flat_map metric_bytes (take n ms) ++ flat_map bearing_bytes (drop n ms) in
    let post = flat_map bearing_bytes (drop n ms) in
    let m = get_or ms i d in
    let same : get_or (take n ms) i d ≡ m = get_or-take n ms i d lt in
    let within : i < length (take n ms) = omega (arith, length-take-le n ms few) in
    let a = pair_advance (take n ms) i [] post bytes (4 * i) d within (subst (λ (x : LongHorMetric). x.advance_width < 2 ^ 16) (sym same) small.advance_width) refl (omega arith) ∙ ap (λ (x : LongHorMetric). Some x.advance_width) same in
    let b = pair_bearing (take n ms) i [] post bytes (4 * i + 2) d within (subst (λ (x : LongHorMetric). x.lsb < 2 ^ 16) (sym same) small.lsb) refl (omega arith) ∙ ap (λ (x : LongHorMetric). Some x.lsb) same in
    two_numbers bytes (4 * i) (4 * i + 2) m.advance_width m.lsb a b

past_pairs : (ms : List LongHorMetric) (n i : ℕ) (d : LongHorMetric) → 1 ≤ n → n ≤ length ms → n ≤ i → i < length ms → IsSmall (get_or ms i d) → (get_or ms i d).advance_width ≡ (get_or ms (n - 1) d).advance_width
    → metric_at (hmtx_bytes n ms) (4 * (n - 1)) (4 * n + 2 * (i - n)) ≡ Some (get_or ms i d)
unfolding hmtx_bytes
past_pairs ms n i d pos few le lt small agree =
    let pairs = flat_map metric_bytes (take n ms) in
    let post = flat_map bearing_bytes (drop n ms) in
    let m = get_or ms i d in
    let last : get_or (take n ms) (n - 1) d ≡ get_or ms (n - 1) d = get_or-take n ms (n - 1) d (omega arith) in
    let value : (get_or (take n ms) (n - 1) d).advance_width ≡ m.advance_width = ap (λ (x : LongHorMetric). x.advance_width) last ∙ sym agree in
    let within : n - 1 < length (take n ms) = omega (arith, length-take-le n ms few) in
    let a = pair_advance (take n ms) (n - 1) [] post (pairs ++ post) (4 * (n - 1)) d within (subst (λ (x : ℕ). x < 2 ^ 16) (sym value) small.advance_width) refl (omega arith) ∙ ap Some value in
    let same : get_or (drop n ms) (i - n) d ≡ m = get_or-drop n ms (i - n) d ∙ ap (λ k. get_or ms k d) (omega arith) in
    let after : i - n < length (drop n ms) = omega (arith, length-drop n ms) in
    let place : 4 * n + 2 * (i - n) ≡ length pairs + 2 * (i - n) = omega (arith, length-metrics (take n ms), length-take-le n ms few) in
    let b = lone_bearing (drop n ms) (i - n) pairs (pairs ++ post) (4 * n + 2 * (i - n)) d after (subst (λ (x : LongHorMetric). x.lsb < 2 ^ 16) (sym same) small.lsb) refl place ∙ ap (λ (x : LongHorMetric). Some x.lsb) same in
    two_numbers (pairs ++ post) (4 * (n - 1)) (4 * n + 2 * (i - n)) m.advance_width m.lsb a b

-- the metric of a glyph of a table that was written
pub metric_back : (ms : List LongHorMetric) (n i : ℕ) (d : LongHorMetric) → 1 ≤ n → n ≤ length ms → i < length ms → IsSmall (get_or ms i d) → (n ≤ i → (get_or ms i d).advance_width ≡ (get_or ms (n - 1) d).advance_width) → metric_in (hmtx_bytes n ms) n i ≡ Some (get_or ms i d)
unfolding metric_in
metric_back ms n i d pos few lt small agree = elim (cases_lt i n) [
  | inl less ↦ ap (λ b. cond b (metric_at (hmtx_bytes n ms) (4 * i) (4 * i + 2)) (rest (n == 0))) (lt-ltb i n less) ∙ metric_in_pairs ms n i d few less small
  | inr le ↦ ap (λ b. cond b (metric_at (hmtx_bytes n ms) (4 * i) (4 * i + 2)) (rest (n == 0))) (le-ltb i n le) ∙ ap rest (ne_eqb n 0 (λ e. omega arith)) ∙ past_pairs ms n i d pos few le lt small (agree le)
]
  where
    rest : Bool → Option LongHorMetric
    rest b = cond b None (metric_at (hmtx_bytes n ms) (4 * (n - 1)) (4 * n + 2 * (i - n)))

pub length-hmtx : (ms : List LongHorMetric) (n : ℕ) → n ≤ length ms → length (hmtx_bytes n ms) ≡ 4 * n + 2 * (length ms - n)
unfolding hmtx_bytes
length-hmtx ms n few =
    omega (arith, length-append (flat_map metric_bytes (take n ms)) (flat_map bearing_bytes (drop n ms)), length-metrics (take n ms), length-bearings (drop n ms), length-take-le n ms few, length-drop n ms)

-- a table in which each glyph has a pair
pub all_pairs : (ms : List LongHorMetric) (n : ℕ) → length ms ≤ n → flat_map metric_bytes ms ≡ hmtx_bytes n ms
unfolding hmtx_bytes
all_pairs ms n few =
    let pairs = flat_map metric_bytes (take n ms) in
    ap (λ (l : List LongHorMetric). flat_map metric_bytes l) (sym (take_all n ms few)) ∙ sym (append-nil pairs) ∙ ap (λ (l : List LongHorMetric). pairs ++ flat_map bearing_bytes l) (sym (drop_all n ms few))
