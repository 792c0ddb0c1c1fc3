-- The description and the metric of a glyph are missing exactly where they have a fault.
--   description_refused, description_missing
--   hmtx_refused, hmtx_missing
use Rattle.std.proofs.Common.{◌≡◌, ℕ, ◌+◌, ◌-◌, ◌*◌, ◌<◌, ◌≤◌, Bool, true, false, cond, List, length, Option, Some, None, refl, sym, ◌∙◌, inl, inr, arith}
use Rattle.std.specs.Prelude.{◌==◌, nat_le, nat_lt, if◌then◌else◌}
use Rattle.std.specs.Option.{option_map}
use Rattle.std.proofs.lemmas.Bool.{eqb-false, eqb-true, leb-false, leb-true, ltb-false, ltb-true}
use Rattle.subsetter_base.specs.Bytes.{number, range, between_offsets}
use Rattle.subsetter_base.proofs.ByteLemmas.{number-fits, number-short, range-fits, range-short}
use Rattle.subsetter_base.proofs.Options.{bind_some, just_is, map_none, map_some}
use Rattle.subsetter_sfnt.specs.declared.fields.hmtx.LongHorMetric.{LongHorMetric}
use Rattle.subsetter_instance.specs.Source.{Source, description, metric, offset}
use Rattle.subsetter_sfnt.specs.Fields.Hmtx.{metric_at, metric_in}
use Rattle.subsetter_instance.specs.Glyphs.Unfolded.{counted_description}
use Rattle.subsetter_base.specs.Options.{◌>>=◌}
use Rattle.subsetter_instance.specs.Faults.GlyphFault.{HasDescriptionFault, HasHmtxFault, past_count, cut_loca, descending, past_glyf, no_pairs, cut_pair, cut_bearing}
use Rattle.subsetter_instance.proofs.FaultLaws.Parts.{bind_none, if_none, if_some}

module _ (s : Source) (g : ℕ) where
  -- ---- descriptions

  -- what has no answer where a fault contradicts each
  missing : {A : Type 0} (o : Option A) → ((x : A) → o ≡ Some x → ⊥) → o ≡ None
  missing None h = refl
  missing (Some x) h = absurd (h x refl)

  offset_none : (h : ℕ) → offset s h ≡ None → length s.loca < (h + 1) * (if s.long then 4 else 2)
  offset_none h none = by s.long none
    where
      by : (b : Bool) → cond b (number s.loca (4 * h) 4) (option_map (λ half. 2 * half) (number s.loca (2 * h) 2)) ≡ None → length s.loca < (h + 1) * (if b then 4 else 2)
      by true k = let less = number-short s.loca (4 * h) 4 k in omega arith
      by false k = let less = number-short s.loca (2 * h) 2 (map_none (λ half. 2 * half) (number s.loca (2 * h) 2) k) in omega arith

  offset_some : (h n : ℕ) → offset s h ≡ Some n → (h + 1) * (if s.long then 4 else 2) ≤ length s.loca
  offset_some h n is = by s.long is
    where
      by : (b : Bool) → cond b (number s.loca (4 * h) 4) (option_map (λ half. 2 * half) (number s.loca (2 * h) 2)) ≡ Some n → (h + 1) * (if b then 4 else 2) ≤ length s.loca
      by true k = let fits = number-fits s.loca (4 * h) 4 n k in omega arith
      by false k = let m = map_some (λ half. 2 * half) (number s.loca (2 * h) 2) n k in let fits = number-fits s.loca (2 * h) 2 m.0 m.1 in omega arith

  more_bytes : (b : Bool) (h : ℕ) → (h + 1) * (if b then 4 else 2) ≤ (h + 2) * (if b then 4 else 2)
  more_bytes true h = omega arith
  more_bytes false h = omega arith

  next_bytes : (b : Bool) (h : ℕ) → (h + 1 + 1) * (if b then 4 else 2) ≡ (h + 2) * (if b then 4 else 2)
  next_bytes true h = omega arith
  next_bytes false h = omega arith

  abbrev to_end : ℕ → ℕ → Option (List ℕ)
  to_end from to = between_offsets s.glyf from to

  abbrev from_start : ℕ → Option (List ℕ)
  from_start from = offset s (g + 1) >>= to_end from

  description_in_turn : description s g ≡ (offset s g >>= from_start)
  unfolding description
  description_in_turn = refl

  not_described : description s g ≡ None → HasDescriptionFault s g
  not_described h =
      elim (bind_none (offset s g) from_start (sym description_in_turn ∙ h)) [
        | inl k ↦ cut_loca (let less = offset_none g k in let more = more_bytes s.long g in omega arith)
        | inr a ↦ elim (bind_none (offset s (g + 1)) (to_end a.0) a.2) [
          | inl k ↦ cut_loca (let less = offset_none (g + 1) k in let same = next_bytes s.long g in omega arith)
          | inr b ↦ elim (if_none (nat_le a.0 b.0) (range s.glyf a.0 (b.0 - a.0)) b.2) [
            | inl k ↦ descending a.0 b.0 a.1 b.1 (leb-false a.0 b.0 k)
            | inr k ↦ past_glyf b.0 b.1 (let le = leb-true a.0 b.0 k.0 in let less = range-short s.glyf a.0 (b.0 - a.0) k.1 in omega arith)
          ]
        ]
      ]

  pub description_refused : counted_description s g ≡ None → HasDescriptionFault s g
  description_refused h = elim (if_none (nat_lt g s.count) (description s g) h) [
    | inl k ↦ past_count (ltb-false g s.count k)
    | inr k ↦ not_described k.1
  ]

  pub description_missing : HasDescriptionFault s g → counted_description s g ≡ None
  description_missing f = missing (counted_description s g) (λ bytes h. let a = if_some (nat_lt g s.count) (description s g) bytes h in by bytes (ltb-true g s.count a.0) a.1 f)
    where
      by : (bytes : List ℕ) → g < s.count → description s g ≡ Some bytes → HasDescriptionFault s g → ⊥
      by bytes less h (past_count le) = omega arith
      by bytes less h (cut_loca cut) =
          let a = bind_some (offset s g) from_start bytes (sym description_in_turn ∙ h) in
          let b = bind_some (offset s (g + 1)) (to_end a.0) bytes a.2 in
          let fits = offset_some (g + 1) b.0 b.1 in
          let same = next_bytes s.long g in
          omega arith
      by bytes less h (descending from to from_is to_is under) =
          let a = bind_some (offset s g) from_start bytes (sym description_in_turn ∙ h) in
          let b = bind_some (offset s (g + 1)) (to_end a.0) bytes a.2 in
          let c = if_some (nat_le a.0 b.0) (range s.glyf a.0 (b.0 - a.0)) bytes b.2 in
          let x : a.0 ≡ from = just_is a.0 from (sym a.1 ∙ from_is) in
          let y : b.0 ≡ to = just_is b.0 to (sym b.1 ∙ to_is) in
          let le = leb-true a.0 b.0 c.0 in
          omega arith
      by bytes less h (past_glyf to to_is under) =
          let a = bind_some (offset s g) from_start bytes (sym description_in_turn ∙ h) in
          let b = bind_some (offset s (g + 1)) (to_end a.0) bytes a.2 in
          let c = if_some (nat_le a.0 b.0) (range s.glyf a.0 (b.0 - a.0)) bytes b.2 in
          let y : b.0 ≡ to = just_is b.0 to (sym b.1 ∙ to_is) in
          let le = leb-true a.0 b.0 c.0 in
          let fits = range-fits s.glyf bytes a.0 (b.0 - a.0) c.1 in
          omega arith

  -- ---- metrics

  abbrev with_bearing : ℕ → ℕ → Option LongHorMetric
  with_bearing at advance = number s.hmtx at 2 >>= λ bearing. Some (record { advance_width = advance; lsb = bearing })

  pair_none : (a b : ℕ) → a ≤ b → metric_at s.hmtx a b ≡ None → length s.hmtx < b + 2
  pair_none a b le h =
      elim (bind_none (number s.hmtx a 2) (with_bearing b) h) [
        | inl k ↦ let less = number-short s.hmtx a 2 k in omega arith
        | inr x ↦ elim (bind_none (number s.hmtx b 2) (λ bearing. let m : LongHorMetric = record { advance_width = x.0; lsb = bearing } in Some m) x.2) [
          | inl k ↦ number-short s.hmtx b 2 k
          | inr k ↦ absurd cc
        ]
      ]

  pair_some : (a b : ℕ) (m : LongHorMetric) → metric_at s.hmtx a b ≡ Some m → b + 2 ≤ length s.hmtx
  pair_some a b m h =
      let x = bind_some (number s.hmtx a 2) (with_bearing b) m h in
      let y = bind_some (number s.hmtx b 2) (λ bearing. let m : LongHorMetric = record { advance_width = x.0; lsb = bearing } in Some m) m x.2 in
      number-fits s.hmtx b 2 y.0 y.1

  abbrev own_pair : Option LongHorMetric
  own_pair = metric_at s.hmtx (4 * g) (4 * g + 2)

  abbrev last_pair : Option LongHorMetric
  last_pair = metric_at s.hmtx (4 * (s.number_of_h_metrics - 1)) (4 * s.number_of_h_metrics + 2 * (g - s.number_of_h_metrics))

  pub hmtx_refused : metric s g ≡ None → HasHmtxFault s g
  unfolding metric metric_in
  hmtx_refused h = by (nat_lt g s.number_of_h_metrics) (s.number_of_h_metrics == 0) refl refl h
    where
      by : (b c : Bool) → nat_lt g s.number_of_h_metrics ≡ b → (s.number_of_h_metrics == 0) ≡ c → cond b own_pair (cond c None last_pair) ≡ None → HasHmtxFault s g
      by true c t u k = cut_pair (ltb-true g s.number_of_h_metrics t) (let less = pair_none (4 * g) (4 * g + 2) (omega arith) k in omega arith)
      by false true t u k = no_pairs (eqb-true s.number_of_h_metrics 0 u)
      by false false t u k = cut_bearing (ltb-false g s.number_of_h_metrics t) (pair_none (4 * (s.number_of_h_metrics - 1)) (4 * s.number_of_h_metrics + 2 * (g - s.number_of_h_metrics)) (omega arith) k)

  pub hmtx_missing : HasHmtxFault s g → metric s g ≡ None
  unfolding metric metric_in
  hmtx_missing f = missing (metric s g) (λ m h. by m (nat_lt g s.number_of_h_metrics) (s.number_of_h_metrics == 0) refl refl h f)
    where
      by : (m : LongHorMetric) (b c : Bool) → nat_lt g s.number_of_h_metrics ≡ b → (s.number_of_h_metrics == 0) ≡ c → cond b own_pair (cond c None last_pair) ≡ Some m → HasHmtxFault s g → ⊥
      by m true c t u k (no_pairs none) = let less = ltb-true g s.number_of_h_metrics t in omega arith
      by m true c t u k (cut_pair less cut) = let fits = pair_some (4 * g) (4 * g + 2) m k in omega arith
      by m true c t u k (cut_bearing le cut) = let less = ltb-true g s.number_of_h_metrics t in omega arith
      by m false true t u k f = absurd cc
      by m false false t u k (no_pairs none) = eqb-false s.number_of_h_metrics 0 u none
      by m false false t u k (cut_pair less cut) = let le = ltb-false g s.number_of_h_metrics t in omega arith
      by m false false t u k (cut_bearing le cut) = let fits = pair_some (4 * (s.number_of_h_metrics - 1)) (4 * s.number_of_h_metrics + 2 * (g - s.number_of_h_metrics)) m k in omega arith
