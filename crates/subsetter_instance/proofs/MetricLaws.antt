-- Advances and the metrics of hhea and post at a master and at the default.
use Rattle.std.proofs.Common.{◌≡◌, ℕ, ◌+◌, ◌<◌, ◌≤◌, ◌^◌, ◌==◌, ◌&&◌, Bool, true, false, cond, List, [], ◌∷◌, ◌++◌, length, take, drop, Option, Some, None, Ok, Err, All, ℤ, pos, refl, sym, ap, ◌∙◌, append_assoc, arith}
use Rattle.std.specs.Prelude.{codes, slice_range, ◌+ℤ◌, ◌*ℤ◌, ◌≤ℤ◌, int_le, nat_lt, unsigned_abs}
use Rattle.std.specs.Int.{w16, cast_signed, to_be_bytes}
use Rattle.std.proofs.lemmas.Bool.{ltb-false}
use Rattle.std.proofs.lemmas.Int.{ints, of_z-to_z}
use Rattle.std.proofs.lemmas.List.{drop-drop, length-drop, length-take-le, take-append-drop}
use Rattle.std.proofs.lemmas.Nat.{be_bytes_2}
use Rattle.subsetter_base.specs.Bytes.{IsBytes, be, signed_at}
use Rattle.subsetter_base.specs.declared.error.Error.TheVariants.{OverflowError}
use Rattle.subsetter_base.proofs.ByteLemmas.{IsBytes-drop, IsBytes-take, be-fits}
use Rattle.subsetter_base.proofs.Options.{bind_some, just, just_is}
use Rattle.subsetter_base.proofs.Results.{bind_ok, done, done_is}
use Rattle.subsetter_points.specs.Simple.{has_16_bits, signed_word}
use Rattle.subsetter_base.specs.Options as optional
use Rattle.subsetter_variation.specs.Items.FontMetrics.{metric_delta, metric_store, value_delta, value_of}
use Rattle.subsetter_variation.specs.Items.ItemLaws.{HasBoundRegions, IsMaster}
use Rattle.subsetter_variation.specs.Items.ItemVariations.{Row, Store, delta, in_whole_units, item_delta, item_row, terms, whole_or_fault}
use Rattle.subsetter_variation.specs.Items.Advances.{advance_delta, advance_index, store_of}
use Rattle.subsetter_variation.specs.Nearest.{nearest}
use Rattle.subsetter_variation.specs.Region.{unit}
use Rattle.subsetter_variation.proofs.ItemsLaws.Items.{is_item_at_default, is_item_at_master, nearest_is}
use Rattle.subsetter_instance.specs.Glyphs.Drawn.{advance, advance_or_fault, word_or_fault}
use Rattle.subsetter_instance.specs.Tables.Lines.{moved_hhea, moved_post, slanted, varied, varied_hhea, varied_post, varied_post_if, varied_underline}
use Rattle.subsetter_instance.specs.MetricLaws.{IsRow, IsMetricRow, IsAdvanceAtMaster, IsAdvanceAtDefault, IsMetricAtMaster, IsMetricAtDefault, AreLinesAtDefault}
use Rattle.subsetter_instance.proofs.FaultLaws.ItemLaws.Hvar.{advance_in_turn, with_indexes, with_store}
use Rattle.subsetter_instance.proofs.FaultLaws.ItemLaws.Mvar.{metric_delta_in_turn}
use Rattle.subsetter_instance.proofs.FaultLaws.Lines.{three_steps, lines, caret, with_caret, with_position}
use Rattle.subsetter_instance.proofs.FileLaws.Lines.{line_steps, still_slant}

-- ---- whole units

whole_is : (d w : ℤ) → in_whole_units (unit *ℤ d) ≡ Ok w → w ≡ d
whole_is d w h = by (nat_lt (unsigned_abs (unit *ℤ d)) (2 ^ 62)) h
  where
    by : (b : Bool) → cond b (done {A = ℤ} (nearest (unit *ℤ d) (2 ^ 30))) (Err OverflowError) ≡ Ok w → w ≡ d
    by true k = sym (done_is (nearest (unit *ℤ d) (2 ^ 30)) w k) ∙ nearest_is d
    by false k = absurd cc

-- ---- items

module _ (s : Store) (at : List ℤ) (index : ℕ × ℕ) where
  abbrev all_terms : Row → Option ℤ
  all_terms r = terms s at r r.count 0

  master : (r : Row) (k : ℕ) (d x w : ℤ) → IsRow s index r → IsMaster s at r k → delta r k ≡ Some d → item_delta s at index.0 index.1 ≡ Some x → in_whole_units x ≡ Ok w → w ≡ d
  master r k d x w row m d_is x_is w_is =
      let same : x ≡ unit *ℤ d = is_item_at_master s at index.0 index.1 r k d x row.varies row.row_is m d_is x_is in
      whole_is d w (ap in_whole_units (sym same) ∙ w_is)

  -- an item that varies has a row
  nothing : (x : ℤ) → All (λ c. c ≡ pos 0) at → ((r : Row) → IsRow s index r → HasBoundRegions s r (length at)) → item_delta s at index.0 index.1 ≡ Some x → x ≡ pos 0
  unfolding item_delta
  nothing x zeros bound h = by (index.0 == 65535 && index.1 == 65535) refl h
    where
      by : (b : Bool) → (index.0 == 65535 && index.1 == 65535) ≡ b → cond b (just (pos 0)) (optional.◌>>=◌ (item_row s index.0 index.1) all_terms) ≡ Some x → x ≡ pos 0
      by true t k = sym (just_is (pos 0) x k)
      by false t k =
          let r = bind_some (item_row s index.0 index.1) all_terms x k in
          is_item_at_default s at index.0 index.1 r.0 x zeros r.1 (bound r.0 (record { varies = t; row_is = r.1 })) h

  default : (x w : ℤ) → All (λ c. c ≡ pos 0) at → ((r : Row) → IsRow s index r → HasBoundRegions s r (length at)) → item_delta s at index.0 index.1 ≡ Some x → in_whole_units x ≡ Ok w → w ≡ pos 0
  default x w zeros bound h w_is =
      let none : x ≡ unit *ℤ pos 0 = nothing x zeros bound h in
      whole_is (pos 0) w (ap in_whole_units (sym none) ∙ w_is)

-- what is rounded was there
rounded_of : (o : Option ℤ) (w : ℤ) → whole_or_fault o ≡ Ok w → (x : ℤ) × (o ≡ Some x) × (in_whole_units x ≡ Ok w)
rounded_of None w h = absurd cc
rounded_of (Some x) w h = (x, refl, h)

-- ---- advances

pub advance_is : (v : ℤ) (a : ℕ) → pos 0 ≤ℤ v → advance_or_fault v ≡ Ok a → pos a ≡ v
advance_is v a up h = by (int_le v (pos 0)) (nat_lt (unsigned_abs v) (2 ^ 16)) refl h
  where
    by : (b c : Bool) → int_le v (pos 0) ≡ b → cond b (done {A = ℕ} 0) (cond c (done {A = ℕ} (unsigned_abs v)) (Err OverflowError)) ≡ Ok a → pos a ≡ v
    by true c t k = let z : 0 ≡ a = done_is 0 a k in let under : v ≤ℤ pos 0 = grind (arith, ints) in omega (arith, ints)
    by false true t k = let z : unsigned_abs v ≡ a = done_is (unsigned_abs v) a k in grind (arith, ints)
    by false false t k = absurd cc

module _ (hvar : List ℕ) (at : List ℤ) (g before : ℕ) (width : ℤ) where
  record AdvanceSteps (a : ℕ) : Type 0 where
    s : Store
    store_is : store_of hvar (length at) ≡ Some s
    index : ℕ × ℕ
    index_is : advance_index hvar g ≡ Some index
    x : ℤ
    x_is : item_delta s at index.0 index.1 ≡ Some x
    w : ℤ
    w_is : in_whole_units x ≡ Ok w
    a_is : advance_or_fault (pos before +ℤ w) ≡ Ok a

  advance_steps : (a : ℕ) → advance (Some hvar) at g before width ≡ Ok a → AdvanceSteps a
  advance_steps a h =
      let b = bind_ok (whole_or_fault (advance_delta hvar at g)) (λ d. advance_or_fault (pos before +ℤ d)) a h in
      let x = rounded_of (advance_delta hvar at g) b.0 b.1 in
      let s = bind_some (store_of hvar (length at)) (with_store hvar at g) x.0 (sym (advance_in_turn hvar at g) ∙ x.1) in
      let i = bind_some (advance_index hvar g) (with_indexes hvar at g s.0) x.0 s.2 in
      record { s = s.0; store_is = s.1; index = i.0; index_is = i.1; x = x.0; x_is = i.2; w = b.0; w_is = x.2; a_is = b.2 }

pub is_advance_at_master : IsAdvanceAtMaster
is_advance_at_master hvar at g before a width d s r k row m d_is up h =
    let t = advance_steps hvar at g before width a h in
    let same : t.s ≡ s = just_is t.s s (sym t.store_is ∙ row.store_is) in
    let index : t.index ≡ row.index = just_is t.index row.index (sym t.index_is ∙ row.index_is) in
    let w : t.w ≡ d = master s at row.index r k d t.x t.w row.row m d_is (ap (λ (q : Store). item_delta q at row.index.0 row.index.1) (sym same) ∙ ap (λ (i : ℕ × ℕ). item_delta t.s at i.0 i.1) (sym index) ∙ t.x_is) t.w_is in
    advance_is (pos before +ℤ d) a up (ap (λ z. advance_or_fault (pos before +ℤ z)) (sym w) ∙ t.a_is)

pub is_advance_at_default : IsAdvanceAtDefault
is_advance_at_default hvar at g before a width zeros bound h =
    let t = advance_steps hvar at g before width a h in
    let w : t.w ≡ pos 0 = default t.s at t.index t.x t.w zeros (λ r row. bound t.s r (record { store_is = t.store_is; index = t.index; index_is = t.index_is; row = row })) t.x_is t.w_is in
    let same : pos before +ℤ t.w ≡ pos before = omega (arith, ints) in
    let is : pos a ≡ pos before = advance_is (pos before) a (omega (arith, ints)) (ap advance_or_fault (sym same) ∙ t.a_is) in
    omega (arith, ints)

-- ---- metrics

word_is : (v w : ℤ) → word_or_fault v ≡ Ok w → w ≡ v
word_is v w h = by (has_16_bits v) h
  where
    by : (b : Bool) → cond b (done {A = ℤ} v) (Err OverflowError) ≡ Ok w → w ≡ v
    by true k = sym (done_is v w k)
    by false k = absurd cc

module _ (mvar : List ℕ) (at : List ℤ) (tag : List ℕ) where
  abbrev item_of : ℕ × ℕ → Store → Option ℤ
  item_of index s = item_delta s at index.0 index.1

  pub is_metric_master : (before d v : ℤ) (s : Store) (r : Row) (k : ℕ) → IsMetricRow mvar (length at) tag s r → IsMaster s at r k → delta r k ≡ Some d → varied mvar at tag before ≡ Ok v → v ≡ before +ℤ d
  is_metric_master before d v s r k row m d_is h =
      let b = bind_ok (whole_or_fault (metric_delta mvar at tag)) (λ w. word_or_fault (before +ℤ w)) v h in
      let x = rounded_of (metric_delta mvar at tag) b.0 b.1 in
      let found : value_delta mvar at (Some row.index) ≡ Some x.0 = ap (λ o. optional.◌>>=◌ o (value_delta mvar at)) (sym row.index_is) ∙ sym (metric_delta_in_turn mvar at tag) ∙ x.1 in
      let i = bind_some (metric_store mvar (length at)) (item_of row.index) x.0 found in
      let same : i.0 ≡ s = just_is i.0 s (sym i.1 ∙ row.store_is) in
      let w : b.0 ≡ d = master s at row.index r k d x.0 b.0 row.row m d_is (ap (item_of row.index) (sym same) ∙ i.2) x.2 in
      word_is (before +ℤ b.0) v b.2 ∙ ap (λ z. before +ℤ z) w

  pub is_metric_default : (before v : ℤ) → All (λ c. c ≡ pos 0) at → ((s : Store) (r : Row) → IsMetricRow mvar (length at) tag s r → HasBoundRegions s r (length at)) → varied mvar at tag before ≡ Ok v → v ≡ before
  is_metric_default before v zeros bound h =
      let b = bind_ok (whole_or_fault (metric_delta mvar at tag)) (λ w. word_or_fault (before +ℤ w)) v h in
      let x = rounded_of (metric_delta mvar at tag) b.0 b.1 in
      let f = bind_some (value_of mvar tag) (value_delta mvar at) x.0 (sym (metric_delta_in_turn mvar at tag) ∙ x.1) in
      let w : b.0 ≡ pos 0 = by f.0 f.1 x.0 b.0 f.2 x.2 in
      word_is (before +ℤ b.0) v b.2 ∙ still b.0 w
    where
      still : (w : ℤ) → w ≡ pos 0 → before +ℤ w ≡ before
      still w e = omega (arith, ints)

      by : (found : Option (ℕ × ℕ)) → value_of mvar tag ≡ Some found → (x w : ℤ) → value_delta mvar at found ≡ Some x → in_whole_units x ≡ Ok w → w ≡ pos 0
      by None is x w x_is w_is =
          let none : x ≡ unit *ℤ pos 0 = sym (just_is (pos 0) x x_is) in
          whole_is (pos 0) w (ap in_whole_units (sym none) ∙ w_is)
      by (Some index) is x w x_is w_is =
          let i = bind_some (metric_store mvar (length at)) (item_of index) x x_is in
          default i.0 at index x w zeros (λ r row. bound i.0 r (record { index = index; index_is = is; store_is = i.1; row = row })) i.2 w_is

pub is_metric_at_master : IsMetricAtMaster
is_metric_at_master mvar at tag before d v s r k row m d_is h = is_metric_master mvar at tag before d v s r k row m d_is h

pub is_metric_at_default : IsMetricAtDefault
is_metric_at_default mvar at tag before v zeros bound h = is_metric_default mvar at tag before v zeros bound h

-- ---- hhea and post at the default

-- a number of two bytes, written again
word_back : (word : List ℕ) → IsBytes word → length word ≡ 2 → signed_word (cast_signed w16 (be word)) ≡ word
word_back [] bytes two = absurd (omega arith)
word_back (a ∷ []) bytes two = absurd (omega arith)
word_back (a ∷ b ∷ []) bytes two =
    let less : be (a ∷ b ∷ []) < 2 ^ 16 = be-fits (a ∷ b ∷ []) bytes in
    ap (to_be_bytes w16) (of_z-to_z w16 (be (a ∷ b ∷ [])) less) ∙ be_bytes_2 (a ∷ b ∷ []) (be (a ∷ b ∷ [])) refl bytes (omega arith)
word_back (a ∷ b ∷ c ∷ more) bytes two = absurd (omega arith)

module _ (table : List ℕ) (bytes : IsBytes table) where
  word_at : (at : ℕ) → at + 2 ≤ length table → signed_word (signed_at table at) ≡ take 2 (drop at table)
  word_at at fits = word_back (take 2 (drop at table)) (IsBytes-take 2 (drop at table) (IsBytes-drop at table bytes)) (length-take-le 2 (drop at table) (omega (arith, length-drop at table)))

  -- n bytes, and those after them
  next : (n at : ℕ) → take n (drop at table) ++ drop (at + n) table ≡ drop at table
  next n at = ap (λ (l : List ℕ). take n (drop at table) ++ l) (sym (drop-drop n at table)) ∙ take-append-drop n (drop at table)

  -- a number that is the one of the table
  same_word : (at : ℕ) (v : ℤ) → at + 2 ≤ length table → v ≡ signed_at table at → signed_word v ≡ take 2 (drop at table)
  same_word at v fits is = ap signed_word is ∙ word_at at fits

  hhea_again : (a b : ℤ × ℤ × ℤ) → 36 ≤ length table → a.0 ≡ signed_at table 4 → a.1 ≡ signed_at table 6 → a.2 ≡ signed_at table 8 → b.0 ≡ signed_at table 18 → b.1 ≡ signed_at table 20 → b.2 ≡ signed_at table 22 → moved_hhea table a b ≡ table
  hhea_again a b long h0 h1 h2 h3 h4 h5 =
      flat (take 4 table) (signed_word a.0) (signed_word a.1) (signed_word a.2) (slice_range table 10 18) (signed_word b.0) (signed_word b.1) (signed_word b.2) (drop 24 table)
      ∙ nine (take 4 table) (signed_word a.0) (signed_word a.1) (signed_word a.2) (slice_range table 10 18) (signed_word b.0) (signed_word b.1) (signed_word b.2) (drop 22 table) (drop 20 table) (drop 18 table) (drop 10 table) (drop 8 table) (drop 6 table) (drop 4 table) (drop 24 table)
      (ap (λ (l : List ℕ). l ++ drop 24 table) (same_word 22 b.2 (omega arith) h5) ∙ next 2 22) (ap (λ (l : List ℕ). l ++ drop 22 table) (same_word 20 b.1 (omega arith) h4) ∙ next 2 20) (ap (λ (l : List ℕ). l ++ drop 20 table) (same_word 18 b.0 (omega arith) h3) ∙ next 2 18)
      (next 8 10) (ap (λ (l : List ℕ). l ++ drop 10 table) (same_word 8 a.2 (omega arith) h2) ∙ next 2 8) (ap (λ (l : List ℕ). l ++ drop 8 table) (same_word 6 a.1 (omega arith) h1) ∙ next 2 6) (ap (λ (l : List ℕ). l ++ drop 6 table) (same_word 4 a.0 (omega arith) h0) ∙ next 2 4)
      ∙ take-append-drop 4 table
    where
      flat : (a b c d m e f g z : List ℕ) → a ++ (b ++ c ++ d) ++ m ++ (e ++ f ++ g) ++ z ≡ a ++ (b ++ (c ++ (d ++ (m ++ (e ++ (f ++ (g ++ z)))))))
      flat a b c d m e f g z = simp append_assoc

      nine : (a b c d m e f g r22 r20 r18 r10 r8 r6 r4 z : List ℕ) → g ++ z ≡ r22 → f ++ r22 ≡ r20 → e ++ r20 ≡ r18 → m ++ r18 ≡ r10 → d ++ r10 ≡ r8 → c ++ r8 ≡ r6 → b ++ r6 ≡ r4 → a ++ (b ++ (c ++ (d ++ (m ++ (e ++ (f ++ (g ++ z))))))) ≡ a ++ r4
      nine a b c d m e f g r22 r20 r18 r10 r8 r6 r4 z p q r t u v w = rw (p, q, r, t, u, v, w) refl

  post_again : (x y : ℤ) → 12 ≤ length table → x ≡ signed_at table 8 → y ≡ signed_at table 10 → moved_post table x y ≡ table
  post_again x y long h k =
      flat (take 8 table) (signed_word x) (signed_word y) (drop 12 table)
      ∙ ap (λ (l : List ℕ). take 8 table ++ (signed_word x ++ l)) (ap (λ (l : List ℕ). l ++ drop 12 table) (same_word 10 y (omega arith) k) ∙ next 2 10)
      ∙ ap (λ (l : List ℕ). take 8 table ++ l) (ap (λ (l : List ℕ). l ++ drop 10 table) (same_word 8 x (omega arith) h) ∙ next 2 8)
      ∙ take-append-drop 8 table
    where
      flat : (a b c z : List ℕ) → a ++ b ++ c ++ z ≡ a ++ (b ++ (c ++ z))
      flat a b c z = simp append_assoc

module _ (mvar : List ℕ) (at : List ℤ) (zeros : All (λ c. c ≡ pos 0) at) (bound : (tag : List ℕ) (s : Store) (r : Row) → IsMetricRow mvar (length at) tag s r → HasBoundRegions s r (length at)) where
  hhea_stays : (hhea new : List ℕ) → IsBytes hhea → 36 ≤ length hhea → varied_hhea (Some mvar) at hhea ≡ Ok new → hhea ≡ new
  unfolding varied_hhea
  hhea_stays hhea new bytes long h =
      let x = bind_ok (lines mvar at hhea) (with_caret mvar at hhea) new h in
      let y = bind_ok (caret mvar at hhea) (λ c. Ok (moved_hhea hhea x.0 c)) new x.2 in
      let s = three_steps mvar at hhea 4 (codes "hasc") (codes "hdsc") (codes "hlgp") x.0 x.1 in
      let t = three_steps mvar at hhea 18 (codes "hcrs") (codes "hcrn") (codes "hcof") y.0 y.1 in
      sym (hhea_again hhea bytes x.0 y.0 long
      (ap (λ (l : ℤ × ℤ × ℤ). l.0) s.same ∙ is_metric_default mvar at (codes "hasc") (signed_at hhea 4) s.first zeros (bound (codes "hasc")) s.first_is)
      (ap (λ (l : ℤ × ℤ × ℤ). l.1) s.same ∙ is_metric_default mvar at (codes "hdsc") (signed_at hhea 6) s.second zeros (bound (codes "hdsc")) s.second_is)
      (ap (λ (l : ℤ × ℤ × ℤ). l.2) s.same ∙ is_metric_default mvar at (codes "hlgp") (signed_at hhea 8) s.third zeros (bound (codes "hlgp")) s.third_is)
      (ap (λ (l : ℤ × ℤ × ℤ). l.0) t.same ∙ is_metric_default mvar at (codes "hcrs") (signed_at hhea 18) t.first zeros (bound (codes "hcrs")) t.first_is)
      (ap (λ (l : ℤ × ℤ × ℤ). l.1) t.same ∙ is_metric_default mvar at (codes "hcrn") (signed_at hhea 20) t.second zeros (bound (codes "hcrn")) t.second_is)
      (ap (λ (l : ℤ × ℤ × ℤ). l.2) t.same ∙ is_metric_default mvar at (codes "hcof") (signed_at hhea 22) t.third zeros (bound (codes "hcof")) t.third_is))
      ∙ done_is (moved_hhea hhea x.0 y.0) new y.2

  underline_stays : (post new : List ℕ) → IsBytes post → 12 ≤ length post → varied_underline mvar at post ≡ Ok new → new ≡ post
  unfolding varied_underline
  underline_stays post new bytes long h =
      let x = bind_ok (varied mvar at (codes "undo") (signed_at post 8)) (with_position mvar at post) new h in
      let y = bind_ok (varied mvar at (codes "unds") (signed_at post 10)) (λ thickness. Ok (moved_post post x.0 thickness)) new x.2 in
      sym (done_is (moved_post post x.0 y.0) new y.2)
      ∙ post_again post bytes x.0 y.0 long (is_metric_default mvar at (codes "undo") (signed_at post 8) x.0 zeros (bound (codes "undo")) x.1) (is_metric_default mvar at (codes "unds") (signed_at post 10) y.0 zeros (bound (codes "unds")) y.1)

  post_stays : (post new : List ℕ) → IsBytes post → varied_post (Some mvar) at post ≡ Ok new → new ≡ post
  post_stays post new bytes h = by (nat_lt (length post) 12) refl h
    where
      by : (b : Bool) → nat_lt (length post) 12 ≡ b → cond b (Ok post) (varied_underline mvar at post) ≡ Ok new → new ≡ post
      by true t k = sym (done_is post new k)
      by false t k = underline_stays post new bytes (ltb-false (length post) 12 t) k

pub are_lines_at_default : AreLinesAtDefault
unfolding varied_hhea
are_lines_at_default find settings at l bytes long zeros bound h =
    let s = line_steps find settings at l h in
    (s.hhea_is ∙ ap (λ (x : List ℕ). Some x) (first (find (codes "MVAR")) refl s.hhea (bytes (codes "hhea") s.hhea s.hhea_is) (long s.hhea s.hhea_is) s.new_is), sym s.slant_is ∙ ap (λ (angle : Option ℤ). slanted angle s.post) (still_slant find settings at zeros) ∙ second (find (codes "MVAR")) (find (codes "post")) s.post refl refl s.post_is)
  where
    first : (o : Option (List ℕ)) → find (codes "MVAR") ≡ o → (hhea : List ℕ) → IsBytes hhea → 36 ≤ length hhea → varied_hhea o at hhea ≡ Ok l.hhea → hhea ≡ l.hhea
    first None m hhea b le k = done_is hhea l.hhea k
    first (Some mvar) m hhea b le k = hhea_stays mvar at zeros (λ tag s r. bound mvar tag s r m) hhea l.hhea b le k

    second : (o p q : Option (List ℕ)) → find (codes "MVAR") ≡ o → find (codes "post") ≡ p → varied_post_if o at p ≡ Ok q → q ≡ find (codes "post")
    second o None q m p k = sym (done_is None q k) ∙ sym p
    second None (Some post) q m p k = sym (done_is (Some post) q k) ∙ sym p
    second (Some mvar) (Some post) q m p k =
        let n = bind_ok (varied_post (Some mvar) at post) (λ new. Ok (Some new)) q k in
        sym (done_is (Some n.0) q n.2) ∙ ap (λ (x : List ℕ). Some x) (post_stays mvar at zeros (λ tag s r. bound mvar tag s r m) post n.0 (bytes (codes "post") post p) n.1) ∙ sym p
