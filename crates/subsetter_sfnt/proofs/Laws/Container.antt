-- A file that is laid out is a sound font file, read afresh.
use Rattle.std.proofs.Common.{◌≡◌, ℕ, ◌+◌, ◌-◌, ◌*◌, ◌%◌, ◌^◌, ◌<◌, ◌≤◌, Bool, true, false, cond, ltb, List, [], ◌∷◌, ◌++◌, length, take, drop, Option, Some, None, refl, sym, ap, subst, ◌∙◌, append_assoc, ◌⊎◌, inl, inr, arith}
use Rattle.std.specs.Prelude.{map, find, codes, replicate, IsSome, is_some}
use Rattle.std.specs.Option.{option_map}
use Rattle.std.specs.List.{AllByRecursion}
use Rattle.std.specs.Str.{bytes_eq}
use Rattle.std.specs.Int.{w16, w32, to_be_bytes}
use Rattle.std.proofs.lemmas.Bool.{ltb-true, ltb-false, false≢true}
use Rattle.std.proofs.lemmas.List.{append-nil, take_at, drop_at, length-append, length-replicate, length-take}
use Rattle.subsetter_base.specs.Bytes.{be, number, aligned}
use Rattle.subsetter_base.proofs.ByteLemmas.{range-middle, be-u16, be-u32, number_at}
use Rattle.subsetter_base.proofs.Lists.{bytes_eq_is}
use Rattle.subsetter_sfnt.specs.declared.face.TableRecord.{TableRecord}
use Rattle.subsetter_sfnt.specs.Read.{as_font, table}
use Rattle.subsetter_sfnt.specs.Laying.Checksum.{checksum}
use Rattle.subsetter_sfnt.specs.Container.{summed, padded_size, NameTablesFrom, AscendFrom, IsSoundContainer}
use Rattle.subsetter_sfnt.specs.Laying.Written.{Table, selector, body, front, with_adjustment, adjusted, file, fits, start_of, IsTable}
use Rattle.subsetter_sfnt.specs.Laying.Rows.{lookup, tags}
use Rattle.subsetter_sfnt.proofs.Laws.LayingLaws.Checksum.{checksum-append, checksum-body, checksum_fits}
use Rattle.subsetter_sfnt.proofs.Laws.LayingLaws.Written.{length-front, length-adjusted, aligned_len, adjusted_head, adjusted_other}
use Rattle.subsetter_sfnt.proofs.Laws.Lookups.{apart_by}
use Rattle.subsetter_sfnt.proofs.Laws.Back.{IsKind, record_at, records_from, find_table, same_tag, parts, kind_back, count_back, directory_back, word_of, table_back}

which : (b : Bool) → (b ≡ true) ⊎ (b ≡ false)
which true = inl refl
which false = inr refl

-- ---- head with its adjustment

-- one word alone
checksum-word : (w : ℕ) → w < 2 ^ 32 → checksum (to_be_bytes w32 w) ≡ w
unfolding checksum
checksum-word w lt = omega (arith, be-u32 w lt)

checksum_three : (w : ℕ) (A R : List ℕ) → length A ≡ 8 → w < 2 ^ 32 → checksum (A ++ to_be_bytes w32 w ++ R) ≡ (checksum A + w + checksum R) % 2 ^ 32
checksum_three w A R la lt =
    let one = checksum-append (A ++ to_be_bytes w32 w) R (omega (arith, length-append A (to_be_bytes w32 w))) in
    let two = checksum-append A (to_be_bytes w32 w) (omega arith) in
    let word = checksum-word w lt in
    omega (arith, one, two, word)

pub checksum_adjusted : (w : ℕ) (b : List ℕ) → 12 ≤ length b → with_adjustment 0 b ≡ b → w < 2 ^ 32 → checksum (with_adjustment w b) ≡ (checksum b + w) % 2 ^ 32
checksum_adjusted w b room zeros lt =
    let la : length (take 8 b) ≡ 8 = omega (arith, length-take 8 b) in
    let with = checksum_three w (take 8 b) (drop 12 b) la lt in
    let without = ap checksum (sym zeros) ∙ checksum_three 0 (take 8 b) (drop 12 b) la (omega arith) in
    omega (arith, with, without)

-- the word that is put in last stays
pub adjusted_again : (v w : ℕ) (b : List ℕ) → 12 ≤ length b → with_adjustment v (with_adjustment w b) ≡ with_adjustment v b
adjusted_again v w b room =
    let A = take 8 b in
    let W = to_be_bytes w32 w in
    let R = drop 12 b in
    let la : length A ≡ 8 = omega (arith, length-take 8 b) in
    let front_is : take 8 (A ++ W ++ R) ≡ A = ap (take 8) (append_assoc A W R) ∙ take_at A (W ++ R) 8 la in
    let back_is : drop 12 (A ++ W ++ R) ≡ R = drop_at (A ++ W) R 12 (omega (arith, length-append A W)) in
    ap (λ (l : List ℕ). l ++ to_be_bytes w32 v ++ drop 12 (A ++ W ++ R)) front_is ∙ ap (λ (l : List ℕ). A ++ to_be_bytes w32 v ++ l) back_is

-- ---- the sum of the whole file

-- past the place of `head` nothing is adjusted
no_head : (w low : ℕ) (ts : List Table) → be (codes "head") < low → AscendFrom low (tags ts) → map (adjusted w) ts ≡ ts
no_head w low [] lt up = refl
no_head w low (t ∷ ts) lt up =
    let before : be (codes "head") < be t.tag = omega (arith, up.0) in
    let above : be (codes "head") < be t.tag + 1 = omega (arith, before) in
    let same : adjusted w t ≡ t = ap (λ b. cond b (record { tag = t.tag; bytes = with_adjustment w t.bytes }) t) (apart_by (codes "head") t.tag before) in
    ap (λ (x : Table). x ∷ map (adjusted w) ts) same ∙ ap (λ (l : List Table). t ∷ l) (no_head w (be t.tag + 1) ts above up.1)

sum_at_head : (w : ℕ) (t : Table) (ts : List Table) → w < 2 ^ 32 → IsTable t → AscendFrom (be t.tag + 1) (tags ts) → bytes_eq t.tag (codes "head") ≡ true → checksum (body (map (adjusted w) (t ∷ ts))) ≡ (checksum (body (t ∷ ts)) + w) % 2 ^ 32
sum_at_head w t ts lt is up h =
    let above : be (codes "head") < be t.tag + 1 = omega (arith, ap be (bytes_eq_is t.tag (codes "head") h)) in
    let rest : checksum (body (map (adjusted w) ts)) ≡ checksum (body ts) = ap (λ (l : List Table). checksum (body l)) (no_head w (be t.tag + 1) ts above up) in
    let room = is.room h in
    let here : checksum (adjusted w t).bytes ≡ (checksum t.bytes + w) % 2 ^ 32 = ap checksum (adjusted_head w t h) ∙ checksum_adjusted w t.bytes room.0 room.1 lt in
    omega (arith, checksum-body (adjusted w t) (map (adjusted w) ts), checksum-body t ts, here, rest)

sum_past : (w : ℕ) (t : Table) (ts : List Table) → bytes_eq t.tag (codes "head") ≡ false → checksum (body (map (adjusted w) ts)) ≡ (checksum (body ts) + w) % 2 ^ 32 → checksum (body (map (adjusted w) (t ∷ ts))) ≡ (checksum (body (t ∷ ts)) + w) % 2 ^ 32
sum_past w t ts h rest =
    let here : checksum (adjusted w t).bytes ≡ checksum t.bytes = ap checksum (adjusted_other w t h) in
    omega (arith, checksum-body (adjusted w t) (map (adjusted w) ts), checksum-body t ts, here, rest)

found_past : (w : ℕ) (t : Table) (ts : List Table) → bytes_eq t.tag (codes "head") ≡ false → find_table (codes "head") (map (adjusted w) (t ∷ ts)) ≡ find_table (codes "head") (map (adjusted w) ts)
found_past w t ts h = ap (λ b. option_map (λ (x : Table). x.bytes) (cond b (Some (adjusted w t)) (find (λ (x : Table). bytes_eq x.tag (codes "head")) (map (adjusted w) ts)))) (ap (λ (x : List ℕ). bytes_eq x (codes "head")) (same_tag w t) ∙ h)

-- where `head` is there, the sum of the tables gains the word
pub sum_with_head : (w low : ℕ) (ts : List Table) → w < 2 ^ 32 → AllByRecursion IsTable ts → AscendFrom low (tags ts) → IsSome (find_table (codes "head") (map (adjusted w) ts)) → checksum (body (map (adjusted w) ts)) ≡ (checksum (body ts) + w) % 2 ^ 32
sum_with_head w low [] lt all up there = absurd (false≢true there)
sum_with_head w low (t ∷ ts) lt all up there =
    elim (which (bytes_eq t.tag (codes "head"))) [
      | inl h ↦ sum_at_head w t ts lt all.0 up.1 h
      | inr h ↦ sum_past w t ts h (sum_with_head w (be t.tag + 1) ts lt all.1 up.1 (subst (λ o. is_some o ≡ true) (found_past w t ts h) there))
    ]

pub whole_sum : (kind : ℕ) (ts : List Table) → AllByRecursion IsTable ts → AscendFrom 0 (tags ts) → IsSome (find_table (codes "head") (map (adjusted (word_of kind ts)) ts)) → checksum (file kind ts) ≡ 0xB1B0AFBA
unfolding file
whole_sum kind ts all up there =
    let F = front kind ts in
    let w = word_of kind ts in
    let multiple : length F % 4 ≡ 0 = omega (arith, length-front kind ts all) in
    let before = checksum-append F (body ts) multiple in
    let after = checksum-append F (body (map (adjusted w) ts)) multiple in
    let small : w < 2 ^ 32 = omega arith in
    omega (arith, before, after, sum_with_head w 0 ts small all up there, checksum_fits (F ++ body ts))

-- ---- the records name the tables

padded_size_is : (b : List ℕ) → padded_size (length b) ≡ length (aligned 4 b)
padded_size_is b =
    let n = (4 - length b % 4) % 4 in
    omega (arith, length-append b (replicate n 0), length-replicate {A = ℕ} n 0)

-- a table is summed as it was before the word was put in
summed_back : (w at : ℕ) (t : Table) → IsTable t → checksum t.bytes ≡ checksum (summed (record_at at t) (adjusted w t).bytes)
summed_back w at t is =
    elim (which (bytes_eq t.tag (codes "head"))) [
      | inl h ↦
          let room = is.room h in
          let back : summed (record_at at t) (adjusted w t).bytes ≡ t.bytes = ap (λ b. cond b (with_adjustment 0 (adjusted w t).bytes) (adjusted w t).bytes) h ∙ ap (with_adjustment 0) (adjusted_head w t h) ∙ adjusted_again 0 w t.bytes room.0 ∙ room.1 in
          ap checksum (sym back)
      | inr h ↦
          let back : summed (record_at at t) (adjusted w t).bytes ≡ t.bytes = ap (λ b. cond b (with_adjustment 0 (adjusted w t).bytes) (adjusted w t).bytes) h ∙ adjusted_other w t h in
          ap checksum (sym back)
    ]

pub names_from : (pre : List ℕ) (w : ℕ) (ts : List Table) (bytes : List ℕ) (at : ℕ) → AllByRecursion IsTable ts → bytes ≡ pre ++ body (map (adjusted w) ts) → at ≡ length pre → NameTablesFrom bytes at (records_from at ts)
names_from pre w [] bytes at all is place = ap length (is ∙ append-nil pre) ∙ sym place
names_from pre w (t ∷ ts) bytes at all is place =
    let A = adjusted w t in
    let zeros : List ℕ = replicate ((4 - length A.bytes % 4) % 4) 0 in
    let rest = body (map (adjusted w) ts) in
    let same : length A.bytes ≡ length t.bytes = length-adjusted w t all.0 in
    let split : bytes ≡ pre ++ (A.bytes ++ (zeros ++ rest)) = is ∙ ap (λ (l : List ℕ). pre ++ l) (append_assoc A.bytes zeros rest) in
    let beyond : bytes ≡ (pre ++ aligned 4 A.bytes) ++ rest = is ∙ sym (append_assoc pre (aligned 4 A.bytes) rest) in
    let size : padded_size (length t.bytes) ≡ length (aligned 4 t.bytes) = padded_size_is t.bytes in
    let next : at + length (aligned 4 t.bytes) ≡ length (pre ++ aligned 4 A.bytes) = omega (arith, place, length-append pre (aligned 4 A.bytes), aligned_len A.bytes t.bytes same) in
    let others = names_from (pre ++ aligned 4 A.bytes) w ts bytes (at + length (aligned 4 t.bytes)) all.1 beyond next in (
      record {
        offset = refl;
        bytes = A.bytes;
        there = range-middle bytes pre A.bytes (zeros ++ rest) at (length t.bytes) split place (sym same);
        zeros_after = range-middle bytes pre (aligned 4 A.bytes) rest at (length (aligned 4 A.bytes)) is place refl;
        sum = summed_back w at t all.0;
      },
      subst (λ k. NameTablesFrom bytes (at + k) (records_from (at + length (aligned 4 t.bytes)) ts)) (sym size) others,
    )

tags_from : (at : ℕ) (ts : List Table) → map (λ (r : TableRecord). r.tag.0) (records_from at ts) ≡ tags ts
tags_from at [] = refl
tags_from at (t ∷ ts) = ap (λ (l : List (List ℕ)). t.tag ∷ l) (tags_from (at + length (aligned 4 t.bytes)) ts)

count_from : (at : ℕ) (ts : List Table) → length (records_from at ts) ≡ length ts
count_from at [] = refl
count_from at (t ∷ ts) = omega (arith, count_from (at + length (aligned 4 t.bytes)) ts)

-- ---- the header's numbers

pub record Selects (n e : ℕ) : Type 0 where
  pub at_most : 2 ^ e ≤ n
  pub greatest : n < 2 ^ (e + 1)
  pub few : e ≤ 3

selects_by : (b2 b4 b8 : Bool) (n : ℕ) → ltb n 2 ≡ b2 → ltb n 4 ≡ b4 → ltb n 8 ≡ b8 → 0 < n → n < 16 → Selects n (cond b2 0 (cond b4 1 (cond b8 2 3)))
selects_by true b4 b8 n h2 h4 h8 some few = record { at_most = omega arith; greatest = omega (arith, ltb-true n 2 h2); few = omega arith }
selects_by false true b8 n h2 h4 h8 some few = record { at_most = omega (arith, ltb-false n 2 h2); greatest = omega (arith, ltb-true n 4 h4); few = omega arith }
selects_by false false true n h2 h4 h8 some few = record { at_most = omega (arith, ltb-false n 4 h4); greatest = omega (arith, ltb-true n 8 h8); few = omega arith }
selects_by false false false n h2 h4 h8 some few = record { at_most = omega (arith, ltb-false n 8 h8); greatest = omega arith; few = omega arith }

selects : (n : ℕ) → 0 < n → n < 16 → Selects n (selector n)
selects n some few = selects_by (ltb n 2) (ltb n 4) (ltb n 8) n refl refl refl some few

module _ (kind : ℕ) (ts : List Table) (rest : List ℕ) (some : 0 < length ts) (few : length ts < 16) where
  pub search_range_back : number (front kind ts ++ rest) 6 2 ≡ Some (16 * 2 ^ selector (length ts))
  search_range_back =
      let n = length ts in
      let s = selects n some few in
      let a = to_be_bytes w32 kind in
      let b = to_be_bytes w16 n in
      number_at (front kind ts ++ rest) (a ++ b) (to_be_bytes w16 (16 * 2 ^ selector n)) _ 6 2 (16 * 2 ^ selector n) (parts kind ts rest ∙ sym (append_assoc a b _)) refl refl (be-u16 (16 * 2 ^ selector n) (omega (arith, s.at_most)))

  pub entry_selector_back : number (front kind ts ++ rest) 8 2 ≡ Some (selector (length ts))
  entry_selector_back =
      let n = length ts in
      let s = selects n some few in
      let a = to_be_bytes w32 kind in
      let b = to_be_bytes w16 n in
      let c = to_be_bytes w16 (16 * 2 ^ selector n) in
      number_at (front kind ts ++ rest) (a ++ b ++ c) (to_be_bytes w16 (selector n)) _ 8 2 (selector n) (parts kind ts rest ∙ sym (append_assoc a b _) ∙ sym (append_assoc (a ++ b) c _)) refl refl (be-u16 (selector n) (omega (arith, s.few)))

  pub range_shift_back : number (front kind ts ++ rest) 10 2 ≡ Some (16 * length ts - 16 * 2 ^ selector (length ts))
  range_shift_back =
      let n = length ts in
      let a = to_be_bytes w32 kind in
      let b = to_be_bytes w16 n in
      let c = to_be_bytes w16 (16 * 2 ^ selector n) in
      let d = to_be_bytes w16 (selector n) in
      let e = 16 * n - 16 * 2 ^ selector n in
      number_at (front kind ts ++ rest) (a ++ b ++ c ++ d) (to_be_bytes w16 e) _ 10 2 e (parts kind ts rest ∙ sym (append_assoc a b _) ∙ sym (append_assoc (a ++ b) c _) ∙ sym (append_assoc (a ++ b ++ c) d _)) refl refl (be-u16 e (omega arith))

-- ---- the law

pub sound : (kind : ℕ) (ts : List Table) → IsKind kind → 0 < length ts → length ts < 16 → AllByRecursion IsTable ts → fits (start_of ts) ts ≡ true → AscendFrom 0 (tags ts) → IsSoundContainer (file kind ts) kind (tags ts)
unfolding file
sound kind ts is some few all fit up =
    let w = word_of kind ts in
    let rest = body (map (adjusted w) ts) in
    let rs = records_from (12 + 16 * length ts) ts in
    let n : length rs ≡ length ts = count_from (12 + 16 * length ts) ts in
    let s = selects (length ts) some few in
    let lt : kind < 2 ^ 32 = elim is [ inl e ↦ omega (arith, e) | inr e ↦ omega (arith, e) ] in
    record {
      records = rs;
      read = directory_back kind ts rest is few all fit;
      kind_is = kind_back kind ts rest lt;
      count = count_back kind ts rest few ∙ ap (λ (k : ℕ). Some k) (sym n);
      selector = selector (length ts);
      at_most = omega (arith, s.at_most, n);
      greatest = omega (arith, s.greatest, n);
      search_range = search_range_back kind ts rest some few;
      entry_selector = entry_selector_back kind ts rest some few;
      range_shift = range_shift_back kind ts rest some few ∙ ap (λ (k : ℕ). Some (16 * k - 16 * 2 ^ selector (length ts))) (sym n);
      tags_are = tags_from (12 + 16 * length ts) ts;
      ascending = up;
      tables = subst (λ (k : ℕ). NameTablesFrom (front kind ts ++ rest) (12 + 16 * k) rs) (sym n) (names_from (front kind ts) w ts (front kind ts ++ rest) (12 + 16 * length ts) all refl (sym (length-front kind ts all)));
      sum = λ there. whole_sum kind ts all up (subst (λ o. is_some o ≡ true) (table_back kind ts (codes "head") is few all fit) there);
    }

-- ---- each table read afresh, by what was laid out

-- `head` has a word put in
abbrev pub with_word : ℕ → List ℕ → Option (List ℕ) → Option (List ℕ)
with_word w tag o = cond (bytes_eq tag (codes "head")) (option_map (with_adjustment w) o) o

word_here : (w : ℕ) (tag : List ℕ) (t : Table) → bytes_eq t.tag tag ≡ true → Some (adjusted w t).bytes ≡ with_word w tag (Some t.bytes)
word_here w tag t h = subst (λ (x : List ℕ). Some (adjusted w t).bytes ≡ with_word w x (Some t.bytes)) (bytes_eq_is t.tag tag h) (by (bytes_eq t.tag (codes "head")))
  where
    by : (b : Bool) → Some (cond b (record { tag = t.tag; bytes = with_adjustment w t.bytes }) t).bytes ≡ cond b (Some (with_adjustment w t.bytes)) (Some t.bytes)
    by true = refl
    by false = refl

pub found_with_word : (w : ℕ) (tag : List ℕ) (ts : List Table) → find_table tag (map (adjusted w) ts) ≡ with_word w tag (lookup tag ts)
found_with_word w tag [] = none (bytes_eq tag (codes "head"))
  where
    none : (b : Bool) → option_map (λ (x : Table). x.bytes) None ≡ cond b (option_map (with_adjustment w) None) None
    none true = refl
    none false = refl
found_with_word w tag (t ∷ ts) =
    let find_in = λ (b : Bool). option_map (λ (x : Table). x.bytes) (cond b (Some (adjusted w t)) (find (λ (x : Table). bytes_eq x.tag tag) (map (adjusted w) ts))) in
    let look_in = λ (b : Bool). option_map (λ (x : Table). x.bytes) (cond b (Some t) (find (λ (x : Table). bytes_eq x.tag tag) ts)) in
    let first = ap (λ (x : List ℕ). find_in (bytes_eq x tag)) (same_tag w t) in
    elim (which (bytes_eq t.tag tag)) [
      | inl h ↦ first ∙ ap find_in h ∙ word_here w tag t h ∙ ap (λ b. with_word w tag (look_in b)) (sym h)
      | inr h ↦ first ∙ ap find_in h ∙ found_with_word w tag ts ∙ ap (λ b. with_word w tag (look_in b)) (sym h)
    ]

module _ (kind : ℕ) (ts : List Table) (is : IsKind kind) (few : length ts < 16) (all : AllByRecursion IsTable ts) (fit : fits (start_of ts) ts ≡ true) where
  -- a table but `head` is the bytes that were laid out
  pub table_of : (tag : List ℕ) → bytes_eq tag (codes "head") ≡ false → table (as_font (file kind ts)) tag ≡ lookup tag ts
  table_of tag other = table_back kind ts tag is few all fit ∙ found_with_word (word_of kind ts) tag ts ∙ ap (λ b. cond b (option_map (with_adjustment (word_of kind ts)) (lookup tag ts)) (lookup tag ts)) other

  -- `head` has the adjustment put in
  pub head_of : table (as_font (file kind ts)) (codes "head") ≡ option_map (with_adjustment (word_of kind ts)) (lookup (codes "head") ts)
  head_of = table_back kind ts (codes "head") is few all fit ∙ found_with_word (word_of kind ts) (codes "head") ts
