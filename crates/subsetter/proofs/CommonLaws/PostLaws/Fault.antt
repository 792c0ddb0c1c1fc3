-- A `post` that is refused has a fault of the error's name.
use Rattle.std.proofs.Common.{◌≡◌, ℕ, zero, suc, ◌+◌, ◌*◌, ◌<◌, ◌≤◌, Bool, true, false, cond, ltb, leb, eqb, List, [], ◌∷◌, length, drop, Option, Some, None, Ok, Err, refl, sym, ap, subst, ◌∙◌, inl, inr, arith}
use Rattle.std.specs.Prelude.{codes, map, Contains}
use Rattle.std.specs.Option.{option_and_then, ok_or}
use Rattle.std.specs.List.{AllByRecursion}
use Rattle.std.proofs.lemmas.Bool.{ltb-true, ltb-false, leb-false, eqb-true}
use Rattle.subsetter_base.specs.Bytes.{be, range, number, ◌>>=◌, from_offset}
use Rattle.subsetter_base.specs.Indexes.{IsWithoutRepeats}
use Rattle.subsetter_base.specs.declared.error.Error.{Error}
use Rattle.subsetter_base.specs.declared.error.Error.TheVariants.{MalformedFont, OverflowError}
use Rattle.subsetter_base.proofs.GlyphLemmas.{IsDistinct-indexes}
use Rattle.subsetter_base.proofs.ByteLemmas.{range-fits, range-length, range-take_drop, number-short, range-short}
use Rattle.subsetter_base.proofs.Results.{bind_err, named_ok, named_err}
use Rattle.subsetter.specs.Common.Post.Read.{PostTable, names_in, post_parts, post_table, glyph_index, name_of_index, post_bytes}
use Rattle.subsetter.specs.Common.Post.Plain.{indexes_of, custom_count, post_of_indexes, subset_glyph_names, post_of_table, new_post, post_of}
use Rattle.subsetter.specs.Common.Post.Fault.{HasOwnName, HasGlyphNameFault}
use Rattle.subsetter_base.proofs.Options.{just_is}
use Rattle.subsetter.specs.Common.Post.Fault as faults
use Rattle.subsetter.proofs.CommonLaws.PostLaws.Own.{first_missing, owned, owned_counted, all_owned, owned_distinct, IsOwn, each_own, own_name}
use Rattle.subsetter.proofs.CommonLaws.PostLaws.Answer.{beyond}

-- ---- what is refused has a fault

tail_short : (bytes : List ℕ) (at : ℕ) → from_offset bytes at ≡ None → length bytes < at
tail_short bytes at h = by (leb at (length bytes)) refl h
  where
    by : (b : Bool) → leb at (length bytes) ≡ b → cond b (Some (drop at bytes)) None ≡ None → length bytes < at
    by true t k = absurd cc
    by false t k = leb-false at (length bytes) t

-- where the parts end too early
pub data CutPost (bytes : List ℕ) : Type 0 where
  cut_header : length bytes < 32 → CutPost bytes
  cut_count : length bytes < 34 → CutPost bytes
  cut_indexes : (count : ℕ) → number bytes 32 2 ≡ Some count → length bytes < 34 + count * 2 → CutPost bytes

abbrev whole : List ℕ → ℕ → List ℕ → List ℕ → Option PostTable
whole header count indexes names = Some (record { header = header; indexes = record { bytes = indexes; count = count }; names_data = names })

cut_parts : (bytes : List ℕ) → post_parts bytes ≡ None → CutPost bytes
cut_parts bytes h = header (range bytes 0 32) refl h
  where
    rest : (header : List ℕ) (count : ℕ) (indexes : List ℕ) → number bytes 32 2 ≡ Some count → (o : Option (List ℕ)) → from_offset bytes (34 + count * 2) ≡ o → option_and_then (λ (names : List ℕ). whole header count indexes names) o ≡ None → CutPost bytes
    rest header count indexes n None e k = cut_indexes count n (omega (arith, tail_short bytes (34 + count * 2) e))
    rest header count indexes n (Some x) e k = absurd cc

    indexes : (header : List ℕ) (count : ℕ) → number bytes 32 2 ≡ Some count → (o : Option (List ℕ)) → range bytes 34 (count * 2) ≡ o → option_and_then (λ (indexes : List ℕ). option_and_then (λ (names : List ℕ). whole header count indexes names) (from_offset bytes (34 + count * 2))) o ≡ None → CutPost bytes
    indexes header count n None e k = cut_indexes count n (range-short bytes 34 (count * 2) e)
    indexes header count n (Some x) e k = rest header count x n (from_offset bytes (34 + count * 2)) refl k

    counted : (header : List ℕ) (o : Option ℕ) → number bytes 32 2 ≡ o → option_and_then (λ count. option_and_then (λ (indexes : List ℕ). option_and_then (λ (names : List ℕ). whole header count indexes names) (from_offset bytes (34 + count * 2))) (range bytes 34 (count * 2))) o ≡ None → CutPost bytes
    counted header None e k = cut_count (number-short bytes 32 2 e)
    counted header (Some count) e k = indexes header count e (range bytes 34 (count * 2)) refl k

    header : (o : Option (List ℕ)) → range bytes 0 32 ≡ o → option_and_then (λ (header : List ℕ). option_and_then (λ count. option_and_then (λ (indexes : List ℕ). option_and_then (λ (names : List ℕ). whole header count indexes names) (from_offset bytes (34 + count * 2))) (range bytes 34 (count * 2))) (number bytes 32 2)) o ≡ None → CutPost bytes
    header None e k = cut_header (range-short bytes 0 32 e)
    header (Some x) e k = counted x (number bytes 32 2) refl k

-- a table of version 2.0 that can't be read
unread : (find : List ℕ → Option (List ℕ)) (reached : ℕ → Type 0) (bytes : List ℕ) → find (codes "post") ≡ Some bytes → number bytes 0 4 ≡ Some 0x00020000 → post_table bytes ≡ None → HasGlyphNameFault find reached MalformedFont
unfolding post_table
unread find reached bytes is v h = by (cut_parts bytes (sym (ap (option_and_then (λ version. cond (eqb version 0x00020000) (post_parts bytes) None)) v) ∙ h))
  where
    by : CutPost bytes → HasGlyphNameFault find reached MalformedFont
    by (cut_header lt) = faults.short_header bytes is v lt
    by (cut_count lt) = faults.count_cut bytes is v lt
    by (cut_indexes count n lt) = faults.indexes_cut bytes count is v n lt

-- what a table that can be read says
pub record PostRead (bytes : List ℕ) (t : PostTable) : Type 0 where
  pub count : number bytes 32 2 ≡ Some t.indexes.count
  pub long : 34 + t.indexes.count * 2 ≤ length bytes
  pub indexes : range bytes 34 (t.indexes.count * 2) ≡ Some t.indexes.bytes

read_parts : (bytes : List ℕ) (t : PostTable) → post_parts bytes ≡ Some t → PostRead bytes t
read_parts bytes t h = header (range bytes 0 32) refl h
  where
    rest : (header : List ℕ) (count : ℕ) (indexes : List ℕ) → number bytes 32 2 ≡ Some count → range bytes 34 (count * 2) ≡ Some indexes → (o : Option (List ℕ)) → option_and_then (λ (names : List ℕ). whole header count indexes names) o ≡ Some t → PostRead bytes t
    rest header count indexes n r None k = absurd cc
    rest header count indexes n r (Some x) k =
        subst (PostRead bytes) (just_is (record { header = header; indexes = record { bytes = indexes; count = count }; names_data = x }) t k)
        (record { count = n; long = omega (arith, range-fits bytes indexes 34 (count * 2) r); indexes = r })

    indexes : (header : List ℕ) (count : ℕ) → number bytes 32 2 ≡ Some count → (o : Option (List ℕ)) → range bytes 34 (count * 2) ≡ o → option_and_then (λ (indexes : List ℕ). option_and_then (λ (names : List ℕ). whole header count indexes names) (from_offset bytes (34 + count * 2))) o ≡ Some t → PostRead bytes t
    indexes header count n None e k = absurd cc
    indexes header count n (Some x) e k = rest header count x n e (from_offset bytes (34 + count * 2)) k

    counted : (header : List ℕ) (o : Option ℕ) → number bytes 32 2 ≡ o → option_and_then (λ count. option_and_then (λ (indexes : List ℕ). option_and_then (λ (names : List ℕ). whole header count indexes names) (from_offset bytes (34 + count * 2))) (range bytes 34 (count * 2))) o ≡ Some t → PostRead bytes t
    counted header None e k = absurd cc
    counted header (Some count) e k = indexes header count e (range bytes 34 (count * 2)) refl k

    header : (o : Option (List ℕ)) → range bytes 0 32 ≡ o → option_and_then (λ (header : List ℕ). option_and_then (λ count. option_and_then (λ (indexes : List ℕ). option_and_then (λ (names : List ℕ). whole header count indexes names) (from_offset bytes (34 + count * 2))) (range bytes 34 (count * 2))) (number bytes 32 2)) o ≡ Some t → PostRead bytes t
    header None e k = absurd cc
    header (Some x) e k = counted x (number bytes 32 2) refl k

pub read_table : (bytes : List ℕ) (t : PostTable) → number bytes 0 4 ≡ Some 0x00020000 → post_table bytes ≡ Some t → PostRead bytes t
unfolding post_table
read_table bytes t v h = read_parts bytes t (sym (ap (option_and_then (λ version. cond (eqb version 0x00020000) (post_parts bytes) None)) v) ∙ h)

-- a glyph without an index is past their count
past_count : (bytes : List ℕ) (t : PostTable) (g : ℕ) → PostRead bytes t → glyph_index t g ≡ None → t.indexes.count ≤ g
past_count bytes t g r h = by (ltb g t.indexes.count) refl h
  where
    len : length t.indexes.bytes ≡ t.indexes.count * 2
    len = range-length bytes t.indexes.bytes 34 (t.indexes.count * 2) r.indexes

    by : (b : Bool) → ltb g t.indexes.count ≡ b → option_and_then (λ x. Some (be x)) (cond b (range t.indexes.bytes (g * 2) 2) None) ≡ None → t.indexes.count ≤ g
    by true e k = absurd (let lt = ltb-true g t.indexes.count e in let there = range-take_drop t.indexes.bytes (g * 2) 2 (omega (arith, len, lt)) in let both = sym k ∙ ap (option_and_then (λ x. Some (be x))) there in cc)
    by false e k = ltb-false g t.indexes.count e

-- what holds of the members holds of each
all_members : (xs : List ℕ) (P : ℕ → Type 0) → ((g : ℕ) → Contains xs g → P g) → AllByRecursion P xs
all_members [] P f = tt
all_members (x ∷ xs) P f = (f x (0, omega arith, refl), all_members xs P (λ g c. f g (suc c.0, omega (arith, c.1), c.2)))

pub each_member : (xs : List ℕ) (P : ℕ → Type 0) → AllByRecursion P xs → (g : ℕ) → Contains xs g → P g
each_member [] P h g c = absurd (omega (arith, c.1))
each_member (x ∷ xs) P h g (zero, lt, e) = subst P e h.0
each_member (x ∷ xs) P h g (suc k, lt, e) = each_member xs P h.1 g (k, omega arith, e)

-- too many names
too_many : (find : List ℕ → Option (List ℕ)) (bytes order is : List ℕ) (t : PostTable) → find (codes "post") ≡ Some bytes → number bytes 0 4 ≡ Some 0x00020000 → IsWithoutRepeats order → post_table bytes ≡ Some t → indexes_of t order ≡ Ok is → 65278 < custom_count is → HasGlyphNameFault find (Contains order) OverflowError
too_many find bytes order is t there v once read are lt =
    faults.many_own_names bytes (owned order is) there v (owned_distinct order is (IsDistinct-indexes order once))
    (both_all (owned order is) (all_owned (Contains order) order is (all_members order (Contains order) (λ g c. c))) (all_named (owned order is) (each_own t order is are)))
    (omega (arith, lt, owned_counted t order is are))
  where
    all_named : (gs : List ℕ) → AllByRecursion (IsOwn t) gs → AllByRecursion (HasOwnName bytes) gs
    all_named [] h = tt
    all_named (g ∷ gs) h = (own_name bytes t read g h.0, all_named gs h.1)

    both_all : (gs : List ℕ) → AllByRecursion (Contains order) gs → AllByRecursion (HasOwnName bytes) gs → AllByRecursion (λ g. Contains order g × HasOwnName bytes g) gs
    both_all [] a b = tt
    both_all (g ∷ gs) a b = ((a.0, b.0), both_all gs a.1 b.1)

refused_table : (find : List ℕ → Option (List ℕ)) (bytes order : List ℕ) (e : Error) → find (codes "post") ≡ Some bytes → number bytes 0 4 ≡ Some 0x00020000 → IsWithoutRepeats order → (ok_or (post_table bytes) MalformedFont >>= λ t. subset_glyph_names t order) ≡ Err e → HasGlyphNameFault find (Contains order) e
unfolding subset_glyph_names post_of_indexes
refused_table find bytes order e there v once h =
    elim (bind_err (ok_or (post_table bytes) MalformedFont) (λ t. indexes_of t order >>= λ is. post_of_indexes t is) e h) [
      | inl k ↦ let n = named_err (post_table bytes) MalformedFont e k in subst (HasGlyphNameFault find (Contains order)) n.1 (unread find (Contains order) bytes there v n.0)
      | inr a ↦
          let read = named_ok (post_table bytes) MalformedFont a.0 a.1 in
          elim (bind_err (indexes_of a.0 order) (λ is. post_of_indexes a.0 is) e a.2) [
            | inl k ↦ let m = first_missing a.0 order e k in let r = read_table bytes a.0 v read in subst (HasGlyphNameFault find (Contains order)) m.0 (faults.no_index bytes a.0.indexes.count m.1.0 there v r.count m.1.1 (past_count bytes a.0 m.1.0 r m.1.2))
            | inr b ↦ let c = beyond (leb (custom_count b.0) 65278) (post_bytes a.0.header (map (name_of_index (names_in a.0.names_data)) b.0)) e b.2 in
                subst (HasGlyphNameFault find (Contains order)) c.1 (too_many find bytes order b.0 a.0 there v once read b.1 (leb-false (custom_count b.0) 65278 c.0))
          ]
    ]

refused_bytes : (find : List ℕ → Option (List ℕ)) (bytes order : List ℕ) (e : Error) → find (codes "post") ≡ Some bytes → IsWithoutRepeats order → post_of_table bytes order ≡ Err e → HasGlyphNameFault find (Contains order) e
unfolding post_of_table
refused_bytes find bytes order e there once h =
    elim (bind_err (ok_or (number bytes 0 4) MalformedFont) (λ v. cond (eqb v 0x00020000) (ok_or (post_table bytes) MalformedFont >>= λ t. subset_glyph_names t order) (Ok bytes)) e h) [
      | inl k ↦ let n = named_err (number bytes 0 4) MalformedFont e k in subst (HasGlyphNameFault find (Contains order)) n.1 (faults.short_post bytes there (number-short bytes 0 4 n.0))
      | inr a ↦ by a.0 (named_ok (number bytes 0 4) MalformedFont a.0 a.1) (eqb a.0 0x00020000) refl a.2
    ]
  where
    by : (v : ℕ) → number bytes 0 4 ≡ Some v → (b : Bool) → eqb v 0x00020000 ≡ b → cond b (ok_or (post_table bytes) MalformedFont >>= λ t. subset_glyph_names t order) (Ok bytes) ≡ Err e → HasGlyphNameFault find (Contains order) e
    by v is true t k = refused_table find bytes order e there (is ∙ ap (λ (n : ℕ). Some n) (eqb-true v 0x00020000 t)) once k
    by v is false t k = absurd cc

pub post_refused : (find : List ℕ → Option (List ℕ)) (order : List ℕ) (e : Error) → IsWithoutRepeats order → post_of find order ≡ Err e → HasGlyphNameFault find (Contains order) e
unfolding new_post
post_refused find order e once h = by (find (codes "post")) refl h
  where
    by : (o : Option (List ℕ)) → find (codes "post") ≡ o → new_post o order ≡ Err e → HasGlyphNameFault find (Contains order) e
    by None is k = absurd cc
    by (Some x) is k = elim (bind_err (post_of_table x order) (λ n. Ok (Some n)) e k) [
      | inl r ↦ refused_bytes find x order e is once r
      | inr a ↦ absurd (let z = a.2 in cc)
    ]
