-- Where the codes of entries lead: to their CIDs.
use Rattle.std.proofs.Common.{◌≡◌, ℕ, zero, suc, ◌<◌, true, eqb, List, [], ◌∷◌, length, get_or, Some, None, refl, sym, ap, ◌∙◌, inl, inr, arith}
use Rattle.std.proofs.lemmas.Bool.{cases_eq, eqb-true}
use Rattle.std.proofs.lemmas.List.{length-map}
use Rattle.subsetter_base.specs.Indexes.{index_of, with_glyphs}
use Rattle.subsetter_base.proofs.Lists.{and_parts}
use Rattle.subsetter_base.proofs.Options.{just_is}
use Rattle.pdf_codes.specs.declared.codes.Codes.{Codes}
use Rattle.pdf_codes.specs.declared.codes.Codes.TheVariants.{Consecutive}
use Rattle.pdf_codes.specs.Codes.{Used, AreCids, AreCodes, glyph_at, glyphs_of}
use Rattle.pdf_codes.specs.Cmaps.Leading.{AreLed, are_cids, cid_in, cid_of, pairs_with, zipped}
use Rattle.pdf_codes.proofs.CodeLaws.{as_many_codes, found_at, one_glyph, zero_glyph}
use Rattle.pdf_codes.proofs.CmapsLaws.LeadingSteps.{cid_other, cid_same}
use Rattle.pdf_codes.proofs.StayLaws.{glyph_stays}

-- entries of one code have one CID, and those of code 0 have CID 0
pub record HaveOneCid (codes cids : List ℕ) : Type 0 where
  pub as_many : length codes ≡ length cids
  pub one : (i j : ℕ) → i < length codes → j < length codes → get_or codes i 0 ≡ get_or codes j 0 → get_or cids i 0 ≡ get_or cids j 0
  pub zeroth : (i : ℕ) → i < length codes → get_or codes i 0 ≡ 0 → get_or cids i 0 ≡ 0

cid_found : (us : List Used) (cids : List ℕ) → AreCids us cids → (i : ℕ) → i < length us → index_of (with_glyphs (0 ∷ []) (glyphs_of us)) (glyph_at us i) ≡ Some (get_or cids i 0)
cid_found us cids h i lt = found_at (index_of (with_glyphs (0 ∷ []) (glyphs_of us))) (glyphs_of us) cids 0 h i (omega (arith, length-map us (λ (u : Used). u.glyph)))

zero_found : (gs : List ℕ) → index_of (with_glyphs (0 ∷ []) gs) 0 ≡ Some 0
zero_found gs = glyph_stays gs (0 ∷ []) 0 0 refl

pub one_cid : (choice : Codes) (us : List Used) (codes cids : List ℕ) → AreCodes choice us codes → AreCids us cids → HaveOneCid codes cids
one_cid choice us codes cids h k =
    let many : length codes ≡ length us = as_many_codes choice us codes h in
    let as_many : length cids ≡ length us = as_many_codes Consecutive us cids k in
    record {
      as_many = many ∙ sym as_many;
      one = λ i j a b e.
          let a' : i < length us = omega (arith, a, many) in
          let b' : j < length us = omega (arith, b, many) in
          let same : glyph_at us i ≡ glyph_at us j = one_glyph choice us codes h i j a' b' e in
          just_is (get_or cids i 0) (get_or cids j 0) (sym (cid_found us cids k i a') ∙ ap (index_of (with_glyphs (0 ∷ []) (glyphs_of us))) same ∙ cid_found us cids k j b');
      zeroth = λ i a e.
          let a' : i < length us = omega (arith, a, many) in
          let zero_is : glyph_at us i ≡ 0 = zero_glyph choice us codes h i a' e in
          just_is (get_or cids i 0) 0 (sym (cid_found us cids k i a') ∙ ap (index_of (with_glyphs (0 ∷ []) (glyphs_of us))) zero_is ∙ zero_found (glyphs_of us));
    }

-- ---- by the pairs

led_zipped : (codes cids : List ℕ) → length codes ≡ length cids → (c n : ℕ) → ((j : ℕ) → j < length codes → get_or codes j 0 ≡ c → get_or cids j 0 ≡ n) → (i : ℕ) → i < length codes → get_or codes i 0 ≡ c → cid_of (zipped codes cids) c ≡ Some n
led_zipped [] cids many c n h i lt e = absurd (omega arith)
led_zipped (k ∷ ks) [] many c n h i lt e = absurd (omega arith)
led_zipped (k ∷ ks) (d ∷ ds) many c n h zero lt e = cid_same (record { code = k; cid = d }) (zipped ks ds) c e ∙ ap Some (h 0 (omega arith) e)
led_zipped (k ∷ ks) (d ∷ ds) many c n h (suc i) lt e = elim (cases_eq k c) [
  | inl same ↦ cid_same (record { code = k; cid = d }) (zipped ks ds) c same ∙ ap Some (h 0 (omega arith) same)
  | inr ne ↦ cid_other (record { code = k; cid = d }) (zipped ks ds) c ne ∙ led_zipped ks ds (omega (arith, many)) c n (λ j lj f. h (suc j) (omega (arith, lj)) f) i (omega (arith, lt)) e
]

pub led : (codes cids : List ℕ) → HaveOneCid codes cids → (i : ℕ) → i < length codes → cid_of (pairs_with codes cids) (get_or codes i 0) ≡ Some (get_or cids i 0)
led codes cids h i lt = elim (cases_eq 0 (get_or codes i 0)) [
  | inl e ↦ cid_same (record { code = 0; cid = 0 }) (zipped codes cids) (get_or codes i 0) e ∙ ap Some (sym (h.zeroth i lt (sym e)))
  | inr ne ↦ cid_other (record { code = 0; cid = 0 }) (zipped codes cids) (get_or codes i 0) ne
      ∙ led_zipped codes cids h.as_many (get_or codes i 0) (get_or cids i 0) (λ j lj e. h.one j i lj lt e) i lt refl
]

same_zipped : (codes cids : List ℕ) → length codes ≡ length cids → are_cids (zipped codes cids) ≡ true → (i : ℕ) → i < length codes → get_or codes i 0 ≡ get_or cids i 0
same_zipped [] cids many h i lt = absurd (omega arith)
same_zipped (k ∷ ks) [] many h i lt = absurd (omega arith)
same_zipped (k ∷ ks) (d ∷ ds) many h zero lt = eqb-true k d (and_parts (eqb k d) (are_cids (zipped ks ds)) h).0
same_zipped (k ∷ ks) (d ∷ ds) many h (suc i) lt = same_zipped ks ds (omega (arith, many)) (and_parts (eqb k d) (are_cids (zipped ks ds)) h).1 i (omega (arith, lt))

-- ---- the law

-- without a CMap, where each code is its CID
pub led_alone : (choice : Codes) (us : List Used) (codes cids : List ℕ) → are_cids (pairs_with codes cids) ≡ true → AreCodes choice us codes → AreCids us cids → AreLed None codes cids
led_alone choice us codes cids are h k =
    let one = one_cid choice us codes cids h k in
    record {
      zeroth = refl;
      each = λ i lt. ap Some (same_zipped codes cids one.as_many are i lt);
    }

-- by a CMap
pub led_by_cmap : (choice : Codes) (us : List Used) (codes cids cmap : List ℕ) → ((k : ℕ) → cid_in cmap k ≡ cid_of (pairs_with codes cids) k) → AreCodes choice us codes → AreCids us cids → AreLed (Some cmap) codes cids
led_by_cmap choice us codes cids cmap read h k =
    let one = one_cid choice us codes cids h k in
    record {
      zeroth = read 0;
      each = λ i lt. read (get_or codes i 0) ∙ led codes cids one i lt;
    }
