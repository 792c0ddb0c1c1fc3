-- The kept glyphs that the plain functions answer, and the numbers of their font dicts.
use Rattle.std.proofs.Common.{◌≡◌, ℕ, zero, suc, ◌<◌, false, ltb, eqb, List, [], ◌∷◌, length, Some, refl, ap, arith, inl, inr, ◌∙◌, sym}
use Rattle.std.specs.Prelude.{slice_get, slice_index, Ok}
use Rattle.std.specs.Option.{ok_or}
use Rattle.std.specs.List.{AllByRecursion}
use Rattle.std.proofs.lemmas.Bool.{cases_Bool}
use Rattle.std.proofs.lemmas.Option.{none-some, same_Some}
use Rattle.subsetter_base.specs.Bytes.{◌>>=◌}
use Rattle.subsetter_base.specs.Indexes.{index_of}
use Rattle.subsetter_base.specs.declared.error.Error.TheVariants.{MalformedFont}
use Rattle.subsetter_type2.specs.Flat.{flat_form}
use Rattle.subsetter_cff.specs.Read.Cff.{Cff, char_string, is_cid_keyed}
use Rattle.subsetter_cff.specs.Read.FdArray.Private.{Private, private_of}
use Rattle.subsetter_cff.specs.Read.GlyphTrace.{library}
use Rattle.subsetter_cff.specs.Write.Plain.{with_number, KeptGlyph, source_number, kept_glyph, kept_glyphs, used_numbers}
use Rattle.subsetter_cff.proofs.ReadLaws.Results.{bind_ok, same_Ok, some_of, In, in_head, in_tail, in_either}

-- ---- the kept glyphs, one by one
pub record KeptAt (cff : Cff) (tokens depth glyph : ℕ) (kept : List KeptGlyph) (i : ℕ) : Type 0 where
  pub one : KeptGlyph
  pub at : slice_get kept i ≡ Some one
  pub made : kept_glyph cff tokens depth glyph ≡ Ok one

pub kept_steps : (cff : Cff) (tokens depth g : ℕ) (gs : List ℕ) (kept : List KeptGlyph) → kept_glyphs cff tokens depth (g ∷ gs) ≡ Ok kept
    → (first : KeptGlyph) × ((kept_glyph cff tokens depth g ≡ Ok first) × ((rest : List KeptGlyph) × ((kept_glyphs cff tokens depth gs ≡ Ok rest) × (first ∷ rest ≡ kept))))
kept_steps cff tokens depth g gs kept e =
    let s = bind_ok (kept_glyph cff tokens depth g) (λ first. kept_glyphs cff tokens depth gs >>= λ rest. Ok (first ∷ rest)) kept e in
    let t = bind_ok (kept_glyphs cff tokens depth gs) (λ rest. Ok (s.0 ∷ rest)) kept s.1.1 in
    (s.0, (s.1.0, (t.0, (t.1.0, same_Ok _ _ t.1.1))))

pub length-kept : (cff : Cff) (tokens depth : ℕ) (glyphs : List ℕ) (kept : List KeptGlyph) → kept_glyphs cff tokens depth glyphs ≡ Ok kept → length kept ≡ length glyphs
length-kept cff tokens depth [] kept e = ap length (sym (same_Ok _ _ e))
length-kept cff tokens depth (g ∷ gs) kept e =
    let s = kept_steps cff tokens depth g gs kept e in
    ap length (sym s.1.1.1.1) ∙ ap suc (length-kept cff tokens depth gs s.1.1.0 s.1.1.1.0)

pub kept_at : (cff : Cff) (tokens depth : ℕ) (glyphs : List ℕ) (kept : List KeptGlyph) (i : ℕ) → kept_glyphs cff tokens depth glyphs ≡ Ok kept → i < length glyphs
    → KeptAt cff tokens depth (slice_index glyphs i) kept i
kept_at cff tokens depth [] kept i e lt = absurd (omega arith)
kept_at cff tokens depth (g ∷ gs) kept zero e lt =
    let s = kept_steps cff tokens depth g gs kept e in
    record { one = s.0; at = ap (λ (ks : List KeptGlyph). slice_get ks 0) (sym s.1.1.1.1); made = s.1.0 }
kept_at cff tokens depth (g ∷ gs) kept (suc i) e lt =
    let s = kept_steps cff tokens depth g gs kept e in
    let more = kept_at cff tokens depth gs s.1.1.0 i s.1.1.1.0 (omega arith) in
    record { one = more.one; at = ap (λ (ks : List KeptGlyph). slice_get ks (suc i)) (sym s.1.1.1.1) ∙ more.at; made = more.made }

-- ---- the used font dicts
pub in_with : (n : ℕ) (ms : List ℕ) → In (with_number n ms) n
in_with n [] = in_head n []
in_with n (m ∷ ms) =
    elim (cases_Bool (ltb n m)) [
      | inl less ↦ rw less (in_head n (m ∷ ms))
      | inr not_less ↦ rw not_less (elim (cases_Bool (eqb n m)) [
        | inl same ↦ rw same (record { at = 0; is = grind (arith, same) })
        | inr other ↦ rw other (in_tail m (with_number n ms) n (in_with n ms))
      ])
    ]

still_in : (n : ℕ) (ms : List ℕ) (x : ℕ) → In ms x → In (with_number n ms) x
still_in n [] x h = absurd (none-some h.at h.is)
still_in n (m ∷ ms) x h =
    elim (cases_Bool (ltb n m)) [
      | inl less ↦ rw less (in_tail n (m ∷ ms) x h)
      | inr not_less ↦ rw not_less (elim (cases_Bool (eqb n m)) [
        | inl same ↦ rw same h
        | inr other ↦ rw other (elim (in_either m ms x h) [
          | inl is ↦ rw is (in_head x (with_number n ms))
          | inr inside ↦ in_tail m (with_number n ms) x (still_in n ms x inside)
        ])
      ])
    ]

pub in_used : (kept : List KeptGlyph) (i : ℕ) (k : KeptGlyph) → slice_get kept i ≡ Some k → In (used_numbers kept) k.number
in_used [] i k at = absurd (none-some k at)
in_used (l ∷ kept) zero k at = rw (same_Some _ _ at) (in_with k.number (used_numbers kept))
in_used (l ∷ kept) (suc i) k at = still_in l.number (used_numbers kept) k.number (in_used kept i k at)

-- ---- what the steps answered
pub record GlyphSteps (cff : Cff) (tokens depth glyph : ℕ) (k : KeptGlyph) : Type 0 where
  pub number_is : source_number cff glyph ≡ Some k.number
  pub private : Private
  pub private_is : private_of cff glyph ≡ Some private
  pub charstring : List ℕ
  pub charstring_is : char_string cff glyph ≡ Some charstring
  pub flat : flat_form (library cff private) tokens depth charstring ≡ Ok k.bytes

pub glyph_steps : (cff : Cff) (tokens depth glyph : ℕ) (k : KeptGlyph) → kept_glyph cff tokens depth glyph ≡ Ok k → GlyphSteps cff tokens depth glyph k
unfolding kept_glyph
glyph_steps cff tokens depth glyph k e =
    let a = bind_ok (ok_or (source_number cff glyph) MalformedFont) _ k e in
    let b = bind_ok (ok_or (private_of cff glyph) MalformedFont) _ k a.1.1 in
    let c = bind_ok (ok_or (char_string cff glyph) MalformedFont) _ k b.1.1 in
    let d = bind_ok (flat_form (library cff b.0) tokens depth c.0) _ k c.1.1 in
    let same = same_Ok _ _ d.1.1 in
    record {
      number_is = some_of (source_number cff glyph) MalformedFont a.0 a.1.0 ∙ ap (λ (x : KeptGlyph). Some x.number) same;
      private = b.0;
      private_is = some_of (private_of cff glyph) MalformedFont b.0 b.1.0;
      charstring = c.0;
      charstring_is = some_of (char_string cff glyph) MalformedFont c.0 c.1.0;
      flat = d.1.0 ∙ ap (λ (x : KeptGlyph). Ok x.bytes) same;
    }

-- ---- the new number of a glyph's font dict
abbrev pub AllZero : List KeptGlyph → Type 0
AllZero kept = AllByRecursion (λ (k : KeptGlyph). k.number ≡ 0) kept

pub used_of_zeros : (k : KeptGlyph) (kept : List KeptGlyph) → AllZero (k ∷ kept) → used_numbers (k ∷ kept) ≡ 0 ∷ []
used_of_zeros k [] all = rw all.0 refl
used_of_zeros k (l ∷ kept) all = rw (used_of_zeros l kept all.1, all.0) refl

zero_number : (kept : List KeptGlyph) (i : ℕ) (k : KeptGlyph) → AllZero kept → slice_get kept i ≡ Some k → k.number ≡ 0
zero_number [] i k all at = absurd (none-some k at)
zero_number (l ∷ kept) zero k all at = ap (λ (x : KeptGlyph). x.number) (sym (same_Some _ _ at)) ∙ all.0
zero_number (l ∷ kept) (suc i) k all at = zero_number kept i k all.1 at

pub zero_first : (k : KeptGlyph) (kept : List KeptGlyph) (i : ℕ) → AllZero kept → slice_get kept i ≡ Some k → index_of (used_numbers kept) k.number ≡ Some 0
zero_first k [] i all at = absurd (none-some k at)
zero_first k (l ∷ kept) i all at = rw (used_of_zeros l kept all, zero_number (l ∷ kept) i k all at) refl

pub zeros : (cff : Cff) (tokens depth : ℕ) (glyphs : List ℕ) (kept : List KeptGlyph) → is_cid_keyed cff ≡ false → kept_glyphs cff tokens depth glyphs ≡ Ok kept → AllZero kept
zeros cff tokens depth [] kept sid e = rw (← same_Ok _ _ e) tt
zeros cff tokens depth (g ∷ gs) kept sid e =
    let s = kept_steps cff tokens depth g gs kept e in
    let first = glyph_steps cff tokens depth g s.0 s.1.0 in
    rw (← s.1.1.1.1) (sym (same_Some _ _ (rw sid at first.number_is)), zeros cff tokens depth gs s.1.1.0 sid s.1.1.1.0)
