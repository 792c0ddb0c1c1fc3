-- The y of each glyph, as the records of "VORG" are read one by one.
use Rattle.std.proofs.Common.{◌≡◌, ℕ, suc, ◌+◌, ◌-◌, ◌<◌, ◌≤◌, cond, List, length, get_or, replicate, zero, Option, Some, None, refl, sym, ap, ◌∙◌, inl, inr, ℤ, arith}
use Rattle.std.specs.Option.{option_or}
use Rattle.std.proofs.lemmas.Bool.{cases_eq, eq-eqb, ne_eqb}
use Rattle.std.proofs.lemmas.List.{get_or-set_same, get_or-set_other}
use Rattle.subsetter_base.specs.Indexes.{index_of, IsWithoutRepeats}
use Rattle.subsetter_base.proofs.GlyphLemmas.{index-finds}
use Rattle.subsetter_base.proofs.Options.{just_is, some_not_none}
use Rattle.pdf_glyphs.specs.Origins.{filled}
use Rattle.pdf_glyphs.specs.Vertical.{Origin, by_record, origin_at, origin_from}

-- a record of another glyph says nothing
other_glyph : (o : Origin) (g : ℕ) (later : Option ℤ) → (o.glyph ≡ g → ⊥) → by_record (Some o) g later ≡ later
other_glyph o g later ne = ap (λ b. cond b (Some o.y) later) (ne_eqb o.glyph g ne)

same_glyph : (o : Origin) (g : ℕ) (later : Option ℤ) → o.glyph ≡ g → by_record (Some o) g later ≡ Some o.y
same_glyph o g later e = ap (λ b. cond b (Some o.y) later) (eq-eqb o.glyph g e)

first_of : (v : Option ℤ) (y : ℤ) (later : Option ℤ) → option_or (option_or v (Some y)) later ≡ option_or v (Some y)
first_of None y later = refl
first_of (Some x) y later = refl

-- where a glyph's number is, within the list
pub y_place : (mapper : List ℕ) (g n : ℕ) (found : Option ℕ) → found ≡ Some n → found ≡ index_of mapper g → n < length mapper
y_place mapper g n found some is = (index-finds mapper g n (sym is ∙ some)).0

module _ (mapper : List ℕ) (once : IsWithoutRepeats mapper) (o : Origin) where
  other_place : (n k : ℕ) → index_of mapper o.glyph ≡ Some n → (k ≡ n → ⊥) → k < length mapper → o.glyph ≡ get_or mapper k 0 → ⊥
  other_place n k found ne lt e = ne (just_is k n (sym (once k lt) ∙ ap (index_of mapper) (sym e) ∙ found))

  absent : (k : ℕ) → index_of mapper o.glyph ≡ None → k < length mapper → o.glyph ≡ get_or mapper k 0 → ⊥
  absent k found lt e = some_not_none (index_of mapper o.glyph) k (ap (index_of mapper) e ∙ once k lt) found

  -- the glyph has no number
  pub y_passed : (ys : List (Option ℤ)) (k : ℕ) (later : Option ℤ) → index_of mapper o.glyph ≡ None → k < length mapper → option_or (get_or ys k None) later ≡ option_or (get_or ys k None) (by_record (Some o) (get_or mapper k 0) later)
  y_passed ys k later found lt = ap (option_or (get_or ys k None)) (sym (other_glyph o (get_or mapper k 0) later (absent k found lt)))

  -- its y is noted, unless an earlier record has one
  pub y_put : (ys : List (Option ℤ)) (n k : ℕ) (later : Option ℤ) → index_of mapper o.glyph ≡ Some n → length ys ≡ length mapper → k < length mapper → option_or (get_or (filled ys n o.y) k None) later ≡ option_or (get_or ys k None) (by_record (Some o) (get_or mapper k 0) later)
  y_put ys n k later found len lt =
      let there = index-finds mapper o.glyph n found in
      let v : Option ℤ = get_or ys n None in
      elim (cases_eq k n) [
        | inl e ↦
            ap (λ (j : ℕ). option_or (get_or (filled ys n o.y) j None) later) e
            ∙ ap (λ (w : Option ℤ). option_or w later) (get_or-set_same ys n (option_or v (Some o.y)) None (omega (arith, there.0, len)))
            ∙ first_of v o.y later
            ∙ sym (ap (λ (j : ℕ). option_or (get_or ys j None) (by_record (Some o) (get_or mapper j 0) later)) e
            ∙ ap (option_or v) (same_glyph o (get_or mapper n 0) later (sym there.1)))
        | inr ne ↦
            ap (λ (w : Option ℤ). option_or w later) (get_or-set_other ys n k (option_or v (Some o.y)) None ne)
            ∙ ap (option_or (get_or ys k None)) (sym (other_glyph o (get_or mapper k 0) later (other_place n k found ne lt)))
      ]

-- it is noted at this number
pub y_noted : (ys now : List (Option ℤ)) (n m : ℕ) (y z : ℤ) → now ≡ filled ys m z → m ≡ n → z ≡ y → now ≡ filled ys n y
y_noted ys now n m y z is number same = is ∙ ap (λ (k : ℕ). filled ys k z) number ∙ ap (filled ys n) same

-- ---- one record more

left : (n i : ℕ) → i < n → n - i ≡ suc (n - (i + 1))
left n i h = omega arith

pub origin_next : (vorg : Option (List ℕ)) (o : Option Origin) (n i g : ℕ) (was now total : Option ℤ) → i < n → origin_at vorg i ≡ o
    → ((later : Option ℤ) → option_or now later ≡ option_or was (by_record o g later))
    → option_or was (origin_from vorg i (n - i) g) ≡ total → option_or now (origin_from vorg (i + 1) (n - (i + 1)) g) ≡ total
origin_next vorg o n i g was now total lt is step h =
    step (origin_from vorg (i + 1) (n - (i + 1)) g)
    ∙ ap (λ (r : Option Origin). option_or was (by_record r g (origin_from vorg (i + 1) (n - (i + 1)) g))) (sym is)
    ∙ ap (λ (m : ℕ). option_or was (origin_from vorg i m g)) (sym (left n i lt))
    ∙ h

-- ---- before the first record, and after the last one

nothing : (n k : ℕ) → get_or (replicate {A = Option ℤ} n None) k None ≡ None
nothing zero k = refl
nothing (suc n) zero = refl
nothing (suc n) (suc k) = nothing n k

pub origin_begun : (n k : ℕ) (later : Option ℤ) → option_or (get_or (replicate {A = Option ℤ} n None) k None) later ≡ later
origin_begun n k later = ap (λ (v : Option ℤ). option_or v later) (nothing n k)

none_later : (v : Option ℤ) → option_or v None ≡ v
none_later None = refl
none_later (Some y) = refl

pub origin_done : (vorg : Option (List ℕ)) (n i g : ℕ) (was total : Option ℤ) → n ≤ i → option_or was (origin_from vorg i (n - i) g) ≡ total → was ≡ total
origin_done vorg n i g was total past is =
    let none : n - i ≡ 0 = omega (arith, past) in
    sym (none_later was) ∙ sym (ap (λ (m : ℕ). option_or was (origin_from vorg i m g)) none) ∙ is
