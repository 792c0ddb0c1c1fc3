-- The codes of glyphs in use (ISO 32000-1, 9.7.6.2).
use Rattle.std.specs.Prelude.{◌≡◌, ◌<◌, ℕ, Bool, ◌==◌, ◌&&◌, nat_eq, if◌then◌else◌, List, [], ◌∷◌, map, length, get_or}
use Rattle.std.specs.Prelude.{Some}
use Rattle.std.specs.Cmp.Lexicographic.{pointwise}
use Rattle.subsetter_base.specs.Indexes.{index_of, with_glyphs, HasAllAboveZero}
use Rattle.subsetter_base.specs.Remap.{index_by, with_value}
use Rattle.pdf_text.specs.Cmaps.Cmap.{Line}
use Rattle.pdf_codes.specs.declared.codes.Codes.{Codes}
use Rattle.pdf_codes.specs.declared.codes.Codes.TheVariants.{Consecutive, Source, EachText}
use Rattle.pdf_codes.specs.declared.codes.Entry.{Entry}

-- a glyph in use, and the UTF-16 units of its text
pub record Used : Type 0 where
  pub glyph : ℕ
  pub units : List ℕ

abbrev pub used_of : Entry → Used
used_of e = record { glyph = e.glyph; units = e.units.now }

abbrev pub glyphs_of : List Used → List ℕ
glyphs_of us = map (λ u. u.glyph) us

-- a use of a glyph with its text; glyph 0 has none
abbrev pub keyed : Used → Used
keyed u = if u.glyph == 0 then record { glyph = 0; units = [] } else u

-- whether both have the same glyph and the same text
abbrev pub same : Used → Used → Bool
same a b = a.glyph == b.glyph && pointwise nat_eq a.units b.units

-- a list with each pair of a glyph and a text that isn't there, in order
abbrev pub with_pairs : List Used → List Used → List Used
with_pairs pairs [] = pairs
with_pairs pairs (u ∷ us) = with_pairs (with_value same pairs u) us

-- glyph 0, and each pair in order of use, once
abbrev pub pairs_of : List Used → List Used
pairs_of us = with_pairs (record { glyph = 0; units = [] } ∷ []) (map keyed us)

-- The codes: the new numbers of the glyphs, which are 0 for glyph 0 and consecutive in order of use; the source's
-- numbers; or the places of the pairs of a glyph and a text
abbrev pub AreCodes : Codes → List Used → List ℕ → Type 0
AreCodes Consecutive us codes = map Some codes ≡ map (index_of (with_glyphs (0 ∷ []) (glyphs_of us))) (glyphs_of us)
AreCodes Source us codes = codes ≡ glyphs_of us
AreCodes EachText us codes = map Some codes ≡ map (index_by same (pairs_of us)) (map keyed us)

-- no code is left: all glyphs above 0 are in use, or more than 65,535 pairs, glyph 0 with no text among them
abbrev pub IsOverfull : Codes → List Used → Type 0
IsOverfull Consecutive us = HasAllAboveZero (glyphs_of us)
IsOverfull Source us = ⊥
IsOverfull EachText us = 65535 < length (pairs_of us)

-- the CIDs: the new numbers of the glyphs
abbrev pub AreCids : List Used → List ℕ → Type 0
AreCids us cids = map Some cids ≡ map (index_of (with_glyphs (0 ∷ []) (glyphs_of us))) (glyphs_of us)

-- the glyph of an entry
abbrev pub glyph_at : List Used → ℕ → ℕ
glyph_at us i = get_or (glyphs_of us) i 0

-- entries of one code have one glyph
abbrev pub HaveOneGlyph : List Used → List ℕ → Type 0
HaveOneGlyph us codes =
    (i j : ℕ) → i < length us → j < length us → get_or codes i 0 ≡ get_or codes j 0 → glyph_at us i ≡ glyph_at us j

-- code 0 is that of glyph 0
abbrev pub HasZerothGlyph : List Used → List ℕ → Type 0
HasZerothGlyph us codes = (i : ℕ) → i < length us → get_or codes i 0 ≡ 0 → glyph_at us i ≡ 0

-- each code with its text
abbrev pub coded : List Used → List ℕ → List Line
coded (u ∷ us) (c ∷ cs) = record { code = c; units = (keyed u).units } ∷ coded us cs
coded [] cs = []
coded us [] = []
