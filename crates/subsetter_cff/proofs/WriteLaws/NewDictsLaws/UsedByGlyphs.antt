-- The used font dicts are those of kept glyphs, and the font dicts of all kept glyphs are used.
use Rattle.std.proofs.Common.{◌≡◌, ℕ, true, eqb, ltb, List, [], ◌∷◌, Some, refl, ap, inl, inr}
use Rattle.std.specs.Prelude.{Contains, Ok}
use Rattle.std.specs.List.{AllByRecursion}
use Rattle.std.proofs.lemmas.Bool.{cases_Bool}
use Rattle.subsetter_cffdata.specs.Dicts.Dict.{Entry}
use Rattle.subsetter_cff.specs.Read.Cff.{Cff, is_cid_keyed}
use Rattle.subsetter_cff.specs.Read.FdArray.FontDicts.{font_dict_number, font_dict_of}
use Rattle.subsetter_cff.specs.Read.FdArray.Private.{Private, private_at, private_of}
use Rattle.subsetter_cff.specs.Write.Refusals.LimitFault.{dict_number, dict_numbers}
use Rattle.subsetter_cff.specs.Write.Plain.{with_number, KeptGlyph, kept_glyph, kept_glyphs, used_numbers}
use Rattle.subsetter_cffdata.proofs.Options.{step}
use Rattle.subsetter_cff.proofs.ReadLaws.Results.{same_Ok}
use Rattle.subsetter_cff.proofs.ReadLaws.Refusals.{here, there}
use Rattle.subsetter_cff.proofs.WriteLaws.GlyphsLaws.KeptSteps.{kept_steps, glyph_steps}

-- a kept glyph with the font dict of a number
pub record UsedBy (cff : Cff) (tokens depth : ℕ) (glyphs : List ℕ) (n : ℕ) : Type 0 where
  pub glyph : ℕ
  pub inside : Contains glyphs glyph
  pub kept : KeptGlyph
  pub made : kept_glyph cff tokens depth glyph ≡ Ok kept
  pub number : kept.number ≡ n

all_with : (P : ℕ → Type 0) (n : ℕ) (ms : List ℕ) → P n → AllByRecursion P ms → AllByRecursion P (with_number n ms)
all_with P n [] one all = (one, tt)
all_with P n (m ∷ ms) one all =
    elim (cases_Bool (ltb n m)) [
      | inl less ↦ rw less (one, all)
      | inr other ↦ elim (cases_Bool (eqb n m)) [
        | inl same ↦ rw (other, same) all
        | inr neither ↦ rw (other, neither) (all.0, all_with P n ms one all.1)
      ]
    ]

also : {P Q : ℕ → Type 0} (ns : List ℕ) → ((n : ℕ) → P n → Q n) → AllByRecursion P ns → AllByRecursion Q ns
also [] f all = tt
also (n ∷ ns) f all = (f n all.0, also ns f all.1)

later : (cff : Cff) (tokens depth g : ℕ) (gs : List ℕ) (n : ℕ) → UsedBy cff tokens depth gs n → UsedBy cff tokens depth (g ∷ gs) n
later cff tokens depth g gs n u = record { glyph = u.glyph; inside = there g gs u.glyph u.inside; kept = u.kept; made = u.made; number = u.number }

-- each used number is that of a kept glyph
pub all_used : (cff : Cff) (tokens depth : ℕ) (glyphs : List ℕ) (kept : List KeptGlyph) → kept_glyphs cff tokens depth glyphs ≡ Ok kept → AllByRecursion (UsedBy cff tokens depth glyphs) (used_numbers kept)
all_used cff tokens depth [] kept e = rw (← same_Ok _ _ e) tt
all_used cff tokens depth (g ∷ gs) kept e =
    let s = kept_steps cff tokens depth g gs kept e in
    let rest = all_used cff tokens depth gs s.1.1.0 s.1.1.1.0 in
    let first : UsedBy cff tokens depth (g ∷ gs) s.0.number = record { glyph = g; inside = here g gs; kept = s.0; made = s.1.0; number = refl } in
    rw (← s.1.1.1.1) (all_with (UsedBy cff tokens depth (g ∷ gs)) s.0.number (used_numbers s.1.1.0) first (also (used_numbers s.1.1.0) (λ n u. later cff tokens depth g gs n u) rest))

-- the font dict of a glyph that has a private dict
pub dict_there : (cff : Cff) (g : ℕ) (private : Private) → is_cid_keyed cff ≡ true → private_of cff g ≡ Some private → (dict : List Entry) × (font_dict_of cff g ≡ Some dict)
unfolding private_of
dict_there cff g private cid e = let s = step (font_dict_of cff g) (private_at cff.bytes) private (rw cid at e) in (s.0, s.1.0)

numbered : (cff : Cff) (g n : ℕ) (dict : List Entry) → font_dict_of cff g ≡ Some dict → font_dict_number cff g ≡ Some n → dict_number cff g ≡ Some n
numbered cff g n dict e f = rw e f

-- in a CID-keyed font they are the numbers of the glyphs' font dicts
pub used_are : (cff : Cff) (tokens depth : ℕ) (glyphs : List ℕ) (kept : List KeptGlyph) → is_cid_keyed cff ≡ true → kept_glyphs cff tokens depth glyphs ≡ Ok kept → dict_numbers cff glyphs ≡ used_numbers kept
used_are cff tokens depth [] kept cid e = rw (← same_Ok _ _ e) refl
used_are cff tokens depth (g ∷ gs) kept cid e =
    let s = kept_steps cff tokens depth g gs kept e in
    let first = glyph_steps cff tokens depth g s.0 s.1.0 in
    let dict = dict_there cff g first.private cid first.private_is in
    let number : font_dict_number cff g ≡ Some s.0.number = rw cid at first.number_is in
    rw (← s.1.1.1.1, numbered cff g s.0.number dict.0 dict.1 number) (ap (with_number s.0.number) (used_are cff tokens depth gs s.1.1.0 cid s.1.1.1.0))
