-- Small facts that the laws share.
use Rattle.std.proofs.Common.{◌≡◌, ℕ, ◌-◌, ◌%◌, ◌<◌, Bool, true, false, ◌&&◌, cond, List, [], ◌∷◌, ◌++◌, length, Option, Some, refl, sym, ap, ◌∙◌, arith}
use Rattle.std.specs.Prelude.{replicate, filter}
use Rattle.std.specs.Option.{option_and_then}
use Rattle.std.proofs.lemmas.List.{append-nil}
use Rattle.subsetter_base.specs.Bytes.{aligned}
use Rattle.subsetter_sfnt.specs.Read.{Font}
use Rattle.subsetter.specs.Glyf.Read.{outline}
use Rattle.subsetter.specs.Glyf.BareOutlines.Bare.{glyph_parts}
use Rattle.subsetter.specs.Glyf.Parts.{Parts, outline_parts}
use Rattle.subsetter.specs.Truetype.Read.{HasGlyphCount}
use Rattle.subsetter.specs.Glyf.Reaching.Unfold.{padded}
use Rattle.subsetter_base.proofs.Options.{just_is, bind_some}
use Rattle.subsetter.proofs.GlyfLaws.Back.{length-even, has_entry}
use Rattle.subsetter.proofs.GlyfLaws.Kept.{some_before}
use Rattle.subsetter.proofs.GlyfLaws.ReachingLaws.Unfold.{outline_is}

-- what is found twice is one
pub one_found : {A : Type 0} (o : Option A) (x y : A) → o ≡ Some x → o ≡ Some y → x ≡ y
one_found o x y h k = just_is x y (sym h ∙ k)

-- ---- padding

-- bytes of even length get no zero
pub even_is : (bytes : List ℕ) → length bytes % 2 ≡ 0 → aligned 2 bytes ≡ bytes
even_is bytes even =
    let none : (2 - length bytes % 2) % 2 ≡ 0 = omega (arith, even) in
    ap (λ (k : ℕ). bytes ++ replicate k 0) none ∙ append-nil bytes

-- a second padding adds nothing
pub padded_twice : (a b : Bool) (bytes : List ℕ) → padded b (padded a bytes) ≡ padded (a && b) bytes
padded_twice true true bytes = refl
padded_twice true false bytes = refl
padded_twice false true bytes = refl
padded_twice false false bytes = even_is (aligned 2 bytes) (omega (arith, length-even bytes))

-- ---- a glyph that has parts is one of those that loca counts

pub has_parts : (font : Font) (n g : ℕ) (p : Parts) → HasGlyphCount font n → glyph_parts font g ≡ Some p → g < n
has_parts font n g p c h =
    let q = some_before font.extras.hinting (option_and_then outline_parts (outline font g)) p h in
    let a = bind_some (outline font g) outline_parts q.0 q.1 in
    has_entry c.tables n g a.0 c.entries (sym (outline_is font c.tables g c.read) ∙ a.1)

-- ---- filters

pub filter_twice : {A : Type 0} (p : A → Bool) (xs : List A) → filter p (filter p xs) ≡ filter p xs
filter_twice p [] = refl
filter_twice p (x ∷ xs) = by (p x) refl (filter_twice p xs)
  where
    by : (b : Bool) → p x ≡ b → filter p (filter p xs) ≡ filter p xs → filter p (cond b (x ∷ filter p xs) (filter p xs)) ≡ cond b (x ∷ filter p xs) (filter p xs)
    by true e h = ap (λ c. cond c (x ∷ filter p (filter p xs)) (filter p (filter p xs))) e ∙ ap (λ l. x ∷ l) h
    by false e h = h
