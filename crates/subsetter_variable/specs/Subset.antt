-- What a subset of a font is, at settings of its user coordinates.
use Rattle.std.specs.Prelude.{◌≡◌, ℕ, List, Option, ℤ}
use Rattle.subsetter_base.specs.declared.tag.Tag.{Tag}
use Rattle.subsetter_base.specs.declared.error.Error.{Error}
use Rattle.subsetter_sfnt.specs.Extras.{all_extras}
use Rattle.subsetter_sfnt.specs.Fault.{HasOpeningFault}
use Rattle.subsetter_sfnt.specs.FontAt.{font_at}
use Rattle.subsetter_sfnt.specs.Read.{Font}
use Rattle.subsetter.specs.Answer.{IsAnswer}
use Rattle.subsetter.specs.Bound.{IsWithin, HasFaultWithin}
use Rattle.subsetter.specs.Subset.{IsSubset}
use Rattle.subsetter_instance.specs.Fault.{HasInstanceFault}
use Rattle.subsetter_instance.specs.Instance.{IsInstance}
use Rattle.subsetter_cff_instance.specs.CffInstance.{IsCffInstance}
use Rattle.subsetter_cff_instance.specs.Fault.{HasCffInstanceFault}
use Rattle.subsetter_variable.specs.DefaultLocation.{IsAtDefault, IsCff2Font}

-- the same font, of which all is asked for
abbrev pub whole : Font → Font
whole font = font_at font.bytes font.index all_extras

-- the faults for which it can't be opened, where outlines of CFF2 are taken too
pub record HasOpeningFaultAt (font : Font) (e : Error) : Type 0 where
  pub fault : HasOpeningFault font e
  pub not_cff2 : ¬ (IsCff2Font (whole font))

-- The static font of a font, of which the same is asked for: at its default it is the font itself, with its hints, and
-- elsewhere an instance of it. Of outlines in CFF2 it is a font with outlines in `CFF ` that is made of it, at its
-- default too.
pub data IsStatic (font : Font) (settings : List (Tag × ℤ)) (glyphs : List ℕ) : Font → Type 0 where
  as_it_is : IsAtDefault (whole font) settings → ¬ (IsCff2Font (whole font)) → IsStatic font settings glyphs font
  instanced : (file : List ℕ) → ¬ (IsAtDefault (whole font) settings) → IsInstance (whole font) settings glyphs file
      → IsStatic font settings glyphs (font_at file 0 font.extras)
  cff_instanced : (file : List ℕ) → IsCff2Font (whole font) → IsCffInstance (whole font) settings glyphs file
      → IsStatic font settings glyphs (font_at file 0 font.extras)

-- a file is a subset of the static font
pub record IsSubsetAt (tokens depth : ℕ) (font : Font) (settings : List (Tag × ℤ)) (glyphs out : List ℕ) : Type 0 where
  pub static : Font
  pub is_static : IsStatic font settings glyphs static
  pub subset : IsSubset tokens depth static glyphs out

-- The faults that stop it, each with its error; sizes are judged for an order of the new font's glyphs, and within a
-- bound on its bytes. The outline of a glyph may take as many steps as a charstring may have tokens.
pub data HasFaultAt (bound : Option ℕ) (tokens depth : ℕ) (font : Font) (settings : List (Tag × ℤ))
    (glyphs order : List ℕ) : Error → Type 0 where
  -- elsewhere than at its default, against the instance
  in_instance : {e : Error} → ¬ (IsAtDefault (whole font) settings)
      → HasInstanceFault (whole font) settings glyphs tokens e
      → HasFaultAt bound tokens depth font settings glyphs order e
  -- of outlines in CFF2, against the font with outlines in `CFF `
  in_cff_instance : {e : Error} → IsCff2Font (whole font)
      → HasCffInstanceFault (whole font) settings glyphs tokens depth e
      → HasFaultAt bound tokens depth font settings glyphs order e
  -- against the subset of the static font
  in_static : {e : Error} (static : Font) → IsStatic font settings glyphs static
      → HasFaultWithin bound tokens depth static glyphs order e
      → HasFaultAt bound tokens depth font settings glyphs order e

-- ---- answers

-- an answer for the static font, which could be made within these limits
pub record IsAnswerAt (tokens depth : ℕ) (font : Font) (settings : List (Tag × ℤ)) (glyphs out : List ℕ) : Type 0 where
  pub static : Font
  pub is_static : IsStatic font settings glyphs static
  pub made : (e : Error) → ¬ (IsAtDefault (whole font) settings)
      → ¬ (HasInstanceFault (whole font) settings glyphs tokens e)
  pub cff_made : (e : Error) → IsCff2Font (whole font)
      → ¬ (HasCffInstanceFault (whole font) settings glyphs tokens depth e)
  pub answer : IsAnswer tokens depth static glyphs out

-- there is no answer within the bound for these glyphs of a font
abbrev pub HasNoAnswerAt : Option ℕ → ℕ → ℕ → Font → List (Tag × ℤ) → List ℕ → Type 0
HasNoAnswerAt bound tokens depth font settings glyphs =
    (out : List ℕ) → IsWithin bound out → ¬ (IsAnswerAt tokens depth font settings glyphs out)

-- any answer for the same settings and glyphs of a font, within these limits or others, is these bytes
abbrev pub IsTheAnswerAt : Font → List (Tag × ℤ) → List ℕ → List ℕ → Type 0
IsTheAnswerAt font settings glyphs out =
    (tokens depth : ℕ) (other : List ℕ) → IsAnswerAt tokens depth font settings glyphs other → out ≡ other
