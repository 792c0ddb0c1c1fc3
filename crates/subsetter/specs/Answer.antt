-- The answer for a font: a subset, if it has no fault.
use Rattle.std.specs.Prelude.{◌≡◌, ℕ, List, [], Some}
use Rattle.subsetter_base.specs.declared.error.Error.{Error}
use Rattle.subsetter_sfnt.specs.Read.{Font}
use Rattle.subsetter.specs.Glyf.Reaching.Closure.{Finds}
use Rattle.subsetter.specs.Glyf.Read.{Outlines, outlines}
use Rattle.subsetter.specs.Fault.{HasFault}
use Rattle.subsetter.specs.Subset.{IsSubset}

-- a subset, where the source has no fault, of glyphs in the order in which they are found; a charstring leads to no
-- further glyph
pub record IsAnswer (tokens depth : ℕ) (font : Font) (glyphs out : List ℕ) : Type 0 where
  pub subset : IsSubset tokens depth font glyphs out
  pub clean : (e : Error) → ¬ (HasFault tokens depth font glyphs subset.keeps.order e)
  pub found : (source : Outlines) → outlines font ≡ Some source → Finds source subset.keeps.order glyphs [] glyphs

-- there is no answer for these glyphs of a font
abbrev pub HasNoAnswer : ℕ → ℕ → Font → List ℕ → Type 0
HasNoAnswer tokens depth font glyphs = (out : List ℕ) → ¬ (IsAnswer tokens depth font glyphs out)

-- any answer for the same glyphs of a font, within these limits or others, is these bytes
abbrev pub IsTheAnswer : Font → List ℕ → List ℕ → Type 0
IsTheAnswer font glyphs out =
    (tokens depth : ℕ) (other : List ℕ) → IsAnswer tokens depth font glyphs other → out ≡ other
