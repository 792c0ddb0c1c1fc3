-- Where a font is on its axes, for settings of its user coordinates (OpenType, "Coordinate Scales and Normalization").
use Rattle.std.specs.Prelude.{◌≡◌, ◌⊎◌, ℕ, Bool, not, ◌&&◌, List, codes, All, None, IsSome, Ok, ℤ, pos}
use Rattle.subsetter_base.specs.declared.tag.Tag.{Tag}
use Rattle.subsetter_base.specs.declared.error.Error.{Error}
use Rattle.subsetter_sfnt.specs.Read.{Font, stored}
use Rattle.subsetter_instance.specs.Faults.CoordinatesFault.{HasCoordinatesFault}
use Rattle.subsetter_instance.specs.Source.{normalized_coordinates}
use Rattle.subsetter_instance.specs.Fault.{HasInstanceFault}
use Rattle.subsetter_instance.specs.Instance.{IsInstance}
use Rattle.subsetter_cff_instance.specs.CffInstance.{IsCffInstance}
use Rattle.subsetter_cff_instance.specs.Fault.{HasCffInstanceFault}

-- at its default, where its outlines are as `glyf` has them
pub data IsAtDefault (font : Font) (settings : List (Tag × ℤ)) : Type 0 where
  -- no outlines in `glyf`
  no_outlines : stored font (codes "glyf") ≡ None → IsAtDefault font settings
  -- each normalized coordinate is 0; a font without `fvar` has none
  no_move : (at : List ℤ) → normalized_coordinates (stored font) settings ≡ Ok at → All (λ v. v ≡ pos 0) at
      → IsAtDefault font settings

-- nowhere, whatever the settings: it has outlines in `glyf`, and `fvar` or `avar` has a fault
pub record HasNoLocation (font : Font) (e : Error) : Type 0 where
  pub outlines : IsSome (stored font (codes "glyf"))
  pub fault : HasCoordinatesFault (stored font) e

-- ---- outlines of CFF2

-- in `CFF2` alone: where `glyf` or `CFF ` is there too, its outlines are taken
pub record IsCff2Font (font : Font) : Type 0 where
  pub no_glyf : stored font (codes "glyf") ≡ None
  pub no_cff : stored font (codes "CFF ") ≡ None
  pub cff2 : IsSome (stored font (codes "CFF2"))

-- the same of what is found
abbrev pub is_cff2_alone : Bool → Bool → Bool → Bool
is_cff2_alone has_glyf has_cff has_cff2 = not has_glyf && (not has_cff && has_cff2)

-- ---- the file of the static font

-- one that is made of a font: of outlines in `glyf` that move, or of those of CFF2, which are made at the default too
abbrev pub IsStaticFile : Font → List (Tag × ℤ) → List ℕ → List ℕ → Type 0
IsStaticFile font settings glyphs file =
    (¬ (IsAtDefault font settings) × IsInstance font settings glyphs file)
    ⊎ (IsCff2Font font × IsCffInstance font settings glyphs file)

-- the faults of the static font, where a glyph may take `tokens` steps, and a charstring as many tokens, and go `depth`
-- deep
abbrev pub HasStaticFault : Font → List (Tag × ℤ) → List ℕ → ℕ → ℕ → Error → Type 0
HasStaticFault font settings glyphs tokens depth e =
    (¬ (IsAtDefault font settings) × HasInstanceFault font settings glyphs tokens e)
    ⊎ (IsCff2Font font × HasCffInstanceFault font settings glyphs tokens depth e)
