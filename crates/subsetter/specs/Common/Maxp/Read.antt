-- The number of glyphs (OpenType, "maxp").
use Rattle.std.specs.Prelude.{◌≡◌, ℕ, ◌<◌, List, [], length, drop, codes, Option, Some}
use Rattle.subsetter_base.specs.Bytes.{number}
use Rattle.subsetter_base.specs.declared.error.Error.{Error}
use Rattle.subsetter_base.specs.declared.error.Error.TheVariants.{MalformedFont}
use Rattle.subsetter_sfnt.specs.Fields.Maxp.{num_glyphs}
use Rattle.subsetter_sfnt.specs.declared.flavor.FontFlavor.{FontFlavor}
use Rattle.subsetter_sfnt.specs.declared.flavor.FontFlavor.TheVariants.{TrueType, Cff}

-- version 1.0 for TrueType outlines, 0.5 for CFF ones
abbrev pub version_of : FontFlavor → ℕ
version_of TrueType = 0x00010000
version_of Cff = 0x00005000

-- version 1.0 has further fields after numGlyphs, version 0.5 has none
abbrev pub further_fields : FontFlavor → List ℕ → List ℕ
further_fields TrueType maxp = drop 6 maxp
further_fields Cff maxp = []

-- the table of a subset says how many glyphs it has, and keeps the source's further fields where its version has them.
-- The source is looked up as it is asked for: without hinting it bounds no instructions
pub record IsMaxProfile (find : List ℕ → Option (List ℕ)) (flavor : FontFlavor) (n : ℕ) (out : List ℕ → Option (List ℕ))
    : Type 0 where
  pub source : List ℕ
  pub source_is : find (codes "maxp") ≡ Some source
  pub maxp : List ℕ
  pub maxp_is : out (codes "maxp") ≡ Some maxp
  pub version : number maxp 0 4 ≡ Some (version_of flavor)
  pub count : num_glyphs maxp ≡ Some n
  pub further : drop 6 maxp ≡ further_fields flavor source

-- the faults of `maxp`, each with its error
pub data HasMaxProfileFault (find : List ℕ → Option (List ℕ)) : Error → Type 0 where
  -- numGlyphs ends at byte 6
  short_maxp : (maxp : List ℕ) → find (codes "maxp") ≡ Some maxp → length maxp < 6
      → HasMaxProfileFault find MalformedFont
