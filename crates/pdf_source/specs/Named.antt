-- The name of the source, and what its columns vary by, at coordinates (Technical Note 5902; OpenType, "VVAR").
use Rattle.std.specs.Prelude.{ℕ, List, codes, Option, Some, None, ℤ}
use Rattle.subsetter_base.specs.declared.tag.Tag.{Tag}
use Rattle.pdf_glyphs.specs.HeightVariation.{Variation}
use Rattle.pdf_names.specs.MovedName.{name_at}
use Rattle.pdf_source.specs.Moved.{Location, location_in, movement_of}
use Rattle.pdf_source.specs.Source.{source_name}

-- off its default a font has the name of its coordinates
abbrev pub name_by : Option Location → (List ℕ → Option (List ℕ)) → List (Tag × ℤ) → List ℕ
name_by None find settings = source_name find
name_by (Some p) find settings = name_at (find (codes "name")) (find (codes "fvar")) (movement_of find settings p) None

abbrev pub name_there : (List ℕ → Option (List ℕ)) → List (Tag × ℤ) → List ℕ
name_there find settings = name_by (location_in find settings) find settings

-- what advance heights and the origins of `VORG` vary by: by `VVAR`, off the default
abbrev pub heights_by : Option Location → Option (List ℕ) → Option Variation
heights_by None vvar = None
heights_by (Some p) None = None
heights_by (Some p) (Some vvar) = Some (record { at = p.at; vvar = vvar })

abbrev pub heights_there : (List ℕ → Option (List ℕ)) → List (Tag × ℤ) → Option Variation
heights_there find settings = heights_by (location_in find settings) (find (codes "VVAR"))
