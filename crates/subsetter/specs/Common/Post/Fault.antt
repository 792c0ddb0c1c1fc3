-- The faults of the names of glyphs, each with its error (OpenType, "post").
use Rattle.std.specs.Prelude.{◌≡◌, ℕ, ◌+◌, ◌*◌, ◌<◌, ◌≤◌, List, length, codes, nat_eq, Option, Some}
use Rattle.std.specs.List.{AllByRecursion, IsDistinct}
use Rattle.subsetter_base.specs.Bytes.{number}
use Rattle.subsetter_base.specs.declared.error.Error.{Error}
use Rattle.subsetter_base.specs.declared.error.Error.TheVariants.{MalformedFont, OverflowError}
use Rattle.subsetter.specs.Common.Post.Read.{Custom, glyph_name}

-- a glyph has a name of the font's own
pub record HasOwnName (bytes : List ℕ) (g : ℕ) : Type 0 where
  pub name : List ℕ
  pub is : glyph_name bytes g ≡ Some (Custom name)

pub data HasGlyphNameFault (find : List ℕ → Option (List ℕ)) (reached : ℕ → Type 0) : Error → Type 0 where
  -- the version ends at byte 4
  short_post : (bytes : List ℕ) → find (codes "post") ≡ Some bytes → length bytes < 4
      → HasGlyphNameFault find reached MalformedFont
  -- a table of version 2.0 has a header of 32 bytes
  short_header : (bytes : List ℕ) → find (codes "post") ≡ Some bytes → number bytes 0 4 ≡ Some 0x00020000
      → length bytes < 32
      → HasGlyphNameFault find reached MalformedFont
  -- and then the number of its indexes
  count_cut : (bytes : List ℕ) → find (codes "post") ≡ Some bytes → number bytes 0 4 ≡ Some 0x00020000
      → length bytes < 34
      → HasGlyphNameFault find reached MalformedFont
  -- and these
  indexes_cut : (bytes : List ℕ) (count : ℕ) → find (codes "post") ≡ Some bytes → number bytes 0 4 ≡ Some 0x00020000
      → number bytes 32 2 ≡ Some count → length bytes < 34 + count * 2
      → HasGlyphNameFault find reached MalformedFont
  -- a reached glyph has no index
  no_index : (bytes : List ℕ) (count g : ℕ) → find (codes "post") ≡ Some bytes → number bytes 0 4 ≡ Some 0x00020000
      → number bytes 32 2 ≡ Some count → reached g → count ≤ g
      → HasGlyphNameFault find reached MalformedFont
  -- more reached glyphs have names of their own than there are indexes for these
  many_own_names : (bytes gs : List ℕ) → find (codes "post") ≡ Some bytes → number bytes 0 4 ≡ Some 0x00020000
      → IsDistinct nat_eq gs → AllByRecursion (λ g. reached g × HasOwnName bytes g) gs → 65278 < length gs
      → HasGlyphNameFault find reached OverflowError
