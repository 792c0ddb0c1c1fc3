-- What a subset of a font is.
use Rattle.std.specs.Prelude.{◌≡◌, ℕ, ◌<◌, ◌^◌, List, length, codes, Some, IsSome}
use Rattle.subsetter_sfnt.specs.declared.flavor.FontFlavor.{FontFlavor}
use Rattle.subsetter_sfnt.specs.declared.flavor.FontFlavor.TheVariants.{TrueType, Cff}
use Rattle.subsetter_sfnt.specs.Read.{Font, as_font, table, flavor}
use Rattle.subsetter_sfnt.specs.Container.{IsSoundContainer}
use Rattle.subsetter_sfnt.specs.Laying.Rows.{tags_of}
use Rattle.subsetter_sfnt.specs.Laying.Written.{kind_word}
use Rattle.subsetter.specs.Glyf.Reaching.Reach.{IsGlyphOrder}
use Rattle.subsetter.specs.Common.Head.Read.{KeepsHead}
use Rattle.subsetter.specs.Common.Hmtx.Read.{KeepsMetrics}
use Rattle.subsetter.specs.Common.Maxp.Read.{IsMaxProfile}
use Rattle.subsetter.specs.Common.Name.Read.{KeepsNames}
use Rattle.subsetter.specs.Common.Post.Read.{KeepsGlyphNames}
use Rattle.subsetter.specs.Truetype.Read.{KeepsOutlines}
use Rattle.subsetter.specs.Cff.Read.{KeepsCharStrings}
use Rattle.subsetter.specs.Laid.{IsLaidOut}

-- both have their table, and one keeps what the other says
pub record KeepsTable (font out : Font) (tag : List ℕ) (keeps : List ℕ → List ℕ → Type 0) : Type 0 where
  pub source : List ℕ
  pub source_is : table font tag ≡ Some source
  pub copy : List ℕ
  pub copy_is : table out tag ≡ Some copy
  pub kept : keeps source copy

-- the tables that both kinds of outlines share, each where the source has it
pub record KeepsShared (font : Font) (kind : FontFlavor) (order : List ℕ) (out : Font) : Type 0 where
  pub head : IsSome (table font (codes "head")) → KeepsHead font out
  -- each glyph has its source's metric, by the least number of pairs
  pub metrics : IsSome (table font (codes "hmtx")) → KeepsMetrics (table font) order (table out)
  -- maxp says how many glyphs there are
  pub max_profile : IsSome (table font (codes "maxp")) → IsMaxProfile (table font) kind (length order) (table out)
  -- the names of the font that are kept, each string once
  pub names : IsSome (table font (codes "name")) → KeepsTable font out (codes "name") KeepsNames
  -- each glyph has its source's name
  pub glyph_names : IsSome (table font (codes "post"))
      → KeepsTable font out (codes "post") (λ source copy. KeepsGlyphNames source copy order)

-- what is drawn, by the kind of outlines, where a charstring is run within two limits
pub data KeepsDrawing (tokens depth : ℕ) (font : Font) (order : List ℕ) (out : Font) : FontFlavor → Type 0 where
  by_outlines : KeepsOutlines font order out → KeepsDrawing tokens depth font order out TrueType
  by_charstrings : KeepsCharStrings tokens depth font order out → KeepsDrawing tokens depth font order out Cff

-- what a file keeps of a font for a list of glyphs, read afresh
pub record KeepsFont (tokens depth : ℕ) (font : Font) (glyphs out : List ℕ) : Type 0 where
  -- the given glyphs, then each further one that they reach, once
  pub order : List ℕ
  pub is_order : IsGlyphOrder font glyphs order
  -- their count has 16 bits
  pub few : length order < 2 ^ 16
  pub kind : FontFlavor
  pub kind_is : flavor font ≡ Some kind
  -- directory, checksums and padding are right, and the tables are those that the source calls for
  pub container : IsSoundContainer out (kind_word kind) (tags_of kind (table font))
  pub shared : KeepsShared font kind order (as_font out)
  pub drawing : KeepsDrawing tokens depth font order (as_font out) kind

-- a file is a subset of a font for a list of glyphs
pub record IsSubset (tokens depth : ℕ) (font : Font) (glyphs out : List ℕ) : Type 0 where
  pub keeps : KeepsFont tokens depth font glyphs out
  -- no stray byte
  pub layout : IsLaidOut tokens depth font keeps.kind keeps.order out
