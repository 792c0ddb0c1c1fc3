-- A subset of a subset, of either kind of outlines.
use Rattle.std.specs.Prelude.{◌≡◌, ◌≤◌, ◌⊎◌, ℕ, Bool, true, ◌&&◌, List, length, codes, Some, Contains}
use Rattle.subsetter_base.specs.Bytes.{IsBytes}
use Rattle.subsetter_base.specs.declared.error.Error.{Error}
use Rattle.subsetter_base.specs.declared.error.Error.TheVariants.{MalformedFont}
use Rattle.subsetter_cff.specs.Read.Cff.{Cff as CffParts, cff_parts, is_cid_keyed}
use Rattle.subsetter_cff.specs.Write.Again.{composed, AreAll, HaveSameCharStrings}
use Rattle.subsetter_sfnt.specs.declared.flavor.FontFlavor.TheVariants.{TrueType, Cff}
use Rattle.subsetter.specs.Fault.{HasFault}
use Rattle.subsetter_sfnt.specs.Read.{Font, as_font, table, flavor}
use Rattle.subsetter.specs.Subset.{KeepsFont, IsSubset}

-- a CFF table that is CID-keyed (Technical Note 5176, section 18 "CID-keyed Fonts")
pub record IsCidKeyed (font : Font) : Type 0 where
  pub bytes : List ℕ
  pub bytes_are : table font (codes "CFF ") ≡ Some bytes
  pub cff : CffParts
  pub cff_is : cff_parts bytes ≡ Some cff
  pub keyed : is_cid_keyed cff ≡ true

-- outlines in `glyf`, or a CFF table that is CID-keyed as that of every subset is
abbrev pub IsTrueTypeOrCidKeyed : Font → Type 0
IsTrueTypeOrCidKeyed font = (flavor font ≡ Some TrueType) ⊎ IsCidKeyed font

-- ---- what a subset of a subset is of the first font: its glyph i is glyph first[second[i]]

-- `first`: the order of the first subset's glyphs; `more`: the glyphs asked of it; `second`: the order of the second
-- subset's glyphs; `again`: its bytes read afresh, it keeps what a subset of the first font keeps
pub record KeepsFirst (tokens depth : ℕ) (font : Font) (first more second again : List ℕ) : Type 0 where
  pub keeps : KeepsFont tokens depth font (composed first more) again
  pub order : keeps.order ≡ composed first second

-- it is a subset of the first font, the exact layout included
pub record IsSubsetOfFirst (tokens depth : ℕ) (font : Font) (first more second again : List ℕ) : Type 0 where
  pub subset : IsSubset tokens depth font (composed first more) again
  pub order : subset.keeps.order ≡ composed first second

-- whatever the font is
abbrev pub ComposesAfresh : Type 0
ComposesAfresh =
    (tokens depth : ℕ) (font : Font) (glyphs out more again : List ℕ) → IsBytes font.bytes → 1 ≤ depth → 1 ≤ length more
    → (first : IsSubset tokens depth font glyphs out) (second : IsSubset tokens depth (as_font out) more again)
    → KeepsFirst tokens depth font first.keeps.order more second.keeps.order again

-- where it is TrueType or CID-keyed
abbrev pub IsComposed : Type 0
IsComposed =
    (tokens depth : ℕ) (font : Font) (glyphs out more again : List ℕ) → IsBytes font.bytes → 1 ≤ depth → 1 ≤ length more
    → IsTrueTypeOrCidKeyed font
    → (first : IsSubset tokens depth font glyphs out) (second : IsSubset tokens depth (as_font out) more again)
    → IsSubsetOfFirst tokens depth font first.keeps.order more second.keeps.order again

-- a font of which names and glyph names are asked for as before, or less
abbrev pub requests_less : Bool → Bool → Font → Font
requests_less names glyph_names font =
    record {
      bytes = font.bytes;
      index = font.index;
      extras = record {
        hinting = font.extras.hinting;
        names = names && font.extras.names;
        glyph_names = glyph_names && font.extras.glyph_names;
      };
    }

-- what is left out of a subset of a subset is left out of the first font; so a subset without names of a subset is one
-- of the first font. Hinting isn't among it: an outline that had its padding in the first subset keeps it after what is
-- left out, where the first font's has none
abbrev pub ComposesLessAfresh : Type 0
ComposesLessAfresh =
    (names glyph_names : Bool) (tokens depth : ℕ) (font : Font) (glyphs out more again : List ℕ) → IsBytes font.bytes
    → 1 ≤ depth → 1 ≤ length more
    → (first : IsSubset tokens depth font glyphs out)
    (second : IsSubset tokens depth (requests_less names glyph_names (as_font out)) more again)
    → KeepsFirst tokens depth (requests_less names glyph_names font) first.keeps.order more second.keeps.order again

abbrev pub IsComposedOfLess : Type 0
IsComposedOfLess =
    (names glyph_names : Bool) (tokens depth : ℕ) (font : Font) (glyphs out more again : List ℕ) → IsBytes font.bytes
    → 1 ≤ depth → 1 ≤ length more → IsTrueTypeOrCidKeyed font
    → (first : IsSubset tokens depth font glyphs out)
    (second : IsSubset tokens depth (requests_less names glyph_names (as_font out)) more again)
    → IsSubsetOfFirst tokens depth (requests_less names glyph_names font)
    first.keeps.order more second.keeps.order again

-- every subset is TrueType or CID-keyed, so these laws hold from the second subset on
abbrev pub IsKeyedByCids : Type 0
IsKeyedByCids =
    (tokens depth : ℕ) (font : Font) (glyphs out : List ℕ) → IsSubset tokens depth font glyphs out
    → IsTrueTypeOrCidKeyed (as_font out)

-- ---- all glyphs of a subset, in order

-- they give that subset again, byte for byte
abbrev pub IsCanonical : Type 0
IsCanonical =
    (tokens depth : ℕ) (font : Font) (glyphs out all again : List ℕ) → IsBytes font.bytes → 1 ≤ depth → 1 ≤ length all
    → IsTrueTypeOrCidKeyed font
    → (first : IsSubset tokens depth font glyphs out) → AreAll (length first.keeps.order) all
    → IsSubset tokens depth (as_font out) all again
    → again ≡ out

-- whatever the keying of a CFF font is, they have the same charstrings
pub record KeepsCffTable (out again : List ℕ) : Type 0 where
  pub source : List ℕ
  pub source_is : table (as_font out) (codes "CFF ") ≡ Some source
  pub copy : List ℕ
  pub copy_is : table (as_font again) (codes "CFF ") ≡ Some copy
  pub same : HaveSameCharStrings source copy

abbrev pub KeepsAllCharStrings : Type 0
KeepsAllCharStrings = (tokens depth : ℕ) (font : Font) (glyphs out all again : List ℕ) → flavor font ≡ Some Cff
    → (first : IsSubset tokens depth font glyphs out) → AreAll (length first.keeps.order) all
    → IsSubset tokens depth (as_font out) all again
    → KeepsCffTable out again

-- the subset has no fault for them
abbrev pub HasNoFaultAgain : Type 0
HasNoFaultAgain =
    (tokens depth : ℕ) (font : Font) (glyphs out all order : List ℕ) (e : Error) → IsBytes font.bytes → IsBytes out
    → 1 ≤ depth → 1 ≤ length all → IsTrueTypeOrCidKeyed font
    → (first : IsSubset tokens depth font glyphs out) → AreAll (length first.keeps.order) all
    → HasFault tokens depth (as_font out) all order e
    → ⊥

-- ---- a glyph that a subset doesn't have is a fault in it
abbrev pub UnknownIsFault : Type 0
UnknownIsFault =
    (tokens depth : ℕ) (font : Font) (glyphs out more order : List ℕ) (g : ℕ)
    → (first : IsSubset tokens depth font glyphs out) → Contains more g → length first.keeps.order ≤ g
    → HasFault tokens depth (as_font out) more order MalformedFont
