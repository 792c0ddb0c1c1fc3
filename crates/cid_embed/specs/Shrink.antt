-- What a subset of a given font is of each font of which the given one is a subset, within the default limits.
use Rattle.std.specs.Prelude.{◌≡◌, ◌≤◌, ℕ, List, length, Some, Contains}
use Rattle.subsetter_base.specs.Bytes.{IsBytes}
use Rattle.subsetter_base.specs.declared.error.Error.{Error}
use Rattle.subsetter_base.specs.declared.error.Error.TheVariants.{MalformedFont}
use Rattle.subsetter_cff.specs.Write.Again.{AreAll}
use Rattle.subsetter_sfnt.specs.declared.flavor.FontFlavor.TheVariants.{Cff}
use Rattle.subsetter.specs.Fault.{HasFault}
use Rattle.subsetter.specs.Limits.{token_limit, depth_limit}
use Rattle.subsetter_sfnt.specs.Read.{Font, as_font, flavor}
use Rattle.subsetter.specs.Subset.{IsSubset}
use Rattle.cid_embed.specs.Again.{IsTrueTypeOrCidKeyed, KeepsFirst, IsSubsetOfFirst, KeepsCffTable}

-- a fact of each font of which the given one is a subset, by the order of the given font's glyphs
abbrev pub OfEachSource : List ℕ → (Font → List ℕ → Type 0) → Type 0
OfEachSource given fact =
    (source : Font) (glyphs : List ℕ) → IsBytes source.bytes
    → (first : IsSubset token_limit depth_limit source glyphs given)
    → fact source first.keeps.order

-- it keeps of each what a subset keeps, read afresh; where the source is TrueType or CID-keyed, it is a subset of it
pub record IsShrunk (given more again : List ℕ) : Type 0 where
  pub subset : IsSubset token_limit depth_limit (as_font given) more again
  pub keeps :
      OfEachSource given (λ source first. KeepsFirst token_limit depth_limit source first more subset.keeps.order again)
  pub whole : OfEachSource given (λ source first.
      IsTrueTypeOrCidKeyed source → IsSubsetOfFirst token_limit depth_limit source first more subset.keeps.order again)

-- where the glyphs are all of the given font in order, it is the given font, byte for byte; if a source is CFF, its
-- charstrings are those of the given one
pub record IsGivenBack (given more again : List ℕ) : Type 0 where
  pub bytes :
      OfEachSource given (λ source first. AreAll (length first) more → IsTrueTypeOrCidKeyed source → again ≡ given)
  pub charstrings : OfEachSource given
      (λ source first. AreAll (length first) more → flavor source ≡ Some Cff → KeepsCffTable given again)

-- then the given font has no fault
abbrev pub HasNoFaultForAll : List ℕ → List ℕ → Type 0
HasNoFaultForAll given more =
    OfEachSource given (λ source first. AreAll (length first) more → IsTrueTypeOrCidKeyed source
    → (order : List ℕ) (e : Error)
    → ¬ (HasFault token_limit depth_limit (as_font given) more order e))

-- a glyph that the given font doesn't have is a fault in it
abbrev pub HasFaultForUnknown : List ℕ → List ℕ → Type 0
HasFaultForUnknown given more =
    OfEachSource given (λ source first. (g : ℕ) (order : List ℕ) → Contains more g → length first ≤ g
    → HasFault token_limit depth_limit (as_font given) more order MalformedFont)
