-- What subsetting a TrueType font comes to, step by step: the outlines are read, the order of the glyphs is found, the
-- tables are made, and the file is laid out.
use Rattle.std.specs.Prelude.{◌≡◌, ◌<◌, ◌^◌, ℕ, Bool, List, [], length, Option, Some, Ok, Err}
use Rattle.subsetter_base.specs.declared.error.Error.{Error}
use Rattle.subsetter_base.specs.declared.error.Error.TheVariants.{OverflowError, OutOfMemory}
use Rattle.subsetter_sfnt.specs.declared.flavor.FontFlavor.TheVariants.{TrueType}
use Rattle.subsetter.specs.Glyf.Reaching.Closure.{Finds, StopsClosure}
use Rattle.subsetter.specs.Glyf.Read.{Outlines, outline_in}
use Rattle.subsetter_sfnt.specs.Laying.Written.{Table, kind_word}
use Rattle.subsetter.specs.Truetype.Plain.{truetype_tables}
use Rattle.subsetter_sfnt.specs.Plain.{file_of}
use Rattle.subsetter.specs.Glyf.Plain.{outlines_read}
use Rattle.subsetter.specs.Glyf.Reaching.Reach.{IsGlyphOrderBy}

-- a TrueType subset, by the steps to its file
pub record IsAnswered (hinting : Bool) (find : List ℕ → Option (List ℕ)) (glyphs out : List ℕ) : Type 0 where
  pub source : Outlines
  pub read : outlines_read hinting find ≡ Ok source
  pub order : List ℕ
  pub is_order : IsGlyphOrderBy (outline_in source) glyphs order
  pub found : Finds source order glyphs [] glyphs
  pub few : length order < 2 ^ 16
  pub tables : List Table
  pub tables_are : truetype_tables find source order ≡ Ok tables
  pub laid_out : file_of (kind_word TrueType) tables ≡ Ok out

-- the step that fails, or a bound that every file passes
pub data IsRefused (hinting : Bool) (find : List ℕ → Option (List ℕ)) (bound : Option ℕ) (glyphs : List ℕ)
    : Error → Type 0 where
  no_memory : IsRefused hinting find bound glyphs OutOfMemory
  unread : {e : Error} → outlines_read hinting find ≡ Err e → IsRefused hinting find bound glyphs e
  unclosed : {e : Error} (source : Outlines) → outlines_read hinting find ≡ Ok source
      → StopsClosure source glyphs 4294967295 e
      → IsRefused hinting find bound glyphs e
  unmade : {e : Error} (source : Outlines) (order : List ℕ) → outlines_read hinting find ≡ Ok source
      → IsGlyphOrderBy (outline_in source) glyphs order → Finds source order glyphs [] glyphs
      → truetype_tables find source order ≡ Err e
      → IsRefused hinting find bound glyphs e
  unlaid : {e : Error} (source : Outlines) (order : List ℕ) (tables : List Table)
      → outlines_read hinting find ≡ Ok source → IsGlyphOrderBy (outline_in source) glyphs order
      → Finds source order glyphs [] glyphs → truetype_tables find source order ≡ Ok tables
      → file_of (kind_word TrueType) tables ≡ Err e
      → IsRefused hinting find bound glyphs e
  past : (most : ℕ) → bound ≡ Some most → ((out : List ℕ) → IsAnswered hinting find glyphs out → most < length out)
      → IsRefused hinting find bound glyphs OverflowError
