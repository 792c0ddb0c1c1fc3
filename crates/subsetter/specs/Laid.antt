-- The exact layout of a subset.
use Rattle.std.specs.Prelude.{◌≡◌, ℕ, List, codes, true, Some, Ok}
use Rattle.subsetter_sfnt.specs.declared.flavor.FontFlavor.{FontFlavor}
use Rattle.subsetter_sfnt.specs.declared.flavor.FontFlavor.TheVariants.{TrueType, Cff}
use Rattle.subsetter_sfnt.specs.Read.{Font, table, flavor}
use Rattle.subsetter_sfnt.specs.Laying.Written.{Table, file, fits, start_of, kind_word}
use Rattle.subsetter.specs.Glyf.Read.{Outlines, outlines}
use Rattle.subsetter.specs.Truetype.Plain.{truetype_tables}
use Rattle.subsetter.specs.Cff.Plain.{cff_tables}

-- the tables that are laid out for an order of the glyphs, by the kind of outlines
pub data AreMade (tokens depth : ℕ) (font : Font) (order : List ℕ) (tables : List Table) : FontFlavor → Type 0 where
  of_outlines : (source : Outlines) → outlines font ≡ Some source
      → truetype_tables (table font) source order ≡ Ok tables
      → AreMade tokens depth font order tables TrueType
  of_charstrings : (source : List ℕ) → flavor font ≡ Some Cff → table font (codes "CFF ") ≡ Some source
      → cff_tables (table font) source tokens depth order ≡ Ok tables
      → AreMade tokens depth font order tables Cff

-- the file is byte for byte the one that the format lays out for this order of the glyphs
pub record IsLaidOut (tokens depth : ℕ) (font : Font) (kind : FontFlavor) (order out : List ℕ) : Type 0 where
  pub tables : List Table
  pub made : AreMade tokens depth font order tables kind
  pub bytes : out ≡ file (kind_word kind) tables
  -- each table's place and length have 32 bits
  pub room : fits (start_of tables) tables ≡ true
