-- A subset by its kind of outlines.
use Rattle.std.proofs.Common.{◌≡◌, ℕ, ◌^◌, ◌<◌, true, List, length, Some, Ok, refl}
use Rattle.std.specs.Prelude.{codes}
use Rattle.subsetter_sfnt.specs.declared.flavor.FontFlavor.{FontFlavor}
use Rattle.subsetter_sfnt.specs.declared.flavor.FontFlavor.TheVariants.{TrueType, Cff}
use Rattle.subsetter_sfnt.specs.Container.{IsSoundContainer}
use Rattle.subsetter_sfnt.specs.Read.{Font, as_font, table, flavor}
use Rattle.subsetter_sfnt.specs.Laying.Rows.{tags_of}
use Rattle.subsetter_sfnt.specs.Laying.Written.{Table, fits, file, start_of, kind_word}
use Rattle.subsetter.specs.Glyf.Read.{Outlines, outlines}
use Rattle.subsetter.specs.Glyf.Reaching.Reach.{IsGlyphOrder}
use Rattle.subsetter.specs.Truetype.Plain.{truetype_tables}
use Rattle.subsetter.specs.Truetype.Read.{KeepsOutlines}
use Rattle.subsetter.specs.Cff.Plain.{cff_tables}
use Rattle.subsetter.specs.Cff.Read.{KeepsCharStrings}
use Rattle.subsetter.specs.Laid.{AreMade, of_outlines, of_charstrings}
use Rattle.subsetter.specs.Subset.{KeepsShared, KeepsDrawing, by_outlines, by_charstrings, IsSubset}

-- a subset with outlines in `glyf`
pub record IsOutlineSubset (font : Font) (glyphs out : List ℕ) : Type 0 where
  pub order : List ℕ
  pub is_order : IsGlyphOrder font glyphs order
  pub few : length order < 2 ^ 16
  pub kind_is : flavor font ≡ Some TrueType
  pub container : IsSoundContainer out (kind_word TrueType) (tags_of TrueType (table font))
  pub shared : KeepsShared font TrueType order (as_font out)
  pub drawn : KeepsOutlines font order (as_font out)
  pub source : Outlines
  pub read : outlines font ≡ Some source
  pub tables : List Table
  pub tables_are : truetype_tables (table font) source order ≡ Ok tables
  pub bytes : out ≡ file (kind_word TrueType) tables
  pub room : fits (start_of tables) tables ≡ true

-- a subset with a CFF table
pub record IsCharStringSubset (tokens depth : ℕ) (font : Font) (glyphs out : List ℕ) : Type 0 where
  pub order : List ℕ
  pub is_order : IsGlyphOrder font glyphs order
  pub few : length order < 2 ^ 16
  pub kind_is : flavor font ≡ Some Cff
  pub container : IsSoundContainer out (kind_word Cff) (tags_of Cff (table font))
  pub shared : KeepsShared font Cff order (as_font out)
  pub drawn : KeepsCharStrings tokens depth font order (as_font out)
  pub source : List ℕ
  pub source_is : table font (codes "CFF ") ≡ Some source
  pub tables : List Table
  pub tables_are : cff_tables (table font) source tokens depth order ≡ Ok tables
  pub bytes : out ≡ file (kind_word Cff) tables
  pub room : fits (start_of tables) tables ≡ true

-- a subset is one of the two, with the same order of the glyphs
pub data ByKind (tokens depth : ℕ) (font : Font) (glyphs out order : List ℕ) (kind : FontFlavor) : Type 0 where
  with_outlines : (x : IsOutlineSubset font glyphs out) → x.order ≡ order → TrueType ≡ kind → ByKind tokens depth font glyphs out order kind
  with_charstrings : (x : IsCharStringSubset tokens depth font glyphs out) → x.order ≡ order → Cff ≡ kind → ByKind tokens depth font glyphs out order kind

by_made : (tokens depth : ℕ) (font : Font) (glyphs out order : List ℕ) (is_order : IsGlyphOrder font glyphs order) (few : length order < 2 ^ 16) (kind : FontFlavor) → flavor font ≡ Some kind → IsSoundContainer out (kind_word kind) (tags_of kind (table font)) → KeepsShared font kind order (as_font out)
    → KeepsDrawing tokens depth font order (as_font out) kind → (tables : List Table) → AreMade tokens depth font order tables kind → out ≡ file (kind_word kind) tables → fits (start_of tables) tables ≡ true → ByKind tokens depth font glyphs out order kind
by_made tokens depth font glyphs out order is_order few _ kind container shared (by_outlines drawn) tables (of_outlines source read are) bytes room =
    with_outlines (record { order = order; is_order = is_order; few = few; kind_is = kind; container = container; shared = shared; drawn = drawn; source = source; read = read; tables = tables; tables_are = are; bytes = bytes; room = room }) refl refl
by_made tokens depth font glyphs out order is_order few _ kind container shared (by_charstrings drawn) tables (of_charstrings source same there are) bytes room =
    with_charstrings (record { order = order; is_order = is_order; few = few; kind_is = kind; container = container; shared = shared; drawn = drawn; source = source; source_is = there; tables = tables; tables_are = are; bytes = bytes; room = room }) refl refl

pub by_kind : (tokens depth : ℕ) (font : Font) (glyphs out : List ℕ) (s : IsSubset tokens depth font glyphs out) → ByKind tokens depth font glyphs out s.keeps.order s.keeps.kind
by_kind tokens depth font glyphs out s =
    by_made tokens depth font glyphs out s.keeps.order s.keeps.is_order s.keeps.few s.keeps.kind s.keeps.kind_is s.keeps.container s.keeps.shared s.keeps.drawing s.layout.tables s.layout.made s.layout.bytes s.layout.room
