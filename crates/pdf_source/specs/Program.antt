-- The font program of a new font, and what it says of its glyphs (ISO 32000-1, 9.9).
use Rattle.std.specs.Prelude.{◌≡◌, ℕ, ◌==◌, if◌then◌else◌, List, codes, Option, Some, Result, Ok}
use Rattle.std.specs.Option.{ok_or, option_map_or}
use Rattle.subsetter_base.specs.Bytes.{number, ◌>>=◌}
use Rattle.subsetter_base.specs.declared.error.Error.{Error}
use Rattle.subsetter_base.specs.declared.error.Error.TheVariants.{MalformedFont}
use Rattle.subsetter_sfnt.specs.Plain.{opened}
use Rattle.subsetter_sfnt.specs.Read.{as_font, table, table_in}
use Rattle.subsetter_sfnt.specs.declared.flavor.FontFlavor.{FontFlavor}
use Rattle.subsetter_sfnt.specs.declared.flavor.FontFlavor.TheVariants.{TrueType, Cff}
use Rattle.pdf_text.specs.declared.values.ProgramKind.{ProgramKind}
use Rattle.pdf_text.specs.declared.values.ProgramKind.TheVariants.{TrueType as TrueTypeFile, BareCff}
use Rattle.pdf_text.specs.declared.values.ProgramKind.TheVariants.{OpenType as OpenTypeFile}
use Rattle.pdf_values.specs.declared.looks.bounds.GlyphBox.{GlyphBox}
use Rattle.pdf_source.specs.Boxed.{boxed_if}
use Rattle.pdf_source.specs.declared.choice.ProgramChoice.{ProgramChoice}
use Rattle.pdf_source.specs.declared.choice.ProgramChoice.TheVariants.{Smallest, OpenType}

-- what the program is, by the kind of the outlines
abbrev pub kind_of : FontFlavor → ProgramChoice → ProgramKind
kind_of TrueType choice = TrueTypeFile
kind_of Cff Smallest = BareCff
kind_of Cff OpenType = OpenTypeFile

-- the program is the new font, whose `head` may get a box, or its `CFF `
abbrev pub IsProgram : ProgramKind → Option GlyphBox → List ℕ → List ℕ → Type 0
IsProgram TrueTypeFile box file program = program ≡ boxed_if box file
IsProgram BareCff box file program = table (as_font file) (codes "CFF ") ≡ Some program
IsProgram OpenTypeFile box file program = program ≡ boxed_if box file

-- ---- read of a new font

-- `OTTO` begins a file with `CFF ` (OpenType, "Organization of an OpenType Font")
abbrev pub flavor_by : ℕ → FontFlavor
flavor_by word = if word == 0x4F54544F then Cff else TrueType

abbrev pub flavor_in : List ℕ → FontFlavor
flavor_in file = option_map_or flavor_by (number file 0 4) TrueType

-- how many glyphs there are: of TrueType by its `maxp`, which a PDF wants it to have (ISO 32000-1, 9.9); of CFF as many
-- as were requested, with glyph 0
abbrev pub count_in : FontFlavor → (List ℕ → Option (List ℕ)) → ℕ → Result ℕ Error
count_in Cff find requested = Ok requested
count_in TrueType find requested = do
  maxp ← ok_or (find (codes "maxp")) MalformedFont
  ok_or (number maxp 4 2) MalformedFont

-- the bytes of `CFF ` in an OpenType file
unfoldable pub bare_cff : List ℕ → Result (List ℕ) Error
bare_cff file = do
  directory ← opened (as_font file)
  ok_or (table_in file directory (codes "CFF ")) MalformedFont

abbrev pub program_in : ProgramKind → Option GlyphBox → List ℕ → Result (List ℕ) Error
program_in TrueTypeFile box file = Ok (boxed_if box file)
program_in BareCff box file = bare_cff file
program_in OpenTypeFile box file = Ok (boxed_if box file)
