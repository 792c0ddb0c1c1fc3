-- The plain way to an instance, with the error that is returned where it is refused.
use Rattle.std.specs.Prelude.{ℕ, List, [], ◌∷◌, length, codes, Option, Result, Ok, Err, nat_lt, if◌then◌else◌, ℤ}
use Rattle.std.specs.Option.{ok_or}
use Rattle.subsetter_base.specs.Bytes.{◌>>=◌}
use Rattle.subsetter_base.specs.declared.tag.Tag.{Tag}
use Rattle.subsetter_base.specs.declared.error.Error.{Error}
use Rattle.subsetter_base.specs.declared.error.Error.TheVariants.{MalformedFont, Unimplemented}
use Rattle.subsetter_sfnt.specs.declared.flavor.FontFlavor.{FontFlavor}
use Rattle.subsetter_sfnt.specs.declared.flavor.FontFlavor.TheVariants.{TrueType, Cff}
use Rattle.subsetter_sfnt.specs.Read.{Font, table_in}
use Rattle.subsetter_sfnt.specs.Plain.{opened, flavored, file_of}
use Rattle.subsetter_sfnt.specs.Laying.Rows.{rows, present}
use Rattle.subsetter_sfnt.specs.Laying.Written.{kind_word}
use Rattle.subsetter_instance.specs.Source.{Source, normalized_coordinates, source_or_fault}
use Rattle.subsetter_instance.specs.Glyphs.Drawn.{Drawn, drawn}
use Rattle.subsetter_instance.specs.Tables.Lines.{Lines, lines_of, with_lines}
use Rattle.subsetter_instance.specs.Tables.Written.{by_glyph, tables}

-- each glyph that is asked for is one of the font's, and is drawn in as many steps as each other
abbrev pub drawn_if : Source → List ℤ → ℕ → ℕ → Result Drawn Error
drawn_if s at steps g = if nat_lt g s.count then drawn s at steps g else Err MalformedFont

abbrev pub drawn_all : Source → List ℤ → ℕ → List ℕ → Result (List Drawn) Error
drawn_all s at steps [] = Ok []
drawn_all s at steps (g ∷ glyphs) = do
  d ← drawn_if s at steps g
  rest ← drawn_all s at steps glyphs
  Ok (d ∷ rest)

-- head of at least 52 bytes, which `source_in` has read from
abbrev pub header : (List ℕ → Option (List ℕ)) → List ℕ → Result (List ℕ) Error
header find tag = ok_or (find tag) MalformedFont

-- the file, unless the length of glyf passes 32 bits
unfoldable pub laid : (List ℕ → Option (List ℕ)) → Lines → Source → List ℕ → List Drawn → Result (List ℕ) Error
laid find lines s glyphs ds = do
  head ← header find (codes "head")
  file_of (kind_word TrueType)
      (present (rows (tables (with_lines find lines) head lines.hhea s.count ds (by_glyph glyphs ds s.count))))

-- of the tables that a look-up finds
unfoldable pub instance_in : (List ℕ → Option (List ℕ)) → List (Tag × ℤ) → List ℕ → ℕ → Result (List ℕ) Error
instance_in find settings glyphs steps = do
  at ← normalized_coordinates find settings
  s ← source_or_fault find (length at)
  ds ← drawn_all s at steps glyphs
  lines ← lines_of find settings at
  laid find lines s glyphs ds

-- outlines in glyf alone are taken
abbrev pub by_flavor : FontFlavor → (List ℕ → Option (List ℕ)) → List (Tag × ℤ) → List ℕ → ℕ → Result (List ℕ) Error
by_flavor TrueType find settings glyphs steps = instance_in find settings glyphs steps
by_flavor Cff find settings glyphs steps = Err Unimplemented

-- the instance of a font at settings of its user coordinates, for glyphs and in at most `steps` steps for each
unfoldable pub instance_of : Font → List (Tag × ℤ) → List ℕ → ℕ → Result (List ℕ) Error
instance_of font settings glyphs steps = do
  records ← opened font
  flavor ← flavored (table_in font.bytes records)
  by_flavor flavor (table_in font.bytes records) settings glyphs steps
