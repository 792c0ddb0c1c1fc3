-- What is read of a new font, step by step.
use Rattle.std.specs.Prelude.{ℕ, List, Option, Result, Ok, ℤ}
use Rattle.subsetter_base.specs.Bytes.{◌>>=◌}
use Rattle.subsetter_base.specs.declared.tag.Tag.{Tag}
use Rattle.subsetter_base.specs.declared.error.Error.{Error}
use Rattle.subsetter_sfnt.specs.Plain.{opened}
use Rattle.subsetter_sfnt.specs.Read.{as_font, table_in}
use Rattle.cid_embed.specs.Afresh.{widths_of}
use Rattle.pdf_text.specs.declared.values.ProgramKind.{ProgramKind}
use Rattle.pdf_values.specs.declared.descriptor.Values.{Values}
use Rattle.pdf_values.specs.declared.looks.bounds.GlyphBox.{GlyphBox}
use Rattle.pdf_source.specs.Exact.{Exact, exact_of, exact_seen}
use Rattle.pdf_source.specs.Program.{count_in, flavor_in, kind_of, program_in}
use Rattle.pdf_source.specs.Moved.{program_box, values_in}
use Rattle.pdf_source.specs.Widened.{widened}
use Rattle.pdf_source.specs.declared.choice.FontOptions.{FontOptions}
use Rattle.pdf_source.specs.declared.program.NewFont.{NewFont}
use Rattle.pdf_source.specs.declared.program.Profile.{Profile as GivenProfile}

-- how many glyphs it has, their widths, in thousandths of the em and in the font's units, the values of the descriptor,
-- and the box that the `head` of the program gets
pub record Profile : Type 0 where
  pub count : ℕ
  pub widths : List ℕ
  pub exact : Exact
  pub values : Values
  pub head_box : Option GlyphBox

abbrev pub profile_seen : GivenProfile → Profile
profile_seen p =
    record {
      count = p.count;
      widths = p.widths.items;
      exact = exact_seen p.exact;
      values = p.values;
      head_box = p.head_box;
    }

unfoldable pub profile_in : (List ℕ → Option (List ℕ)) → List (Tag × ℤ) → FontOptions → ℕ → List ℕ
    → Result Profile Error
profile_in find settings options requested file = do
  directory ← opened (as_font file)
  count ← count_in (flavor_in file) (table_in file directory) requested
  widths ← widths_of (table_in file directory) count
  exact ← exact_of (table_in file directory) count
  Ok (record {
    count = count;
    widths = widths;
    exact = exact;
    values = values_in find (table_in file directory) count options settings;
    head_box = program_box find (table_in file directory) count options.bounds;
  })

-- and the program, whose widths are the advances
pub record Made : Type 0 where
  pub kind : ProgramKind
  pub program : List ℕ
  pub profile : Profile

abbrev pub made_seen : NewFont → Made
made_seen n = record { kind = n.kind; program = n.program.items; profile = profile_seen n.profile }

unfoldable pub made_in : (List ℕ → Option (List ℕ)) → List (Tag × ℤ) → FontOptions → ℕ → List ℕ → Result Made Error
made_in find settings options requested file = do
  profile ← profile_in find settings options requested file
  program ← program_in (kind_of (flavor_in file) options.program) profile.head_box (widened profile.exact.widths file)
  Ok (record { kind = kind_of (flavor_in file) options.program; program = program; profile = profile })
