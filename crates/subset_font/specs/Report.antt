-- How the new numbers are printed.
use Rattle.std.specs.Prelude.{ℕ, Bool, false, List, [], map}
use Rattle.subset_lines.specs.Text.{Numbers}
use Rattle.subset_lines.specs.Lines.{lines_of}
use Rattle.subset_lines.specs.Objects.Json.{json_of}
use Rattle.subset_task.specs.declared.task.Form.{Form}
use Rattle.subset_task.specs.declared.task.Form.TheVariants.{Lines, Json, Silence}
use Rattle.subset_font.specs.declared.making.outcome.Outcome.{Outcome}

-- the numbers of what was made, with the names of the glyphs
abbrev pub numbers_of : Outcome → Numbers
numbers_of o =
    record {
      characters = o.made.picked.characters.items;
      names = map (λ name. name.now) o.names.items;
      glyphs = o.made.picked.glyphs.items;
      order = o.made.mapper;
    }

-- whether standard error gets a JSON object, in which the notes are: it does where the font goes to standard output
abbrev pub has_notes : Form → Bool → Bool
has_notes Lines is_font_there = false
has_notes Json is_font_there = is_font_there
has_notes Silence is_font_there = false

-- what is printed of it
abbrev pub report_of : Form → Outcome → List ℕ
report_of Lines o = lines_of (numbers_of o) o.made.text.items o.more.items
report_of Json o = json_of (numbers_of o) o.made.text.items o.more.items
report_of Silence o = []
