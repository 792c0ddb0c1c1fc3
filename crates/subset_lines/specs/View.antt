-- What a value of the code means.
use Rattle.std.specs.Prelude.{map}
use Rattle.subset_lines.specs.Text.{Numbers}
use Rattle.subset_lines.specs.declared.entry.Numbering.{Numbering}

abbrev pub numbers_view : Numbering → Numbers
numbers_view n =
    record {
      characters = n.characters.now;
      names = map (λ name. name.now) n.names.now;
      glyphs = n.glyphs.now;
      order = n.mapper.now;
    }
