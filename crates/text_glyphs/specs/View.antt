-- Which table a value of the code means.
use Rattle.std.specs.Option.{option_copied}
use Rattle.cmap.specs.View.{mapping_view}
use Rattle.text_glyphs.specs.Choice.{Chosen, mapped, coded}
use Rattle.text_glyphs.specs.Reading.{Source}
use Rattle.text_glyphs.specs.declared.choice.CharacterTable.{CharacterTable}
use Rattle.text_glyphs.specs.declared.choice.CharacterTable.TheVariants.{Unicode, Other}
use Rattle.text_glyphs.specs.declared.source.TextSource.{TextSource}

abbrev pub chosen_view : CharacterTable → Chosen
chosen_view (Unicode table) = mapped (mapping_view table)
chosen_view (Other encoding table) = coded encoding table.now

abbrev pub source_view : TextSource → Source
source_view s = record { table = chosen_view s.table; sequences = option_copied s.sequences }
