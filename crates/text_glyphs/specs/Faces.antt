-- The tables of a face by which a text is read.
use Rattle.std.specs.Prelude.{Option, codes}
use Rattle.std.specs.Option.{option_and_then}
use Rattle.subsetter_sfnt.specs.Read.{Font, stored}
use Rattle.text_glyphs.specs.Reading.{Source, source_of}

-- those of its table `cmap`
abbrev pub face_source : Font → Option Source
face_source font = option_and_then source_of (stored font (codes "cmap"))
