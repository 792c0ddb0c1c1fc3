-- What a value of the code means.
use Rattle.glyph_names.specs.Charset.{Run as SidRun}
use Rattle.glyph_names.specs.declared.charset.Run.{Run}

abbrev pub run_view : Run → SidRun
run_view r = record { first = r.first; left = r.left; taken = r.taken; rest = r.rest.now }
