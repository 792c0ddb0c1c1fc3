-- When the code takes two columns for one.
use Rattle.std.specs.Prelude.{Bool, ◌&&◌}
use Rattle.std.specs.Ordering.{int_eq}
use Rattle.pdf_text.specs.declared.metrics.columns.Column.{Column}
use Rattle.pdf_glyphs.specs.declared.frequent.Key.{Key}

abbrev pub key_of : Column → Key
key_of c = record { y = c.y; advance = c.advance }

abbrev pub same_key : Key → Key → Bool
same_key a b = int_eq a.y b.y && int_eq a.advance b.advance
