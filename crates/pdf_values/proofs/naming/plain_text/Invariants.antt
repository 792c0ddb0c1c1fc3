use Rattle.std.proofs.Common.{◌≡◌, take}
use Rattle.std.specs.Prelude.{filter}
use Rattle.pdf_values.specs.Name.{is_name_character}
use Rattle.pdf_values.proofs.naming.plain_text.Given as goal

abbrev pub invariant-loop-b : goal.invariant-loop-b
invariant-loop-b l = l.text.items ≡ filter is_name_character (take l.b-index l.bytes)
