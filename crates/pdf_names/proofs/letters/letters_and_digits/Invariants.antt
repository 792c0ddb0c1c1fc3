use Rattle.std.proofs.Common.{◌≡◌, take}
use Rattle.std.specs.Prelude.{filter}
use Rattle.std.specs.Char.{is_ascii_alphanumeric}
use Rattle.pdf_names.proofs.letters.letters_and_digits.Given as goal

abbrev pub invariant-loop-b : goal.invariant-loop-b
invariant-loop-b l = l.text.items ≡ filter is_ascii_alphanumeric (take l.b-index l.bytes)
