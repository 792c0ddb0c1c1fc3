-- What the code has of a table.
use Rattle.std.specs.Option.{option_copied}
use Rattle.pdf_cff.specs.Values.{CffValues}
use Rattle.pdf_cff.specs.declared.values.CffValues.{CffValues as Given}

abbrev pub cff_values_view : Given → CffValues
cff_values_view s = record { name = option_copied s.name; stem = s.stem }
