-- What a parser shows of the entries of an operator.
use Rattle.std.specs.Prelude.{if◌then◌else◌, Bool, List, Option, Some, None}
use Rattle.subsetter_cffdata.specs.Numerals.Numbers.{Number}

-- what was found, or what is found now
abbrev pub found_now : Bool → Option (List Number) → Option (List Number) → Option (List Number)
found_now wanted now before = if wanted then now else before

-- what a parser shows, where it was asked to
abbrev pub shown_if : Bool → List Number → Option (List Number)
shown_if b xs = if b then Some xs else None
