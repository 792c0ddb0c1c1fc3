-- What the code's values mean.
use Rattle.pdf_widths.specs.Change.{Change}
use Rattle.pdf_widths.specs.Opening.{Opening}
use Rattle.pdf_widths.specs.declared.changing.Change.{Change as GivenChange}
use Rattle.pdf_widths.specs.declared.opening.Opening.{Opening as GivenOpening}

abbrev pub opening_view : GivenOpening → Opening
opening_view o = record { width = o.width; operands = o.operands; body = o.body.now }

abbrev pub change_view : GivenChange → Change
change_view c = record { width = c.width; body = c.body.now }
