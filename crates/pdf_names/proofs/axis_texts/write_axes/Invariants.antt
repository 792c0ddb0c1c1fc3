use Rattle.std.proofs.Common.{◌≡◌, ◌++◌, drop}
use Rattle.pdf_names.specs.AxisTexts.{axes_text}
use Rattle.pdf_names.proofs.axis_texts.write_axes.Given as goal

abbrev pub invariant-loop-axis : goal.invariant-loop-axis
invariant-loop-axis l = l.text.items ++ axes_text (drop l.axis-index l.axes) l.settings ≡ l.fn.text.items ++ axes_text l.axes l.settings
