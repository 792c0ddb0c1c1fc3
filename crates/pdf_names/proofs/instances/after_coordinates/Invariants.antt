use Rattle.std.proofs.Common.{◌≡◌, drop}
use Rattle.pdf_names.specs.Instances.{after_coordinates}
use Rattle.pdf_names.proofs.instances.after_coordinates.Given as goal

abbrev pub invariant-loop-axis : goal.invariant-loop-axis
invariant-loop-axis l = after_coordinates (drop l.axis-index l.axes) l.settings l.rest ≡ after_coordinates l.axes l.settings l.bytes
