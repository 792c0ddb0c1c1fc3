use Rattle.std.proofs.Common.{◌≡◌, drop}
use Rattle.std.specs.Option.{ok_or}
use Rattle.subsetter_base.proofs.Results.{with_front}
use Rattle.subsetter_base.specs.declared.error.Error.TheVariants.{MalformedFont}
use Rattle.subsetter_variation.specs.Locations.Coordinates.{coordinates_at}
use Rattle.subsetter_variation.proofs.locations.coordinates.coordinates_at.Given as goal

abbrev pub invariant-loop-axis : goal.invariant-loop-axis
invariant-loop-axis l = record {
  bytes : l.r.bytes ≡ l.avar;
  read : with_front l.coordinates.items (ok_or (coordinates_at (drop l.axis-index l.axes) l.settings l.avar l.r.offset) MalformedFont) ≡ ok_or (coordinates_at l.axes l.settings l.avar 8) MalformedFont;
}
