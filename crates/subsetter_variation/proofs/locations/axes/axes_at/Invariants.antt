use Rattle.std.proofs.Common.{◌≡◌, ◌-◌}
use Rattle.std.specs.Option.{ok_or}
use Rattle.subsetter_base.proofs.Results.{with_front}
use Rattle.subsetter_base.specs.declared.error.Error.TheVariants.{MalformedFont}
use Rattle.subsetter_variation.specs.Locations.Axes.{axes_at}
use Rattle.subsetter_variation.proofs.locations.axes.axes_at.Given as goal

abbrev pub invariant-loop-i : goal.invariant-loop-i
invariant-loop-i l = record {
  bytes : l.r.bytes ≡ l.fvar;
  read : with_front l.axes.items (ok_or (axes_at (l.count - l.i) l.size l.fvar l.r.offset) MalformedFont) ≡ ok_or (axes_at l.count l.size l.fvar l.at) MalformedFont;
}
