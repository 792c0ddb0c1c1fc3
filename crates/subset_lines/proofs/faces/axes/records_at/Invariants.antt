use Rattle.std.proofs.Common.{◌≡◌, ◌-◌, map}
use Rattle.std.specs.Option.{ok_or}
use Rattle.subsetter_base.proofs.Results.{with_front}
use Rattle.subsetter_base.specs.declared.error.Error.TheVariants.{MalformedFont}
use Rattle.subset_lines.specs.Faces.Axes.{records_at}
use Rattle.subset_lines.proofs.faces.axes.records_at.Given as goal

abbrev pub invariant-loop-i : goal.invariant-loop-i
invariant-loop-i l = record {
  bytes : l.r.bytes ≡ l.fvar;
  read : with_front (map (λ b. b.now) l.records.items) (ok_or (records_at (l.count - l.i) l.size l.fvar l.r.offset) MalformedFont) ≡ ok_or (records_at l.count l.size l.fvar l.at) MalformedFont;
}
