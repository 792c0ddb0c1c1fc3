use Rattle.std.proofs.Common.{◌≡◌, ◌-◌}
use Rattle.pdf_names.specs.Instances.{record_from}
use Rattle.pdf_names.proofs.instances.record_from.Given as goal

abbrev pub invariant-loop-i : goal.invariant-loop-i
invariant-loop-i l = record {
  bytes : l.r.bytes ≡ l.fvar;
  rest : record_from l.axes l.settings l.fvar l.size (l.count - l.i) l.r.offset ≡ record_from l.axes l.settings l.fvar l.size l.count l.at;
}
