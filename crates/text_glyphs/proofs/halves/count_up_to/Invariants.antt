use Rattle.std.proofs.Common.{◌≡◌, ◌≤◌, ◌-◌}
use Rattle.text_glyphs.specs.Halves.{halves, key_at}
use Rattle.text_glyphs.proofs.halves.count_up_to.Given as goal

abbrev pub invariant-loop-step : goal.invariant-loop-step
invariant-loop-step l = record {
  order : l.low ≤ l.high;
  within : l.high ≤ l.count;
  same : halves (key_at l.table l.records.at l.records.size l.records.width) l.wanted (32 - l._step) l.low l.high ≡ halves (key_at l.table l.records.at l.records.size l.records.width) l.wanted 32 0 l.count;
}
