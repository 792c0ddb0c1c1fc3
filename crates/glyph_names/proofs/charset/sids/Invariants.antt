use Rattle.std.proofs.Common.{◌≡◌, ◌++◌, ◌-◌}
use Rattle.glyph_names.specs.Charset.{sids}
use Rattle.glyph_names.specs.View.{run_view}
use Rattle.glyph_names.proofs.charset.sids.Given as goal

abbrev pub invariant-loop-i : goal.invariant-loop-i
invariant-loop-i l = l.found.items ++ sids l.format (l.count - l.i) (run_view l.run) ≡ sids l.format l.count (run_view l.start)
