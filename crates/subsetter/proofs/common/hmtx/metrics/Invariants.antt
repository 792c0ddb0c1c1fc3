use Rattle.std.proofs.Common.{◌≡◌, ◌+◌, length}
use Rattle.subsetter_base.proofs.Results.{with_front}
use Rattle.subsetter.specs.Common.Hmtx.Written.{metrics_all}
use Rattle.subsetter.proofs.common.hmtx.metrics.Given as goal

abbrev pub invariant-loop-glyph : goal.invariant-loop-glyph
invariant-loop-glyph l =
    (with_front l.metrics.items (metrics_all l.hmtx l.count l.glyph-iterator) ≡ metrics_all l.hmtx l.count l.mapper)
    × (length l.metrics.items + length l.glyph-iterator ≡ length l.mapper)
