use Rattle.std.proofs.Common.{◌≡◌, ◌++◌, map, drop}
use Rattle.std.specs.List.{join_with_byte}
use Rattle.pdf_text.specs.Metrics.Arrays.{entry_text}
use Rattle.pdf_text.specs.View.{parts_view}
use Rattle.subsetter_base.proofs.TextLemmas.{spaced}
use Rattle.pdf_text.proofs.metrics.arrays.write_parts.Given as goal

abbrev pub invariant-loop-part : goal.invariant-loop-part
invariant-loop-part l = l.text.items ++ spaced (map entry_text (parts_view (drop l.part-index l.rest))) ≡ l.fn.text.items ++ join_with_byte 32 (map entry_text (parts_view l.fn.parts))
