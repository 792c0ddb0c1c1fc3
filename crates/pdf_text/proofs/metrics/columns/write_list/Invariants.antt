use Rattle.std.proofs.Common.{◌≡◌, ◌++◌, map, drop}
use Rattle.std.specs.List.{join_with_byte}
use Rattle.pdf_text.specs.Metrics.Columns.{column_text, column_at}
use Rattle.subsetter_base.proofs.TextLemmas.{spaced}
use Rattle.pdf_text.proofs.metrics.columns.write_list.Given as goal

abbrev pub invariant-loop-m : goal.invariant-loop-m
invariant-loop-m l = l.text.items ++ spaced (map (λ m. column_text (column_at l.columns m)) (drop l.m-index l.rest)) ≡ l.fn.text.items ++ join_with_byte 32 (map (λ m. column_text (column_at l.columns m)) l.fn.marks)
