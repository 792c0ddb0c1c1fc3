use Rattle.std.proofs.Common.{◌≡◌, ◌+◌, ◌++◌, drop, map}
use Rattle.pdf_sheet.proofs.file.push_offsets.Given as goal

abbrev pub invariant-loop-offset : goal.invariant-loop-offset
invariant-loop-offset l = l.offsets.items ++ map (λ o. l.start + o) (drop l.offset-index l.more) ≡ l.fn.offsets.items ++ map (λ o. l.start + o) l.more
