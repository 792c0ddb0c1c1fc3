use Rattle.std.proofs.Common.{◌≡◌, ◌≤◌, ◌+◌, ◌++◌, length, map}
use Rattle.std.specs.Vec.{vec_capacity, vec_len}
use Rattle.pdf_text.specs.Parts.{parts_view}
use Rattle.subsetter_pdf_c.specs.Written.{laid_out, laid_view}
use Rattle.subsetter_pdf_c.proofs.parts.all_laid_out.Given as goal

abbrev pub invariant-loop-list : goal.invariant-loop-list
invariant-loop-list l = record {
  parts : map laid_view l.list.items ++ map laid_out (parts_view l.rest.items) ≡ map laid_out (parts_view l.fn.parts.items);
  room : vec_len l.list + vec_len l.rest ≤ vec_capacity l.list;
}

abbrev pub decreases-loop-list : goal.decreases-loop-list
decreases-loop-list l = length l.rest.items
