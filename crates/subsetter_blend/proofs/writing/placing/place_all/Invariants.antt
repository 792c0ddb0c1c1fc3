use Rattle.std.proofs.Common.{◌≡◌, length, drop}
use Rattle.subsetter_blend.specs.Writing.Laid.{laid}
use Rattle.subsetter_blend.specs.Writing.Placed.{IsPosition, placed}
use Rattle.subsetter_blend.proofs.WritingLaws.Following.{fresh}
use Rattle.subsetter_blend.proofs.writing.placing.place_all.Given as goal

abbrev pub invariant-loop-i : goal.invariant-loop-i
invariant-loop-i l = record {
  same : laid l.bytes.items (placed l.operator (length l.operands) l.i (drop l.i l.operands) (fresh l.at))
      ≡ laid l.initial.bytes.items (placed l.operator (length l.operands) 0 l.operands (fresh l.fn.start));
  at : IsPosition l.at;
}
