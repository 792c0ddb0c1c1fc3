use Rattle.std.proofs.Common.{◌≡◌, ◌≤◌, ◌-◌, ◌*◌, ◌^◌, drop, length, unsigned_abs}
use Rattle.subsetter_blend.specs.Writing.Split.{moved_by, pieces, split}
use Rattle.subsetter_blend.specs.Writing.Taking.{all_taken}
use Rattle.subsetter_blend.specs.Writing.Written.{width, fitted_piece}
use Rattle.subsetter_blend.proofs.writing.fitting.Fitting.draw_pieces.Given as goal

abbrev pub invariant-loop-start : goal.invariant-loop-start
invariant-loop-start l = record {
  same : all_taken fitted_piece (pieces (length l.operands - l.start) (length (width l.self.pen.advance)) (record { operator = l.operator; operands = moved_by l.before (drop l.start l.operands); mask = l.mask })) l.self
      ≡ all_taken fitted_piece (split (length (width l.fn.self.pen.advance)) (record { operator = l.operator; operands = l.operands; mask = l.mask })) l.fn.self;
  inside : l.start ≤ length l.operands;
  before : unsigned_abs l.before ≤ l.start * 2 ^ 48;
}

abbrev pub decreases-loop-start : goal.decreases-loop-start
decreases-loop-start l = length l.operands - l.start
