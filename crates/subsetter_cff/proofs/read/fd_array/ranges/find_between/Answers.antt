use Rattle.std.proofs.Common.{◌∙◌, arith, ap, sym, Some, ℕ}
use Rattle.subsetter_cff.proofs.ReadLaws.FdArrayLaws.RangeLookups.{here, one_more}
use Rattle.subsetter_cff.proofs.read.fd_array.ranges.find_between.Goals as goal

pub returns-then-has : goal.returns-then-has
returns-then-has c =
    ap (λ (n : ℕ). Some n) c.number_of.ensures
    ∙ here c.args.bytes.now c.args.glyph _ c.loop-i.i (omega arith) (sym c.has.ensures ∙ c.if-has.true) ∙ c.loop-i.invariant

pub loop-i-preserved : goal.loop-i-preserved
loop-i-preserved c = one_more c.args.bytes.now c.args.glyph c.args.to c.loop-i.i _ (omega arith) (sym c.has.ensures ∙ c.if-has.false) c.loop-i.invariant
