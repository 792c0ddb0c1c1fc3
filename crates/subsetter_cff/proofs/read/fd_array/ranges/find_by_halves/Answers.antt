use Rattle.std.proofs.Common.{◌∙◌, ◌≤◌, ◌<◌, ◌+◌, ◌-◌, ◌/◌, arith, ap, sym, Some, ℕ}
use Rattle.subsetter_cff.specs.Read.FdArray.Ranges.{first_of_range}
use Rattle.subsetter_cff.proofs.ReadLaws.FdArrayLaws.RangeLookups.{in_the_middle, up_from_middle, all_begin, in_none}
use Rattle.subsetter_cff.proofs.read.fd_array.ranges.find_by_halves.Goals as goal

pub loop-low-preserved-then-first_of-glyph : goal.loop-low-preserved-then-first_of-glyph
loop-low-preserved-then-first_of-glyph c =
    let middle = c.loop-low.low + (c.loop-low.high - c.loop-low.low) / 2 in
    let ends : first_of_range c.args.bytes.now (middle + 1) ≤ c.args.glyph = omega arith in
    record {
      below = up_from_middle c.args.bytes.now c.args.count c.args.glyph c.loop-low.low middle _ c.requires.sorted (omega arith) (omega arith) ends c.loop-low.invariant.below;
      above = c.loop-low.invariant.above;
      order = omega arith;
      within = c.loop-low.invariant.within;
    }

pub loop-low-preserved : goal.loop-low-preserved
loop-low-preserved c =
    let middle = c.loop-low.low + (c.loop-low.high - c.loop-low.low) / 2 in
    let begins : c.args.glyph < first_of_range c.args.bytes.now middle = omega arith in
    record {
      below = c.loop-low.invariant.below;
      above = λ k order within. all_begin c.args.bytes.now c.args.count c.args.glyph middle k c.requires.sorted order within begins;
      order = omega arith;
      within = omega arith;
    }

pub returns-else-glyph-first_of : goal.returns-else-glyph-first_of
returns-else-glyph-first_of c =
    let middle = c.loop-low.low + (c.loop-low.high - c.loop-low.low) / 2 in
    let begins : first_of_range c.args.bytes.now middle ≤ c.args.glyph = omega arith in
    let ends : c.args.glyph < first_of_range c.args.bytes.now (middle + 1) = omega arith in
    ap (λ (n : ℕ). Some n) c.number_of.ensures
    ∙ in_the_middle c.args.bytes.now c.args.count c.args.glyph c.loop-low.low middle _ c.requires.sorted (omega arith) (omega arith) begins ends c.loop-low.invariant.below

pub returns : goal.returns
returns c =
    sym (in_none c.args.bytes.now c.args.glyph _ c.loop-low.low (λ k order within. c.loop-low.invariant.above k (omega arith) (omega arith))) ∙ c.loop-low.invariant.below
