use Rattle.std.proofs.Common.{rules, ◌<◌, ◌+◌, arith, get_or, ℕ}
use Rattle.subsetter_type2.proofs.StretchesLaws.FixedNumbers.{extends_fixed}
use Rattle.subsetter_type2.proofs.stretches.scanning.longer_by_fixed.Goals as goal

pub returns : goal.returns
returns c =
    let s = c.args.stretch in
    let charstring = c.args.charstring.now in
    let small : (k : ℕ) → get_or charstring k 0 < 256 = (λ k. let h = c.type_inv.charstring k in omega arith) in
    record {
      sound = search rules;
      extends = extends_fixed charstring _ s _ c.with_number.ensures (omega arith) (omega arith) (small (s.len + 1)) (small (s.len + 2)) (small (s.len + 3)) (small (s.len + 4)) (omega arith);
      more = search rules;
      inside = search rules;
      few = search rules;
    }
