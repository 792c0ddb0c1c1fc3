use Rattle.std.proofs.Common.{rules, ◌≡◌, ◌+◌, ◌<◌, ◌/◌, ◌%◌, [], ◌∷◌, ◌++◌, refl, arith}
use Rattle.pdf_names.specs.Decimal.{digits}
use Rattle.pdf_names.proofs.Digits.{no_digit, one_digit}
use Rattle.pdf_names.proofs.decimal.write_digits.Goals as goal

pub loop-left-preserved : goal.loop-left-preserved
loop-left-preserved c =
    let some : 0 < c.loop-left.left = omega arith in
    let pushed : c.push.new.self.items ≡ c.loop-left.text.items ++ (48 + c.args.m / c.power.result % 10) ∷ [] = search rules in
    record {
      few = omega arith;
      written = one_digit c.loop-left.text.items c.loop-left.left c.args.m c.power.result (48 + c.args.m / c.power.result % 10) (c.args.text.now.items ++ digits c.args.k c.args.m) c.push.new.self.items some c.power.ensures.value refl pushed c.loop-left.invariant.written;
    }

pub returns-clause-ok : goal.returns-clause-ok
returns-clause-ok c =
    let none : c.loop-left.left ≡ 0 = omega arith in
    no_digit c.loop-left.text.items c.loop-left.left c.args.m (c.args.text.now.items ++ digits c.args.k c.args.m) none c.loop-left.invariant.written
