use Rattle.std.proofs.Common.{rules, ◌≡◌, ◌<◌, ◌≤◌, ◌+ℤ◌, ◌≤ℤ◌, ◌<ℤ◌, pos, negsuc, to_z, of_z, w32, true, arith, take, length}
use Rattle.std.proofs.lemmas.List.{length-take-le}
use Rattle.subsetter_cffdata.specs.Reals.Decimals.{is_zero, number, signed}
use Rattle.subsetter_cffdata.specs.Views.{decimal_of}
use Rattle.subsetter_cffdata.proofs.NumeralsLaws.Values.{zero_held, thousand_held, thousand_past, not_zero}
use Rattle.subsetter_cffdata.proofs.numerals.value.thousandfold_of.Goals as goal

pub returns-then-real-eq0 : goal.returns-then-real-eq0
returns-then-real-eq0 c =
    let r = c.args.real.now in
    let none : r.len ≡ 0 = omega (arith, c.if-real-eq0.true) in
    let zero_mantissa : is_zero (signed r.negative (number (take r.len r.digits))) ≡ true = rw none (search rules) in
    let low : negsuc 2147483647 ≤ℤ r.power = search rules in
    let high : r.power ≤ℤ pos 2147483647 = search rules in
    zero_held (decimal_of r) zero_mantissa low high

pub returns-then-real : goal.returns-then-real
returns-then-real c =
    let r = c.args.real.now in
    let ds = take r.len r.digits in
    let fits : r.len ≤ 64 = r.within in
    let long : length r.digits ≡ 64 = search rules in
    let some : 0 < length ds = omega (arith, length-take-le r.len r.digits (omega (arith, fits, long)), c.if-real-eq0.false) in
    let past : pos 2147483647 <ℤ (r.power +ℤ pos 3) = search rules in
    thousand_past (decimal_of r) (not_zero r.negative ds r.plain.front some) past

pub returns : goal.returns
returns c =
    let r = c.args.real.now in
    let ds = take r.len r.digits in
    let fits : r.len ≤ 64 = r.within in
    let long : length r.digits ≡ 64 = search rules in
    let some : 0 < length ds = omega (arith, length-take-le r.len r.digits (omega (arith, fits, long)), c.if-real-eq0.false) in
    let power = to_z w32 (of_z w32 (to_z w32 (of_z w32 r.power) +ℤ pos 3)) in
    let same : power ≡ r.power +ℤ pos 3 = search rules in
    let low : negsuc 2147483647 ≤ℤ power = search rules in
    let high : power ≤ℤ pos 2147483647 = search rules in
    thousand_held (decimal_of r) power (not_zero r.negative ds r.plain.front some) same low high
