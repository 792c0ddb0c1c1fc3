use Rattle.std.proofs.Common.{◌≡◌, ◌<◌, ◌∙◌, arith, ap, length}
use Rattle.std.proofs.lemmas.Int.{ints}
use Rattle.subsetter_cffdata.specs.Reals.Decimals.{stripped, trimmed}
use Rattle.subsetter_cffdata.proofs.RealsLaws.PlainDigits.{plain_is, nothing_plain, kept_plain}
use Rattle.subsetter_cffdata.proofs.reals.real_text.decimal_from.Goals as goal

pub returns-then-kept-eq0 : goal.returns-then-kept-eq0
returns-then-kept-eq0 c =
    let none : length (stripped (trimmed c.args.ds.now)) ≡ 0 = omega (arith, ap length c.without_outer_zeros-kept.ensures.kept, c.if-kept-eq0.true) in
    c.plain_decimal.ensures ∙ nothing_plain c.args.negative c.args.ds.now c.args.power none

pub plain_decimal-requires-2-clause-plain : goal.plain_decimal-requires-2-clause-plain
plain_decimal-requires-2-clause-plain c =
    let some : 0 < length (stripped (trimmed c.args.ds.now)) = omega (arith, ap length c.without_outer_zeros-kept.ensures.kept, c.if-kept-eq0.false) in
    rw c.without_outer_zeros-kept.ensures.kept (kept_plain c.args.negative c.args.ds.now _ c.requires.digits some)

pub returns : goal.returns
returns c =
    let kept = c.without_outer_zeros-kept.ensures.kept in
    let some : 0 < length (stripped (trimmed c.args.ds.now)) = omega (arith, ap length kept, c.if-kept-eq0.false) in
    c.plain_decimal-2.ensures
    ∙ rw kept (plain_is c.args.negative c.args.ds.now c.args.power _ c.requires.digits some
    (omega (arith, ints, c.without_outer_zeros-kept.ensures.zeros, c.without_outer_zeros-kept.ensures.within, c.requires.room, c.requires.high)))
