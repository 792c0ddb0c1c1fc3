use Rattle.std.proofs.Common.{arith}
use Rattle.subsetter_cff.proofs.WriteLaws.NewDictsLaws.UsedNumbers.{used_are, counted, too_many, just_first}
use Rattle.subsetter_cff.proofs.write.new_dicts.font_dict_remapper.FontDictRemapper.of_used.Goals as goal

pub returns-then-are_zeros : goal.returns-then-are_zeros
returns-then-are_zeros c = just_first c.args.numbers.now (c.are_zeros.ensures.zeros c.if-are_zeros.true) (c.are_zeros.ensures.some c.if-are_zeros.true)

pub returns-then-len-gt255 : goal.returns-then-len-gt255
returns-then-len-gt255 c =
    let used = used_are c.args.numbers.now c.in_ok-numbers.numbers.items c.mark_used-used.result c.end_of.result c.end_of.ensures.within c.mark_used-used.ensures.marked c.end_of.ensures.none c.in_ok-numbers.ensures.ok in
    too_many c.args.numbers.now c.in_ok-numbers.numbers.items used (omega (arith, c.len.ensures, c.if-len-gt255.true))

pub returns : goal.returns
returns c =
    let used = used_are c.args.numbers.now c.in_ok-numbers.numbers.items c.mark_used-used.result c.end_of.result c.end_of.ensures.within c.mark_used-used.ensures.marked c.end_of.ensures.none c.in_ok-numbers.ensures.ok in
    counted c.args.numbers.now c.in_ok-numbers.numbers.items used (omega (arith, c.len.ensures, c.if-len-gt255.false))

pub invariant_of-result-2 : goal.invariant_of-result-2
invariant_of-result-2 c = omega (arith, c.len.ensures, c.if-len-gt255.false)
