use Rattle.std.proofs.Common.{◌-◌, sym, ◌∙◌, arith}
use Rattle.subsetter_cffdata.proofs.DictsLaws.Plains.{plain_full, plain_more, plain_end}
use Rattle.subsetter_cffdata.proofs.dicts.plain.plain_entry.Goals as goal

pub returns-then-left-eq0 : goal.returns-then-left-eq0
returns-then-left-eq0 c = sym (plain_full c.loop-after.left c.loop-after.rest.now c.in-Some.after.now c.if-left-eq0.true (sym c.in-Some.ensures)) ∙ c.loop-after.invariant

pub loop-after-preserved : goal.loop-after-preserved
loop-after-preserved c = sym (plain_more (c.loop-after.left - 1) c.loop-after.left c.loop-after.rest.now c.in-Some.after.now (omega arith) (sym c.in-Some.ensures)) ∙ c.loop-after.invariant

pub returns : goal.returns
returns c = c.operator_at.ensures ∙ sym (plain_end c.loop-after.left c.loop-after.rest.now (sym c.in_default.ensures)) ∙ c.loop-after.invariant
