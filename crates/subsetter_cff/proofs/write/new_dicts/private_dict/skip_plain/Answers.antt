use Rattle.std.proofs.Common.{sym, ◌∙◌}
use Rattle.subsetter_cffdata.specs.Views.{operator_of}
use Rattle.subsetter_cffdata.proofs.DictsLaws.Plains.{plain_shorter}
use Rattle.subsetter_cff.proofs.WriteLaws.NewDictsLaws.Rewriting.{copied_none, copied_more}
use Rattle.subsetter_cff.proofs.write.new_dicts.private_dict.skip_plain.Goals as goal

pub loop-entry-init : goal.loop-entry-init
loop-entry-init c = copied_none c.args.bytes.now

pub loop-entry-preserved : goal.loop-entry-preserved
loop-entry-preserved c = copied_more c.args.bytes.now c.loop-entry.rest.now (operator_of c.in-Some.entry.operator) c.in-Some.entry.rest.now c.loop-entry.invariant (sym c.in-Some.ensures) (sym c.is_subroutines.ensures ∙ c.if-is_subroutines.false)

pub loop-entry-smaller : goal.loop-entry-smaller
loop-entry-smaller c = plain_shorter c.loop-entry.rest.now (operator_of c.in-Some.entry.operator) c.in-Some.entry.rest.now (sym c.in-Some.ensures)
