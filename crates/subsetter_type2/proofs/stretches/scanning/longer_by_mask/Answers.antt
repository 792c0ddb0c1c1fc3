use Rattle.std.proofs.Common.{rules, arith}
use Rattle.subsetter_type2.proofs.StretchesLaws.Stretches.{by_mask}
use Rattle.subsetter_type2.proofs.stretches.scanning.longer_by_mask.Goals as goal

pub returns : goal.returns
returns c = record {
  sound = search rules;
  extends = by_mask c.args.charstring.now c.args.mask_len c.args.stretch _ _ c.with_operator.ensures (omega arith) c.is_mask.ensures c.if-not-is_mask.false c.if-mask_len-eq0.false;
  more = search rules;
  inside = search rules;
  few = search rules;
}
