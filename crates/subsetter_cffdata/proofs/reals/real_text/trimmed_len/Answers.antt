use Rattle.std.proofs.Common.{arith, sym, ◌∙◌}
use Rattle.subsetter_cffdata.proofs.RealsLaws.Trims.{one_zero, no_zero}
use Rattle.subsetter_cffdata.proofs.reals.real_text.trimmed_len.Goals as goal

pub loop-len-preserved : goal.loop-len-preserved
loop-len-preserved c = record {
  within = omega arith;
  kept = one_zero c.args.ds.now c.loop-len.len (omega arith) c.loop-len.invariant.within (omega arith) ∙ c.loop-len.invariant.kept;
}

pub returns-else-ds-len-eq0-clause-kept : goal.returns-else-ds-len-eq0-clause-kept
returns-else-ds-len-eq0-clause-kept c = sym (no_zero c.args.ds.now c.loop-len.len (omega arith) c.loop-len.invariant.within c.if-ds-len-eq0.false) ∙ c.loop-len.invariant.kept
