use Rattle.std.proofs.Common.{refl, ◌∙◌, sym}
use Rattle.subsetter_cffdata.specs.Reals.TextSteps.{shown}
use Rattle.subsetter_cffdata.proofs.RealsLaws.Texts.{step_ends, step_goes, step_fails, no_step}
use Rattle.subsetter_cffdata.proofs.reals.reading_text.text_of.Goals as goal

pub loop-i-preserved : goal.loop-i-preserved
loop-i-preserved c = sym (step_goes c.args.bytes.now c.loop-i.i _ (shown c.loop-i.text) (shown c.push_byte.new.self) c.loop-i-test.true refl (sym (rw c.if-branch.false at c.in_ok-push_byte.ensures))) ∙ c.loop-i.invariant

pub returns-clause-text : goal.returns-clause-text
returns-clause-text c = sym (no_step c.args.bytes.now c.loop-i.i (shown c.loop-i.text) c.loop-i-test.false) ∙ c.loop-i.invariant

pub returns-then-branch-clause-text : goal.returns-then-branch-clause-text
returns-then-branch-clause-text c = sym (step_ends c.args.bytes.now c.loop-i.i _ (shown c.loop-i.text) (shown c.push_byte.new.self) c.loop-i-test.true refl (sym (rw c.if-branch.true at c.in_ok-push_byte.ensures))) ∙ c.loop-i.invariant

pub returns-in_err-push_byte-clause-text : goal.returns-in_err-push_byte-clause-text
returns-in_err-push_byte-clause-text c = rw c.from_residual.ensures (sym (step_fails c.args.bytes.now c.loop-i.i _ (shown c.loop-i.text) c.loop-i-test.true refl (sym c.in_err-push_byte.ensures)) ∙ c.loop-i.invariant)
