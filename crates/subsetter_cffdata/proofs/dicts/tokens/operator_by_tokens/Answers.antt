use Rattle.std.proofs.Common.{◌∙◌, ap, sym, List, ℕ, Some, drop}
use Rattle.subsetter_cffdata.specs.Views.{operator_of}
use Rattle.subsetter_cffdata.specs.Reading.{rest}
use Rattle.subsetter_cffdata.proofs.DictsLaws.Shorter.{part_at_operator, part_at_operand, part_at_none, token_shorter}
use Rattle.subsetter_cffdata.proofs.dicts.tokens.operator_by_tokens.Goals as goal

pub returns-in-Operator : goal.returns-in-Operator
returns-in-Operator c =
    sym c.loop-found.invariant.operator
    ∙ part_at_operator (rest c.loop-found.r) (operator_of c.in-Operator.operator) (rest c.next_token.new.r) (rw c.in-Operator.is at c.in-Some.ensures.value)
    ∙ ap (λ (d : List ℕ). Some (operator_of c.in-Operator.operator, drop c.next_token.new.r.offset d)) (c.in-Some.ensures.same ∙ c.loop-found.invariant.same)
    ∙ ap (λ (n : ℕ). Some (operator_of c.in-Operator.operator, drop n c.args.bytes.now)) (sym c.offset.ensures)

pub loop-found-preserved : goal.loop-found-preserved
loop-found-preserved c = record {
  operator = sym (part_at_operand _ _ _ (rw c.in_default-found.is at c.in-Some.ensures.value)) ∙ c.loop-found.invariant.operator;
  same = c.in-Some.ensures.same ∙ c.loop-found.invariant.same;
}

pub loop-found-smaller : goal.loop-found-smaller
loop-found-smaller c = token_shorter (rest c.loop-found.r) (rest c.next_token.new.r) _ c.in-Some.ensures.value

pub returns : goal.returns
returns c = sym c.loop-found.invariant.operator ∙ part_at_none (rest c.loop-found.r) c.in_default.ensures.value
