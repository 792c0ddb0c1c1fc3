use Rattle.std.proofs.Common.{◌≡◌, Some, arith, ◌+◌, ◌∙◌, sym, ap, take, map, length, length-take, drop, List, ℕ}
use Rattle.std.proofs.Math.ListN.{set, length-set}
use Rattle.std.proofs.lemmas.List.{length-map, take-set}
use Rattle.subsetter_cffdata.specs.declared.numerals.number.Number.{Number as StoredNumber}
use Rattle.subsetter_cffdata.specs.Dicts.Dict.{entry_at}
use Rattle.subsetter_cffdata.specs.Views.{number_of, operator_of}
use Rattle.subsetter_cffdata.specs.Dicts.Operands.{operands_at}
use Rattle.subsetter_cffdata.specs.Reading.{rest}
use Rattle.subsetter_cffdata.specs.Dicts.Tokens.{operator_part}
use Rattle.subsetter_cffdata.proofs.DictsLaws.Shorter.{part_at_operator, part_at_none, token_shorter}
use Rattle.subsetter_cffdata.proofs.DictsLaws.OperandSteps.{goes_on, full, ends_here, cut, not_here, part_of_whole}
use Rattle.subsetter_cffdata.proofs.dicts.tokens.read_entry.Goals as goal

pub loop-found-smaller : goal.loop-found-smaller
loop-found-smaller c = token_shorter (rest c.loop-found.r) (rest c.next_token.new.r) _ c.in-Some.ensures.value

pub loop-found-preserved : goal.loop-found-preserved
loop-found-preserved c = record {
  operands = goes_on number_of c.loop-found.buffer c.loop-found.len (rest c.loop-found.r) (rest c.next_token.new.r) c.next_token.new.operand _ c.loop-found.invariant.operands (rw c.in-Operand.is at c.in-Some.ensures.value) c.loop-found.invariant.room;
  same = c.in-Some.ensures.same ∙ c.loop-found.invariant.same;
  room = omega (arith, c.loop-found.invariant.room, length-set c.loop-found.buffer c.loop-found.len c.next_token.new.operand);
}

pub returns-in-Operator-clause-operands : goal.returns-in-Operator-clause-operands
unfolding operands_at
returns-in-Operator-clause-operands c =
    ap (λ (xs : List StoredNumber). Some (map number_of xs)) (take-set c.loop-found.buffer c.loop-found.len c.next_token.new.operand)
    ∙ ends_here (map number_of (take c.loop-found.len c.loop-found.buffer)) (rest c.loop-found.r) _ _ (length c.args.buffer.now) _ (rw c.in-Operator.is at c.in-Some.ensures.value) c.loop-found.invariant.operands
    (omega (arith, length-map (take c.loop-found.len c.loop-found.buffer) number_of, length-take c.loop-found.len c.loop-found.buffer, c.loop-found.invariant.room, c.loop-found.auto.buffer))

pub returns-in-Operator-clause-operator : goal.returns-in-Operator-clause-operator
returns-in-Operator-clause-operator c =
    part_of_whole _ _ _ c.loop-found.invariant.operands
    ∙ part_at_operator (rest c.loop-found.r) (operator_of c.in-Operator.operator) (rest c.next_token.new.r) (rw c.in-Operator.is at c.in-Some.ensures.value)
    ∙ ap (λ (d : List ℕ). Some (operator_of c.in-Operator.operator, drop c.next_token.new.r.offset d)) (c.in-Some.ensures.same ∙ c.loop-found.invariant.same)
    ∙ ap (λ (n : ℕ). Some (operator_of c.in-Operator.operator, drop n c.args.bytes.now)) (sym c.offset.ensures)

pub returns-then-len-buffer-clause-operands : goal.returns-then-len-buffer-clause-operands
unfolding operands_at
returns-then-len-buffer-clause-operands c =
    let r = c.next_token.new.r in
    let here : rest r ≡ drop c.offset-then-len-buffer.result c.args.bytes.now = ap (drop r.offset) (c.in-Some.ensures.same ∙ c.loop-found.invariant.same) ∙ ap (λ (n : ℕ). drop n c.args.bytes.now) (sym c.offset-then-len-buffer.ensures) in
    let buffer = set c.loop-found.buffer c.loop-found.len c.next_token.new.operand in
    full (map number_of (take (c.loop-found.len + 1) buffer)) (rest r) (length c.args.buffer.now) _ _ (ap (λ (b : List ℕ). operator_part (entry_at b)) here ∙ c.in_ok-read-in-Operand.ensures)
    (goes_on number_of c.loop-found.buffer c.loop-found.len (rest c.loop-found.r) (rest r) c.next_token.new.operand _ c.loop-found.invariant.operands (rw c.in-Operand.is at c.in-Some.ensures.value) c.loop-found.invariant.room)
    (omega (arith, length-map (take (c.loop-found.len + 1) buffer) number_of, length-take (c.loop-found.len + 1) buffer, length-set c.loop-found.buffer c.loop-found.len c.next_token.new.operand, c.loop-found.auto.buffer, c.if-len-buffer.true))

pub returns-then-len-buffer-clause-operator : goal.returns-then-len-buffer-clause-operator
returns-then-len-buffer-clause-operator c =
    let r = c.next_token.new.r in
    let here : rest r ≡ drop c.offset-then-len-buffer.result c.args.bytes.now = ap (drop r.offset) (c.in-Some.ensures.same ∙ c.loop-found.invariant.same) ∙ ap (λ (n : ℕ). drop n c.args.bytes.now) (sym c.offset-then-len-buffer.ensures) in
    part_of_whole _ _ _ (goes_on number_of c.loop-found.buffer c.loop-found.len (rest c.loop-found.r) (rest r) c.next_token.new.operand _ c.loop-found.invariant.operands (rw c.in-Operand.is at c.in-Some.ensures.value) c.loop-found.invariant.room)
    ∙ ap (λ (b : List ℕ). operator_part (entry_at b)) here ∙ c.in_ok-read-in-Operand.ensures

pub returns-in_err-read-in-Operand-clause-operands : goal.returns-in_err-read-in-Operand-clause-operands
unfolding operands_at
returns-in_err-read-in-Operand-clause-operands c =
    let r = c.next_token.new.r in
    let here : rest r ≡ drop c.offset-then-len-buffer.result c.args.bytes.now = ap (drop r.offset) (c.in-Some.ensures.same ∙ c.loop-found.invariant.same) ∙ ap (λ (n : ℕ). drop n c.args.bytes.now) (sym c.offset-then-len-buffer.ensures) in
    rw c.from_residual.ensures (cut _ (rest r) (length c.args.buffer.now) _ (ap (λ (b : List ℕ). operator_part (entry_at b)) here ∙ c.in_err-read-in-Operand.ensures)
    (goes_on number_of c.loop-found.buffer c.loop-found.len (rest c.loop-found.r) (rest r) c.next_token.new.operand _ c.loop-found.invariant.operands (rw c.in-Operand.is at c.in-Some.ensures.value) c.loop-found.invariant.room))

pub returns-in_err-read-in-Operand-clause-operator : goal.returns-in_err-read-in-Operand-clause-operator
returns-in_err-read-in-Operand-clause-operator c =
    let r = c.next_token.new.r in
    let here : rest r ≡ drop c.offset-then-len-buffer.result c.args.bytes.now = ap (drop r.offset) (c.in-Some.ensures.same ∙ c.loop-found.invariant.same) ∙ ap (λ (n : ℕ). drop n c.args.bytes.now) (sym c.offset-then-len-buffer.ensures) in
    rw c.from_residual.ensures (part_of_whole _ _ _ (goes_on number_of c.loop-found.buffer c.loop-found.len (rest c.loop-found.r) (rest r) c.next_token.new.operand _ c.loop-found.invariant.operands (rw c.in-Operand.is at c.in-Some.ensures.value) c.loop-found.invariant.room)
    ∙ ap (λ (b : List ℕ). operator_part (entry_at b)) here ∙ c.in_err-read-in-Operand.ensures)

pub returns-clause-operands : goal.returns-clause-operands
unfolding operands_at
returns-clause-operands c = not_here _ (rest c.loop-found.r) (length c.args.buffer.now) _ c.in_default.ensures.value c.loop-found.invariant.operands

pub returns-clause-operator : goal.returns-clause-operator
returns-clause-operator c = part_of_whole _ _ _ c.loop-found.invariant.operands ∙ part_at_none (rest c.loop-found.r) c.in_default.ensures.value
