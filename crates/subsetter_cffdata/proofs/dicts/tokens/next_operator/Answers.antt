use Rattle.std.proofs.Common.{◌≡◌, ℕ, List, Some, drop, ap, sym, ◌∙◌, arith}
use Rattle.subsetter_cffdata.specs.Dicts.Plain.{plain_at}
use Rattle.subsetter_cffdata.specs.Reading.{rest}
use Rattle.subsetter_cffdata.specs.Views.{operator_of}
use Rattle.subsetter_cffdata.proofs.DictsLaws.Plains.{plain_operator, plain_end_at}
use Rattle.subsetter_cffdata.proofs.dicts.tokens.next_operator.Goals as goal

pub overflow_sub-result : goal.overflow_sub-result
overflow_sub-result c =
    let is : c.tail-left.result.now ≡ drop c.args.offset c.args.bytes.now = c.tail-left.ensures ∙ ap rest c.new_at.ensures in
    let e : plain_at (drop c.args.offset c.args.bytes.now) ≡ Some (operator_of c.in-Some.entry.operator, c.in-Some.entry.rest.now) = ap plain_at (sym is) ∙ sym c.in-Some.ensures in
    omega (arith, (plain_end_at c.args.bytes.now (operator_of c.in-Some.entry.operator) c.in-Some.entry.rest.now c.args.offset e).within)

pub returns-in-Some : goal.returns-in-Some
returns-in-Some c =
    let is : c.tail-left.result.now ≡ drop c.args.offset c.args.bytes.now = c.tail-left.ensures ∙ ap rest c.new_at.ensures in
    let e : plain_at (drop c.args.offset c.args.bytes.now) ≡ Some (operator_of c.in-Some.entry.operator, c.in-Some.entry.rest.now) = ap plain_at (sym is) ∙ sym c.in-Some.ensures in
    plain_operator (drop c.args.offset c.args.bytes.now) (operator_of c.in-Some.entry.operator) c.in-Some.entry.rest.now e
    ∙ ap (λ (l : List ℕ). Some (operator_of c.in-Some.entry.operator, l)) (sym (plain_end_at c.args.bytes.now (operator_of c.in-Some.entry.operator) c.in-Some.entry.rest.now c.args.offset e).there)
