use Rattle.std.proofs.Common.{◌≡◌, ℕ, Some, Ok, length, map, sym, ◌∙◌, ap}
use Rattle.std.proofs.lemmas.Result.{err_from_is_err_and}
use Rattle.subsetter_cffdata.specs.Dicts.Operands.{operands_at}
use Rattle.subsetter_cffdata.specs.Dicts.ParserView.{left}
use Rattle.subsetter_cffdata.specs.Views.{number_of, operator_of}
use Rattle.subsetter_cff.proofs.ReadLaws.Failing.{fails_on, goes_on}
use Rattle.subsetter_cff.proofs.WriteLaws.NewDictsLaws.Rewriting.{shorter}
use Rattle.subsetter_cff2.specs.PrivateDicts.PrivateText.{private_text}
use Rattle.subsetter_cff2.proofs.PrivateDictsLaws.PrivateSteps.{entry_taken, at_end}
use Rattle.subsetter_cff2.proofs.private_dicts.private_at.write_private_at.Goals as goal

pub loop-operator-smaller : goal.loop-operator-smaller
loop-operator-smaller c = shorter (left c.loop-operator.parser) (operator_of c.in-Some.operator) (left c.parse_entry.new.self) c.in-Some.ensures.value

pub loop-operator-preserved : goal.loop-operator-preserved
loop-operator-preserved c =
    let shown : Some (map number_of c.operands.result.now) ≡ operands_at (length c.loop-operator.parser.operands.now) (left c.loop-operator.parser) = ap Some c.operands.ensures ∙ c.in-Some.ensures.operands in
    record {
      written = goes_on _ _ _ (record { text = c.take_entry.new.w; next = c.take_entry.new.stack })
          (entry_taken c.loop-operator.w c.args.variation.now c.loop-operator.stack (left c.loop-operator.parser) (operator_of c.in-Some.operator) (left c.parse_entry.new.self) _ _ c.in-Some.ensures.value c.loop-operator.invariant.room shown ∙ c.loop-operator.invariant.written)
          c.in_ok-take_entry.ensures.ok;
      room = c.in-Some.ensures.room ∙ c.loop-operator.invariant.room;
    }

pub returns-in_err-take_entry-clause-err : goal.returns-in_err-take_entry-clause-err
unfolding private_text
returns-in_err-take_entry-clause-err c =
    let shown : Some (map number_of c.operands.result.now) ≡ operands_at (length c.loop-operator.parser.operands.now) (left c.loop-operator.parser) = ap Some c.operands.ensures ∙ c.in-Some.ensures.operands in
    let p = err_from_is_err_and c.from_residual-in_err-take_entry.result c.from_residual-in_err-take_entry.ensures.1 in
    rw (p.1, p.2) (fails_on _ _ _ c.in_err-take_entry.field-0.0
    (entry_taken c.loop-operator.w c.args.variation.now c.loop-operator.stack (left c.loop-operator.parser) (operator_of c.in-Some.operator) (left c.parse_entry.new.self) _ _ c.in-Some.ensures.value c.loop-operator.invariant.room shown ∙ c.loop-operator.invariant.written)
    c.in_err-take_entry.ensures.err)

pub returns-clause-ok : goal.returns-clause-ok
unfolding private_text
returns-clause-ok c =
    sym c.loop-operator.invariant.written
    ∙ at_end c.loop-operator.w c.args.variation.now c.loop-operator.stack (left c.loop-operator.parser) c.in_default.ensures.value
    ∙ ap (λ (n : ℕ). Ok (record { text = c.loop-operator.w; data_index = n })) (sym c.data_index.ensures)
