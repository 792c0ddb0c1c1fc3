use Rattle.std.proofs.Common.{◌≡◌, Some, length, map, sym, ◌∙◌, ap}
use Rattle.subsetter_cffdata.specs.Dicts.Dict.{entries}
use Rattle.subsetter_cffdata.specs.Dicts.Operands.{operands_at}
use Rattle.subsetter_cffdata.specs.Dicts.ParserView.{left}
use Rattle.subsetter_cffdata.specs.Views.{number_of, operator_of}
use Rattle.subsetter_cff.specs.Read.Entries.Fields.{demands_of}
use Rattle.subsetter_cff.specs.Read.Entries.Values.{DictValues, values_of, values_after}
use Rattle.subsetter_cff.proofs.ReadLaws.EntriesLaws.LastEntries.{meet_next, meet_end, fails_all, passes}
use Rattle.subsetter_cff.proofs.ReadLaws.EntriesLaws.SaidByEntries.{take_next, take_end, all_said}
use Rattle.subsetter_cff.proofs.WriteLaws.NewDictsLaws.Rewriting.{shorter}
use Rattle.subsetter_cff.proofs.read.entries.top_dict.read_entries.Goals as goal

pub returns-then-not-take_entry-clause-met : goal.returns-then-not-take_entry-clause-met
returns-then-not-take_entry-clause-met c =
    let shown : Some (map number_of c.operands.result.now) ≡ operands_at (length c.loop-operator.parser.operands.now) (left c.loop-operator.parser) = ap Some c.operands.ensures ∙ c.in-Some.ensures.operands in
    fails_all _ _ _ (meet_next c.args.demands (left c.loop-operator.parser) (operator_of c.in-Some.operator) (left c.parse_entry.new.self) _ _ c.in-Some.ensures.value c.loop-operator.invariant.room shown ∙ c.loop-operator.invariant.meet) (sym c.take_entry.ensures.met ∙ c.if-not-take_entry.true)

pub loop-operator-smaller : goal.loop-operator-smaller
loop-operator-smaller c = shorter (left c.loop-operator.parser) (operator_of c.in-Some.operator) (left c.parse_entry.new.self) c.in-Some.ensures.value

pub loop-operator-preserved : goal.loop-operator-preserved
loop-operator-preserved c =
    let shown : Some (map number_of c.operands.result.now) ≡ operands_at (length c.loop-operator.parser.operands.now) (left c.loop-operator.parser) = ap Some c.operands.ensures ∙ c.in-Some.ensures.operands in
    record {
      meet = passes _ _ _ (meet_next c.args.demands (left c.loop-operator.parser) (operator_of c.in-Some.operator) (left c.parse_entry.new.self) _ _ c.in-Some.ensures.value c.loop-operator.invariant.room shown ∙ c.loop-operator.invariant.meet) (sym c.take_entry.ensures.met ∙ c.if-not-take_entry.false);
      said =
          ap (λ (s : DictValues). values_after s (entries (left c.parse_entry.new.self))) c.take_entry.ensures.value
          ∙ take_next (values_of c.loop-operator.said) (left c.loop-operator.parser) (operator_of c.in-Some.operator) (left c.parse_entry.new.self) _ _ c.in-Some.ensures.value c.loop-operator.invariant.room shown
          ∙ c.loop-operator.invariant.said;
      room = c.in-Some.ensures.room ∙ c.loop-operator.invariant.room;
    }

pub returns-clause-met : goal.returns-clause-met
returns-clause-met c = sym (meet_end (demands_of c.args.demands) (left c.loop-operator.parser) c.in_default.ensures.value) ∙ c.loop-operator.invariant.meet

pub returns-clause-value : goal.returns-clause-value
returns-clause-value c = λ _. all_said (entries c.args.dict.now) _ (sym (take_end (values_of c.loop-operator.said) (left c.loop-operator.parser) c.in_default.ensures.value) ∙ c.loop-operator.invariant.said)
