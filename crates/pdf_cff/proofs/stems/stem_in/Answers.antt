use Rattle.std.proofs.Common.{◌≡◌, Some, length, map, sym, ◌∙◌, ap}
use Rattle.subsetter_cffdata.specs.Dicts.Operands.{operands_at}
use Rattle.subsetter_cffdata.specs.Dicts.ParserView.{left}
use Rattle.subsetter_cffdata.specs.Views.{number_of, operator_of}
use Rattle.subsetter_cff.proofs.WriteLaws.NewDictsLaws.Rewriting.{shorter}
use Rattle.pdf_cff.proofs.StemSteps.{said_here, said_later, stem_end, stem_next}
use Rattle.pdf_cff.proofs.stems.stem_in.Goals as goal

pub returns-in-Some-stem_of : goal.returns-in-Some-stem_of
returns-in-Some-stem_of c =
    let shown : Some (map number_of c.operands.result.now) ≡ operands_at (length c.loop-operator.parser.operands.now) (left c.loop-operator.parser) = ap Some c.operands.ensures ∙ c.in-Some.ensures.operands in
    said_here _ _ _ _ (stem_next c.args.units (left c.loop-operator.parser) (operator_of c.in-Some.operator) (left c.parse_entry.new.self) _ _ c.in-Some.ensures.value c.loop-operator.invariant.room shown ∙ c.loop-operator.invariant.found) (sym c.stem_of.ensures ∙ c.in-Some-stem_of.is)

pub loop-operator-smaller : goal.loop-operator-smaller
loop-operator-smaller c = shorter (left c.loop-operator.parser) (operator_of c.in-Some.operator) (left c.parse_entry.new.self) c.in-Some.ensures.value

pub loop-operator-preserved : goal.loop-operator-preserved
loop-operator-preserved c =
    let shown : Some (map number_of c.operands.result.now) ≡ operands_at (length c.loop-operator.parser.operands.now) (left c.loop-operator.parser) = ap Some c.operands.ensures ∙ c.in-Some.ensures.operands in
    record {
      found = said_later _ _ _ (stem_next c.args.units (left c.loop-operator.parser) (operator_of c.in-Some.operator) (left c.parse_entry.new.self) _ _ c.in-Some.ensures.value c.loop-operator.invariant.room shown ∙ c.loop-operator.invariant.found) (sym c.stem_of.ensures ∙ c.in_default-stem_of.is);
      room = c.in-Some.ensures.room ∙ c.loop-operator.invariant.room;
    }

pub returns : goal.returns
returns c = sym (stem_end c.args.units (left c.loop-operator.parser) c.in_default.ensures.value) ∙ c.loop-operator.invariant.found
