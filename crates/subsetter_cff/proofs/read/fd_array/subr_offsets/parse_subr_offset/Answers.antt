use Rattle.std.proofs.Common.{sym, ◌∙◌}
use Rattle.subsetter_cffdata.specs.Dicts.ParserView.{left}
use Rattle.subsetter_cffdata.specs.Views.{operator_of}
use Rattle.subsetter_cff.specs.Read.Entries.Operators.{subroutines_operator}
use Rattle.subsetter_cff.proofs.ReadLaws.EntriesLaws.LastEntries.{first_here, first_next, first_end}
use Rattle.subsetter_cff.proofs.WriteLaws.NewDictsLaws.Rewriting.{shorter}
use Rattle.subsetter_cff.proofs.read.fd_array.subr_offsets.parse_subr_offset.Goals as goal

pub returns-then-same_operator : goal.returns-then-same_operator
returns-then-same_operator c =
    c.parse_offset.ensures.value
    ∙ first_here subroutines_operator _ _ (operator_of c.in-Some.operator) (left c.parse_next.new.self) _ c.in-Some.ensures.value (c.in-Some.ensures.room ∙ c.loop-operator.invariant.room) c.in-Some.ensures.entry (sym c.same_operator.ensures ∙ c.if-same_operator.true)
    ∙ c.loop-operator.invariant.first

pub loop-operator-smaller : goal.loop-operator-smaller
loop-operator-smaller c = shorter (left c.loop-operator.parser) (operator_of c.in-Some.operator) (left c.parse_next.new.self) c.in-Some.ensures.value

pub loop-operator-preserved : goal.loop-operator-preserved
loop-operator-preserved c = record {
  first = sym (first_next subroutines_operator (left c.loop-operator.parser) (operator_of c.in-Some.operator) (left c.parse_next.new.self) c.in-Some.ensures.value (sym c.same_operator.ensures ∙ c.if-same_operator.false)) ∙ c.loop-operator.invariant.first;
  room = c.in-Some.ensures.room ∙ c.loop-operator.invariant.room;
}

pub returns : goal.returns
returns c = sym (first_end subroutines_operator (left c.loop-operator.parser) c.in_default.ensures.value) ∙ c.loop-operator.invariant.first
