use Rattle.std.proofs.Common.{◌≡◌, length}
use Rattle.subsetter_cffdata.specs.Dicts.Dict.{entries, operand_limit}
use Rattle.subsetter_cffdata.specs.Dicts.ParserView.{left, shown}
use Rattle.subsetter_cffdata.specs.Views.{operator_of}
use Rattle.subsetter_cff.specs.Read.Entries.Demands.{shown_if}
use Rattle.subsetter_cff.specs.Read.Entries.Lookup.{last_after, last_of}
use Rattle.subsetter_cff.proofs.read.entries.demands.show_last.Given as goal

abbrev pub invariant-loop-next : goal.invariant-loop-next
invariant-loop-next l = record {
  found : last_after (shown_if l.is_shown (shown l.parser)) (operator_of l.operator) (entries (left l.parser)) ≡ last_of (operator_of l.operator) (entries (left l.initial.parser));
  room : length l.parser.operands.now ≡ operand_limit;
}

abbrev pub decreases-loop-next : goal.decreases-loop-next
decreases-loop-next l = length (left l.parser)
