use Rattle.std.proofs.Common.{◌≡◌, length}
use Rattle.subsetter_cffdata.specs.Dicts.Dict.{entries, operand_limit}
use Rattle.subsetter_cffdata.specs.Dicts.ParserView.{left}
use Rattle.subsetter_cff.specs.Read.Opened.{all_lead}
use Rattle.subsetter_cff.proofs.read.fd_array.font_dict.all_lead.Given as goal

abbrev pub invariant-loop-operator : goal.invariant-loop-operator
invariant-loop-operator l = record {
  lead : all_lead l.offsets (entries (left l.parser)) ≡ all_lead l.offsets (entries l.dict);
  room : length l.parser.operands.now ≡ operand_limit;
}

abbrev pub decreases-loop-operator : goal.decreases-loop-operator
decreases-loop-operator l = length (left l.parser)
