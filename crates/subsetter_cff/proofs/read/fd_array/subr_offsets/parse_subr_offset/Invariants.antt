use Rattle.std.proofs.Common.{◌≡◌, length}
use Rattle.subsetter_cffdata.specs.Dicts.Dict.{entries}
use Rattle.subsetter_cffdata.specs.Dicts.ParserView.{left}
use Rattle.subsetter_cff.specs.Read.Entries.Operators.{subroutines_operator}
use Rattle.subsetter_cff.specs.Read.Entries.TopDicts.{first_offset}
use Rattle.subsetter_cff.proofs.read.fd_array.subr_offsets.parse_subr_offset.Given as goal

abbrev pub invariant-loop-operator : goal.invariant-loop-operator
invariant-loop-operator l = record {
  first : first_offset subroutines_operator (entries (left l.parser)) ≡ first_offset subroutines_operator (entries l.dict);
  room : length l.parser.operands.now ≡ 2;
}

abbrev pub decreases-loop-operator : goal.decreases-loop-operator
decreases-loop-operator l = length (left l.parser)
