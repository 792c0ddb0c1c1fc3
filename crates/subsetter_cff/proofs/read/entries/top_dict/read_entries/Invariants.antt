use Rattle.std.proofs.Common.{◌≡◌, length}
use Rattle.subsetter_cffdata.specs.Dicts.Dict.{entries}
use Rattle.subsetter_cffdata.specs.Dicts.ParserView.{left}
use Rattle.subsetter_cff.specs.Read.Entries.Fields.{demands_of}
use Rattle.subsetter_cff.specs.Read.Opened.{all_meet}
use Rattle.subsetter_cff.specs.Read.Entries.Values.{values_of, values_after, no_values}
use Rattle.subsetter_cff.proofs.read.entries.top_dict.read_entries.Given as goal

abbrev pub invariant-loop-operator : goal.invariant-loop-operator
invariant-loop-operator l = record {
  meet : all_meet (demands_of l.demands) (entries (left l.parser)) ≡ all_meet (demands_of l.demands) (entries l.dict);
  said : values_after (values_of l.said) (entries (left l.parser)) ≡ values_after no_values (entries l.dict);
  room : length l.parser.operands.now ≡ 7;
}

abbrev pub decreases-loop-operator : goal.decreases-loop-operator
decreases-loop-operator l = length (left l.parser)
