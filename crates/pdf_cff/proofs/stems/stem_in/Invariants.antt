use Rattle.std.proofs.Common.{◌≡◌, length}
use Rattle.subsetter_cffdata.specs.Dicts.Dict.{entries}
use Rattle.subsetter_cffdata.specs.Dicts.ParserView.{left}
use Rattle.pdf_cff.specs.Stems.{stem_in}
use Rattle.pdf_cff.proofs.stems.stem_in.Given as goal

abbrev pub invariant-loop-operator : goal.invariant-loop-operator
invariant-loop-operator l = record {
  found : stem_in l.units (entries (left l.parser)) ≡ stem_in l.units (entries l.dict);
  room : length l.parser.operands.now ≡ 2;
}

abbrev pub decreases-loop-operator : goal.decreases-loop-operator
decreases-loop-operator l = length (left l.parser)
