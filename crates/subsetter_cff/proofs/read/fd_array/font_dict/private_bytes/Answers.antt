use Rattle.subsetter_cffdata.specs.Dicts.ParserView.{left}
use Rattle.subsetter_cffdata.specs.Views.{operator_of}
use Rattle.subsetter_cff.proofs.WriteLaws.NewDictsLaws.Rewriting.{shorter}
use Rattle.subsetter_cff.proofs.read.fd_array.font_dict.private_bytes.Goals as goal

pub loop-operator-smaller : goal.loop-operator-smaller
loop-operator-smaller c = shorter (left c.loop-operator.parser) (operator_of c.in-Some.operator) (left c.parse_entry.new.self) c.in-Some.ensures.value
