use Rattle.std.proofs.Common.{length}
use Rattle.subsetter_cffdata.specs.Dicts.ParserView.{left}
use Rattle.subsetter_cff.proofs.read.fd_array.font_dict.private_bytes.Given as goal

abbrev pub decreases-loop-operator : goal.decreases-loop-operator
decreases-loop-operator l = length (left l.parser)
