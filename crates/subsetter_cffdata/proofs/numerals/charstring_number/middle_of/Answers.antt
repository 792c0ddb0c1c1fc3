use Rattle.std.proofs.Common.{arith}
use Rattle.subsetter_cffdata.proofs.NumeralsLaws.MiddleNumbers.{stored_written}
use Rattle.subsetter_cffdata.proofs.numerals.charstring_number.middle_of.Goals as goal

pub returns-clause-shortest : goal.returns-clause-shortest
returns-clause-shortest c =
    stored_written c.args.first c.args.second c.middle_value.result c.requires.low c.requires.high (omega arith) c.middle_value.ensures
