use Rattle.subsetter_cffdata.proofs.NumeralsLaws.CharStringNumbers.{read_back}
use Rattle.subsetter_cffdata.proofs.numerals.charstring_number.number_is_read_again.Goals as goal

pub returns : goal.returns
returns c number fits rest = read_back number rest fits
