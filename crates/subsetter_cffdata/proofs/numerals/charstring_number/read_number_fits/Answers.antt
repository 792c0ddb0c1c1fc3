use Rattle.subsetter_cffdata.proofs.NumeralsLaws.CharStringNumbers.{number_fits}
use Rattle.subsetter_cffdata.proofs.numerals.charstring_number.read_number_fits.Goals as goal

pub returns : goal.returns
returns c = number_fits
