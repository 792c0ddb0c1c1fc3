use Rattle.std.proofs.Common.{arith}
use Rattle.std.proofs.lemmas.Grind.{get_or_default_zero}
use Rattle.pdf_codes.proofs.cmaps.texts.line_of.Goals as goal

pub returns-clause-is_line : goal.returns-clause-is_line
returns-clause-is_line c = record {
  code = omega arith;
  some = c.requires.some;
  units = λ k d l. omega (arith, c.type_inv.units k, get_or_default_zero c.args.units.now k d l);
}
