use Rattle.std.proofs.Common.{arith}
use Rattle.subsetter_cff.proofs.write.glyphs.kept_glyphs.are_bytes.Goals as goal

pub returns : goal.returns
returns c = λ i. omega (arith, c.type_inv.numbers i)
