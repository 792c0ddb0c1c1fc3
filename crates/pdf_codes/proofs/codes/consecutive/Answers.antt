use Rattle.pdf_codes.proofs.CodeLaws.{in_use_known}
use Rattle.pdf_codes.proofs.codes.consecutive.Goals as goal

pub numbers-requires : goal.numbers-requires
numbers-requires c = λ k d lt. in_use_known c.args.glyphs.now c.in_ok-mapper.mapper k d c.in_ok-mapper.ensures.ok lt
