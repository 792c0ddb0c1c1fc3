use Rattle.std.specs.Prelude.{pos}
use Rattle.std.specs.Fmt.{signed_decimal}
use Rattle.pdf_text.proofs.Pieces.{first_written}
use Rattle.pdf_text.proofs.numbers.write_integers.Goals as goal

pub loop-z-init : goal.loop-z-init
loop-z-init c = first_written signed_decimal (pos 0) c.args.text.now.items c.write_first.new.text.items c.args.numbers.now c.in-len1-up.len_at_least c.in_ok-write_first.ensures.ok
