use Rattle.std.proofs.Common.{sym, length-take, arith}
use Rattle.std.proofs.lemmas.List.{take_all}
use Rattle.pdf_font.proofs.font.front_of.Goals as goal

pub returns-then-bytes-size : goal.returns-then-bytes-size
returns-then-bytes-size c = sym (take_all c.args.size c.args.bytes.now (omega arith))

pub slice_bounds-result-end : goal.slice_bounds-result-end
slice_bounds-result-end c = simp length-take (omega arith)
