use Rattle.std.proofs.Common.{sym, length-take, arith}
use Rattle.std.proofs.lemmas.List.{take_all}
use Rattle.pdf_names.proofs.moved_name.front_of.Goals as goal

pub returns-then-bytes-le110 : goal.returns-then-bytes-le110
returns-then-bytes-le110 c = sym (take_all 110 c.args.bytes.now (omega arith))

pub slice_bounds-result-end : goal.slice_bounds-result-end
slice_bounds-result-end c = simp length-take (omega arith)
