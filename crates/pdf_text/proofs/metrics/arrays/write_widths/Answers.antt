use Rattle.std.proofs.Common.{◌<◌, ◌^◌, length, arith}
use Rattle.std.proofs.lemmas.Result.{IfOk-weaker}
use Rattle.std.proofs.lemmas.Grind.{get_or_default_zero}
use Rattle.std.specs.Prelude.{All}
use Rattle.pdf_text.proofs.MetricsLaws.WidthLaws.Whole.{value_of_text}
use Rattle.pdf_text.proofs.metrics.arrays.write_widths.Goals as goal

pub returns-clause-read : goal.returns-clause-read
returns-clause-read c =
    let short : length c.args.widths.now < 2 ^ 64 = omega arith in
    let small : All (λ w. w < 2 ^ 64) c.args.widths.now = λ k d l. omega (arith, c.type_inv.widths k, get_or_default_zero c.args.widths.now k d l) in
    IfOk-weaker c.array_of.result _ _ (λ text e. value_of_text c.args.widths.now c.args.default text.items small short e) c.array_of.ensures.ok
