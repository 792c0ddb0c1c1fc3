use Rattle.std.proofs.Common.{sym}
use Rattle.subset_lines.specs.Missing.{missing_text}
use Rattle.plain_text.proofs.Written.{both, then}
use Rattle.subset_lines.proofs.missing.write_missing.Goals as goal

pub returns : goal.returns
unfolding missing_text
returns g c =
    let names = both _ _ _ _ _ c.in_ok-write_text.ensures c.in_ok-write_names.ensures in
    let others = both _ _ _ _ _ names c.in_ok-write_text-2.ensures in
    rw (sym c.first_three.ensures, sym c.others_text.ensures) (then c.write_text-3.result _ _ _ _ _ others c.write_text-3.ensures)
