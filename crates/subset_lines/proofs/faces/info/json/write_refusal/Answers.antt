use Rattle.std.proofs.Common.{sym}
use Rattle.subset_lines.specs.Faces.Info.{refusal_members}
use Rattle.plain_text.proofs.Written.{both, then}
use Rattle.subset_lines.proofs.faces.info.json.write_refusal.Goals as goal

pub returns : goal.returns
unfolding refusal_members
returns g c =
    let words = both _ _ _ _ _ c.in_ok-write_text.ensures c.in_ok-write_strings.ensures in
    rw (sym c.string_or_null.ensures, sym c.string_or_null-2.ensures) (then c.write_pieces.result _ _ _ _ _ words c.write_pieces.ensures)
