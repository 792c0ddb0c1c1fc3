use Rattle.std.proofs.Common.{sym}
use Rattle.plain_text.proofs.Written.{both, then}
use Rattle.subset_lines.proofs.notes.write_notes_array.Goals as goal

pub returns : goal.returns
returns g c =
    let coordinates = both _ _ _ _ _ c.in_ok-write_text.ensures c.in_ok-write_coordinate_strings.ensures in
    let missing = both _ _ _ _ _ coordinates c.in_ok-write_missing_string.ensures.text in
    let index = both _ _ _ _ _ missing c.in_ok-write_index_string.ensures in
    rw (sym c.comma_after.ensures, sym c.comma_after_both.ensures) (then c.write_text-2.result _ _ _ _ _ index c.write_text-2.ensures)
