use Rattle.plain_text.proofs.Written.{both, ended}
use Rattle.subset_lines.proofs.objects.json.write_json.Goals as goal

pub returns : goal.returns
returns g c =
    let objects = both _ _ _ _ _ c.in_ok-write_text.ensures c.in_ok-write_entries.ensures in
    let closed = both _ _ _ _ _ objects c.in_ok-write_text-2.ensures in
    let widths = both _ _ _ _ _ closed c.in_ok-write_widths.ensures in
    let members = both _ _ _ _ _ widths c.in_ok-write_text-3.ensures in
    let all = both _ _ _ _ _ members c.in_ok-write_text-4.ensures in
    ended c.flush.result _ _ _ _ all c.flush.ensures
