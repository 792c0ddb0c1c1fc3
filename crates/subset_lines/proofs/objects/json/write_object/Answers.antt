use Rattle.std.proofs.Common.{sym}
use Rattle.subset_lines.specs.Objects.Json.{object_of}
use Rattle.plain_text.proofs.Written.{both, then}
use Rattle.subset_lines.proofs.objects.json.write_object.Goals as goal

pub returns : goal.returns
unfolding object_of
returns g c =
    let character = both _ _ _ _ _ c.in_ok-write_text.ensures c.in_ok-write_character.ensures in
    let old = both _ _ _ _ _ character c.in_ok-write_count.ensures in
    let opened = both _ _ _ _ _ old c.in_ok-write_text-2.ensures in
    let new = both _ _ _ _ _ opened c.in_ok-write_number_or_null.ensures in
    let name = both _ _ _ _ _ new c.in_ok-write_name.ensures in
    rw (sym c.from.ensures) (then c.write_text-3.result _ _ _ _ _ name c.write_text-3.ensures)
