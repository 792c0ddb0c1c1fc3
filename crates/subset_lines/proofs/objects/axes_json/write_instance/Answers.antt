use Rattle.std.proofs.Common.{sym}
use Rattle.subset_lines.specs.Objects.AxesJson.{instance_object}
use Rattle.plain_text.proofs.Written.{both, then}
use Rattle.subset_lines.proofs.objects.axes_json.write_instance.Goals as goal

pub returns : goal.returns
unfolding instance_object
returns g c =
    let named = both _ _ _ _ _ c.in_ok-write_text.ensures c.in_ok-write_name.ensures in
    let opened = both _ _ _ _ _ named c.in_ok-write_text-2.ensures in
    let settings = both _ _ _ _ _ opened c.in_ok-write_each.ensures in
    rw (sym c.of_instance.ensures, sym c.after_four.ensures, sym c.deref.ensures.value) (then c.write_text-3.result _ _ _ _ _ settings c.write_text-3.ensures)
