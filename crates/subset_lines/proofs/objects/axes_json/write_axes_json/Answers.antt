use Rattle.std.proofs.Common.{subst, []}
use Rattle.std.specs.Io.KnownBytes.{Appends}
use Rattle.subset_lines.specs.Objects.AxesJson.{axis_objects}
use Rattle.plain_text.proofs.Written.{both, ended}
use Rattle.subset_lines.proofs.objects.axes_json.write_axes_json.Goals as goal

pub returns : goal.returns
returns g c =
    let axes = subst (λ l. Appends (g.W.Write.contents c.write_text.new.out) (g.W.Write.contents c.write_axis_objects.new.out) (axis_objects [] l)) c.deref.ensures.value c.in_ok-write_axis_objects.ensures in
    let a = both _ _ _ _ _ c.in_ok-write_outlines_members.ensures c.in_ok-write_text.ensures in
    let b = both _ _ _ _ _ a axes in
    let d = both _ _ _ _ _ b c.in_ok-write_text-2.ensures in
    let e = both _ _ _ _ _ d c.in_ok-write_instances.ensures in
    let f = both _ _ _ _ _ e c.in_ok-write_text-3.ensures in
    ended c.flush.result _ _ _ _ f c.flush.ensures
