use Rattle.std.proofs.Common.{drop, map, []}
use Rattle.subset_lines.specs.Objects.AxesJson.{instance_objects}
use Rattle.plain_text.proofs.Written.{Reaches}
use Rattle.subset_lines.proofs.objects.axes_json.write_instances.Given as goal

abbrev pub invariant-loop-bytes : goal.invariant-loop-bytes
invariant-loop-bytes g l = Reaches (g.W.Write.contents l.fn.out) (g.W.Write.contents l.out) (instance_objects l.before l.all.axes.items l.all.names (map (λ b. b.now) (drop l.bytes-index l.bytes-items))) (instance_objects [] l.all.axes.items l.all.names (map (λ b. b.now) l.bytes-items))
