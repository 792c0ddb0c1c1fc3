use Rattle.std.proofs.Common.{◌≡◌, false, map, drop}
use Rattle.subset_lines.specs.Faces.Names.{name_of}
use Rattle.subset_task.specs.Faces.Named.{find_named, is_name_of}
use Rattle.subset_task.proofs.faces.named.find_named.Given as goal

abbrev pub invariant-loop-bytes : goal.invariant-loop-bytes
invariant-loop-bytes l = record {
  rest : find_named l.names l.name (map (λ b. b.now) (drop l.bytes-index l.records)) ≡ find_named l.names l.name (map (λ b. b.now) l.records);
  other : is_name_of l.name (name_of l.names l.other) ≡ false;
}
