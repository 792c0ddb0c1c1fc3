use Rattle.std.proofs.Common.{drop, map, []}
use Rattle.subset_lines.specs.Objects.Json.{objects}
use Rattle.plain_text.proofs.Written.{Reaches}
use Rattle.subset_lines.proofs.objects.json.write_entries.Given as goal

abbrev pub invariant-loop-index : goal.invariant-loop-index
invariant-loop-index g l = Reaches (g.W.Write.contents l.fn.out) (g.W.Write.contents l.out) (objects l.before l.mapper l.characters (drop l.index (map (λ name. name.now) l.names)) (drop l.index l.glyphs)) (objects [] l.mapper l.numbering.characters.now (map (λ name. name.now) l.names) l.glyphs)
