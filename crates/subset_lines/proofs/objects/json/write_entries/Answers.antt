use Rattle.std.proofs.Common.{List, ℕ, map, []}
use Rattle.std.specs.Borrow.{Bor}
use Rattle.subset_lines.specs.Objects.Json.{objects}
use Rattle.subset_lines.proofs.Named.{object_next}
use Rattle.plain_text.proofs.Written.{both}
use Rattle.subset_lines.proofs.objects.json.write_entries.Goals as goal

pub loop-index-preserved : goal.loop-index-preserved
loop-index-preserved g c =
    let numbering = c.args.numbering.now in
    let names : List (List ℕ) = map (λ (name : Bor (List ℕ)). name.now) numbering.names.now in
    let written = both _ _ _ _ _ c.in_ok-write_text.ensures c.in_ok-write_object.ensures in
    object_next (g.W.Write.contents c.args.out.now) (g.W.Write.contents c.loop-index.out) (g.W.Write.contents c.write_object.new.out) c.loop-index.before.now c.as_slice-before-in-loop-index.result.now numbering.mapper.now c.loop-index.characters.now c.take_first-character.result.1.now names numbering.glyphs.now c.loop-index.index (objects [] numbering.mapper.now numbering.characters.now names numbering.glyphs.now) c.take_first-character.result.0 c.get.result c.name_at-name.result.now c.loop-index-test.true c.loop-index.invariant c.take_first-character.ensures.first c.take_first-character.ensures.others c.name_at-name.ensures c.get.ensures c.as_slice-before-in-loop-index.ensures written
