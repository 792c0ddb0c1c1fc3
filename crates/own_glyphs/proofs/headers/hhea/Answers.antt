use Rattle.std.proofs.Common.{length, take, drop, ap, arith}
use Rattle.std.proofs.lemmas.List.{length-take, length-drop}
use Rattle.subsetter_sfnt.proofs.Laws.FieldsLaws.HheaLaws.{length-hhea}
use Rattle.own_glyphs.proofs.headers.hhea.Goals as goal

pub write_hhea-requires-clause-room : goal.write_hhea-requires-clause-room
write_hhea-requires-clause-room c =
    let source = c.args.source.now in
    omega (arith, length-hhea c.args.count (take 8 (drop 10 source)) source c.requires (omega (arith, length-take 8 (drop 10 source), length-drop 10 source, c.requires)), ap length c.in_ok-hhea.ensures.items, c.in_ok-hhea.ensures.capacity)
