use Rattle.std.proofs.Common.{◌≡◌, length, ap, ◌∙◌, arith}
use Rattle.subsetter_sfnt.proofs.Laws.FieldsLaws.HheaLaws.{length-hhea}
use Rattle.subsetter_cff_instance.proofs.FileLaws.Metrics.{eight_bytes}
use Rattle.subsetter_cff_instance.proofs.tables.hhea.Goals as goal

pub write_hhea-requires-clause-room : goal.write_hhea-requires-clause-room
write_hhea-requires-clause-room c =
    let eight : length c.extreme_bytes.result ≡ 8 = ap length c.extreme_bytes.ensures ∙ eight_bytes c.args.metrics.now c.args.extents in
    omega (arith, length-hhea c.args.count c.extreme_bytes.result c.args.source.now c.requires eight, ap length c.in_ok-hhea.ensures.items, c.in_ok-hhea.ensures.capacity)
