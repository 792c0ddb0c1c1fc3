use Rattle.std.proofs.Common.{◌≡◌, length, ap, ◌∙◌, arith}
use Rattle.subsetter_sfnt.proofs.Laws.FieldsLaws.HeadLaws.{length-head}
use Rattle.subsetter_instance.proofs.FileLaws.Head.{eight_bytes}
use Rattle.subsetter_instance.proofs.tables.headers.head.Goals as goal

pub write_head-requires-clause-room : goal.write_head-requires-clause-room
write_head-requires-clause-room c =
    let eight : length c.box_bytes.result ≡ 8 = ap length c.box_bytes.ensures ∙ eight_bytes c.all_extents.result in
    omega (arith, length-head c.args.long c.box_bytes.result c.args.source.now c.requires eight, ap length c.in_ok-head.ensures.items, c.in_ok-head.ensures.capacity)
