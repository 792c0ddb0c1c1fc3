use Rattle.subsetter.proofs.GlyfLaws.Back.{loca_room}
use Rattle.subsetter.proofs.truetype.locate.Goals as goal

pub subset-requires : goal.subset-requires
subset-requires c = loca_room c.args.outlines.now.items c.args.long c.requires c.in_ok-check_len.ensures.ok
