use Rattle.std.proofs.Common.{length, refl, sym}
use Rattle.std.proofs.lemmas.Bool.{ltb-true}
use Rattle.std.proofs.lemmas.Option.{slice_get_read}
use Rattle.subsetter.proofs.common.post.marks.mark_in.Goals as goal

pub returns : goal.returns
returns c = slice_get_read c.args.marks.now (length c.args.marks.now) c.args.place c.in_ok-mark.mark.now refl (ltb-true c.args.place (length c.args.marks.now) (sym c.in_ok-mark.ensures.lookup.0)) c.in_ok-mark.ensures.lookup.1
