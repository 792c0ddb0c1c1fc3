use Rattle.std.proofs.Common.{sym, rules, w32}
use Rattle.std.proofs.lemmas.Int.{to_z-of_z}
use mir.Val.{SFits}
use Rattle.subset_lines.specs.Notes.{clamped_text}
use Rattle.subset_lines.proofs.notes.write_clamped.Goals as goal

pub returns : goal.returns
unfolding clamped_text
returns g c =
    let given : SFits w32 c.args.given = search rules in
    let taken : SFits w32 c.args.taken = search rules in
    rw (sym c.tag_bytes.ensures, sym (to_z-of_z w32 c.args.given given), sym (to_z-of_z w32 c.args.taken taken)) c.write_pieces.ensures
