use Rattle.std.proofs.Common.{map, subst}
use Rattle.std.specs.Io.KnownBytes.{Appends}
use Rattle.subset_lines.specs.Faces.Info.{permission_words, info_members}
use Rattle.plain_text.proofs.Written.{ended}
use Rattle.subset_lines.proofs.faces.info.json.write_info_json.Goals as goal

pub returns : goal.returns
returns g c =
    let written = subst (λ l. Appends (g.W.Write.contents c.args.out.now) (g.W.Write.contents c.write_members.new.out) (info_members c.args.info.now (map (λ w. w.now) l))) c.deref.ensures.value c.in_ok-write_members.ensures in
    let said = subst (λ l. Appends (g.W.Write.contents c.args.out.now) (g.W.Write.contents c.write_members.new.out) (info_members c.args.info.now l)) c.in-Ok.ensures written in
    ended c.flush.result (g.W.Write.contents c.args.out.now) (g.W.Write.contents c.write_members.new.out) (g.W.Write.contents c.flush.new.lines) (info_members c.args.info.now (permission_words c.args.info.now.permission)) said c.flush.ensures
