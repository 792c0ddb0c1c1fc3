use Rattle.std.proofs.Common.{◌≡◌, Ok, length, sym, ap, ◌∙◌, inl, inr, arith}
use Rattle.std.proofs.lemmas.Result.{err_from_is_err_and}
use Rattle.subsetter_base.specs.Within.{is_past}
use Rattle.subsetter_sfnt.specs.View.{views}
use Rattle.subsetter_sfnt.specs.Laying.Written.{file, kind_word}
use Rattle.subsetter_sfnt.proofs.Laws.LayingLaws.Written.{length-file}
use Rattle.subsetter_sfnt.proofs.Laws.LayingLaws.Bound.{no_room, has_room, past_file}
use Rattle.subsetter_sfnt.proofs.laying.construct.finish.Goals as goal

pub construct-requires-clause-room : goal.construct-requires-clause-room
construct-requires-clause-room g c =
    let size = c.in_ok-size.ensures.ok.1 in
    let room = c.in_ok-out.ensures.exact in
    omega (arith, length-file (kind_word c.args.flavor) (views g.T.TableBytes.bytes_of c.args.tables.now) c.requires.tables, size, room)

pub returns-in_err-size-clause-gives : goal.returns-in_err-size-clause-gives
returns-in_err-size-clause-gives g c =
    let p = err_from_is_err_and c.from_residual.result c.from_residual.ensures.1 in
    let ts = views g.T.TableBytes.bytes_of c.args.tables.now in
    rw (p.1, p.2, c.in_err-size.ensures.err.0) (inl (no_room (kind_word c.args.flavor) ts c.in_err-size.ensures.err.1))

pub returns-in_err-check_bound-clause-gives : goal.returns-in_err-check_bound-clause-gives
returns-in_err-check_bound-clause-gives g c =
    let p = err_from_is_err_and c.from_residual-in_err-check_bound.result c.from_residual-in_err-check_bound.ensures.1 in
    let ts = views g.T.TableBytes.bytes_of c.args.tables.now in
    let kind = kind_word c.args.flavor in
    let size : c.in_ok-size.size ≡ length (file kind ts) = omega (arith, length-file kind ts c.requires.tables, c.in_ok-size.ensures.ok.1) in
    rw (p.1, p.2) (inr (c.in_err-check_bound.ensures.err.0, past_file c.args.bytes kind ts (ap (is_past c.args.bytes) (sym size) ∙ c.in_err-check_bound.ensures.err.1)))

pub returns-clause-gives : goal.returns-clause-gives
returns-clause-gives g c = has_room (kind_word c.args.flavor) (views g.T.TableBytes.bytes_of c.args.tables.now) c.in_ok-size.ensures.ok.0 ∙ ap Ok (sym c.construct.ensures)

pub returns-clause-within : goal.returns-clause-within
returns-clause-within g c =
    let ts = views g.T.TableBytes.bytes_of c.args.tables.now in
    let kind = kind_word c.args.flavor in
    let size : length c.construct.result.items ≡ c.in_ok-size.size = omega (arith, ap length c.construct.ensures, length-file kind ts c.requires.tables, c.in_ok-size.ensures.ok.1) in
    ap (is_past c.args.bytes) size ∙ c.in_ok-check_bound.ensures.ok
