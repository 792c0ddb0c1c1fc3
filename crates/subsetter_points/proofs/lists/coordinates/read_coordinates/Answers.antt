use Rattle.std.proofs.Common.{◌≡◌, ◌∷◌, ◌+◌, drop, get_or, w16, sym, ◌∙◌, arith, rules}
use Rattle.std.proofs.lemmas.List.{drop_more, drop_all}
use Rattle.std.proofs.lemmas.Int.{to_z-of_z}
use mir.Val.{SFits}
use Rattle.subsetter_points.proofs.ReadLemmas.{coordinates_none, coordinates_more, coordinates_end}
use Rattle.subsetter_points.proofs.lists.coordinates.read_coordinates.Goals as goal

-- src/coordinates.rt:29:13
pub returns-in_default-clause-ok : goal.returns-in_default-clause-ok
returns-in_default-clause-ok c =
    let all = c.args.flags.now in
    let i = c.loop-flag.flag-index in
    let d : drop i all ≡ get_or all i 0 ∷ drop (i + 1) all = drop_more all i 0 (omega arith) in
    sym (c.loop-flag.invariant.read ∙ coordinates_none c.loop-flag.coordinates.items c.args.short c.args.same (get_or all i 0) _ (drop i all) (drop (i + 1) all) c.loop-flag.rest.now d (sym c.in_default.ensures))

-- src/coordinates.rt:27:5
pub loop-flag-preserved : goal.loop-flag-preserved
loop-flag-preserved c =
    let all = c.args.flags.now in
    let i = c.loop-flag.flag-index in
    let d : drop i all ≡ get_or all i 0 ∷ drop (i + 1) all = drop_more all i 0 (omega arith) in
    let f : SFits w16 c.in-Some.x = search rules in
    let same = to_z-of_z w16 c.in-Some.x f in
    let more = coordinates_more c.loop-flag.coordinates.items c.args.short c.args.same (get_or all i 0) _ (drop i all) (drop (i + 1) all) c.loop-flag.rest.now (c.in-Some.x, c.in-Some.after.now) d (sym c.in-Some.ensures) in
    record {
      read = cc (more, same, c.loop-flag.invariant.read, c.push_reserved.ensures.items);
      len = omega (arith, c.push_reserved.ensures.len, c.loop-flag.invariant.len);
      room = omega (arith, c.loop-flag.invariant.room, c.push_reserved.ensures.capacity);
    }

-- src/coordinates.rt:13:1
pub returns-clause-ok : goal.returns-clause-ok
returns-clause-ok c = sym (c.loop-flag.invariant.read ∙ coordinates_end c.loop-flag.coordinates.items c.args.short c.args.same _ (drop c.loop-flag.flag-index c.args.flags.now) c.loop-flag.rest.now (drop_all c.loop-flag.flag-index c.args.flags.now (omega arith)))
