use Rattle.std.proofs.Common.{w16, rules}
use Rattle.std.proofs.lemmas.Int.{to_z-of_z}
use mir.Val.{SFits}
use Rattle.own_glyphs.proofs.composite.both.Goals as goal

pub returns : goal.returns
returns c =
    let a : SFits w16 c.smaller.result = search rules in
    let b : SFits w16 c.smaller-2.result = search rules in
    let d : SFits w16 c.larger.result = search rules in
    let e : SFits w16 c.larger-2.result = search rules in
    rw (to_z-of_z w16 c.smaller.result a, to_z-of_z w16 c.smaller-2.result b, to_z-of_z w16 c.larger.result d, to_z-of_z w16 c.larger-2.result e, c.smaller.ensures, c.smaller-2.ensures, c.larger.ensures, c.larger-2.ensures) (search rules)
